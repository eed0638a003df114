-- A payment begins with a sweep; and it ends, after few steps.
use Rattle.std.proofs.Common.{◌≡◌, refl, sym, ap, ◌∙◌, subst, ℕ, ◌*◌, ◌≤◌, Bool, true, false, List, Option, Some, None, IsSome, arith}
use Rattle.std.specs.Prelude.{◌||◌}
use Rattle.std.specs.List.{Contains}
use Rattle.call_decisions.specs.Settling.{IsSweepOf}
use Rattle.call_decisions.specs.declared.settled.Settled.TheVariants as settlements
use Rattle.call_writes.proofs.WriteLawLemmas.{few_deeds, owes_nothing, times_most}
use Rattle.call_writes.specs.Dues.{deeds_left, next_deed}
use Rattle.call_decisions.specs.Owing as owed
use Rattle.page_locks.specs.declared.lock.LockName.TheVariants as names_are
use Rattle.queue_records.specs.declared.record.Record.{Record}
use Rattle.call_writes.specs.WriteWords.{MOST_STEPS}
use Rattle.xsi_inquiry.specs.declared.write.TheConstants.{MAX_WRITES}
use Rattle.xsi_remove.proofs.LeftLemmas.{guard_is, swept_key}
use Rattle.xsi_remove.specs.Sweeps.{IsSweeping, begun_at}
use Rattle.xsi_remove.specs.declared.work.Deed.TheVariants.{Reading}
use Rattle.call_writes.proofs.PaymentBeginLemmas.{answer_pays, waiting_pays, will_write}
use Rattle.call_writes.proofs.PaymentNames.{AccessView, begins_right, begun_turn, ends_swept, locks_under, message_of, has_few_steps, written_local}
use Rattle.call_writes.proofs.RecordLemmas.{none_swept, stands_none, without_at}
use Rattle.call_writes.specs.PaymentStages as stages
use Rattle.call_writes.specs.PaymentWords.{RecordKey, PoolState, Table, Lock, Change, Store, store_of, StandsAt, Exclusive, LockName, kind_of, guard_of, Call, Caller, State, record_of, IsFiled, Sweep, IsSmall, Plan, Records, inserted, writes_of, without_swept, AreAlike, Writing, Due, CallWrites, CanGoOn, decided_at, owes, overlaid, Settled}
use Rattle.call_writes.specs.PaymentLaws.{HasTried, MOST_PAYMENT_STEPS, OwesNothingAtEnd, PaysWhatIsDecided, WillPay}
use Rattle.call_writes.specs.Payments.{begun_behind, begun_by, begun_payment, decided, payment_left, sweep_of}
use Rattle.call_writes.specs.Paying.{IsPaying}

or_true : (a b : Bool) → b ≡ true → (a || b) ≡ true
or_true true b is = refl
or_true false b is = is

-- ---- a sweep begins

module _ (hash : RecordKey → ℕ) (seat : ℕ) (names : List Lock) (held : List LockName) (p : Plan) (trials : CallWrites)
    (records : Records) (s : State) (pool : PoolState) (locks : Table) (change : Change)
    (t : HasTried hash seat names held p trials records s pool locks change) (filed : IsFiled s)
    (holds : (name : LockName) → Contains held name → kind_of names name ≡ Some Exclusive) (c : Caller) (call : Call)
    (sweep : Sweep) (is : IsSweepOf c call held s sweep p) where
  under_held : (key : RecordKey) → Contains held (guard_of key) → IsSome (kind_of names (guard_of key))
  under_held key under = subst IsSome (sym (holds (guard_of key) under)) refl

  alike : AreAlike held records (record_of s)
  alike = subst (λ (rs : List Record). AreAlike held records (inserted rs (record_of s))) is.no_trials t.alike

  abbrev file : Store
  file = store_of pool.images

  under_swept : (key : RecordKey) → owed.is_swept sweep.id key ≡ true → Contains held (guard_of key)
  under_swept key its = is.answer.owes.own key (rw its refl)

  stands_swept : (key : RecordKey) → owed.is_swept sweep.id key ≡ true → StandsAt file key (records key)
  stands_swept key its = t.carries.stands key (under_held key (under_swept key its))

  begins : IsSweeping hash sweep.id 0 is.begins.queue s (begun_at hash sweep.id sweep.first) file
  begins = begins_right hash sweep is.begins.queue s file filed is.begins.alive is.begins.first
      (λ key its. subst (StandsAt file key) (alike key (under_swept key its)) (stands_swept key its))

  can_behind : (others : Records) →
      ((key : RecordKey) → Contains held (guard_of key) → others key ≡ without_swept sweep.id records key) →
      CanGoOn p (Writing 0) others
  can_behind others same = record {
    owed = is.answer.owes.can others (λ key under.
        same key under ∙ without_at sweep.id records (record_of s) key (alike key under));
    in_range = is.answer.owes.in_range;
    may = tt;
  }

  by_first : (first : Option ℕ) → IsSweeping hash sweep.id 0 is.begins.queue s (begun_at hash sweep.id first) file →
      WillPay hash seat names held p (begun_behind (begun_at hash sweep.id first) trials.due) records
      (record_of is.answer.after) pool locks change
  by_first None sweeping =
      will_write hash seat names held p trials records s pool locks change t (record_of is.answer.after)
      (can_behind records (λ key under. empty key))
      (λ key there. is.answer.owes.own key (or_true (owed.is_swept sweep.id key) _ there))
      (λ key under. written_local (writes_of p) records (without_swept sweep.id records) key (empty key)
      ∙ is.answer.owes.leads records alike key under)
    where
      -- a queue without a message has none to sweep
      empty : (key : RecordKey) → records key ≡ without_swept sweep.id records key
      empty key = none_swept sweep.id records key (λ its. stands_none file key (records key)
          (ends_swept hash sweep.id 0 is.begins.queue s file sweeping key its) (stands_swept key its))
  by_first (Some first) sweeping = record {
    pays = record {
      id = sweep.id;
      count = 0;
      queue = is.begins.queue;
      system = s;
      faces = record {
        sees = record {
          honest = t.carries.sees.honest;
          file = t.carries.sees.file;
          sound = t.carries.sees.sound;
          known = tt;
        };
        bare = t.carries.bare;
        owns = holds (names_are.Queue sweep.id) its_name;
        row = t.carries.row ∙ ap (λ (o : Option AccessView). locks_under o names) t.rests;
        sweeps = sweeping;
      };
      goes_on = sweeping.works.goes_on;
      few = omega arith;
      small = t.carries.small;
      own = t.carries.own;
      stands = t.carries.stands;
      behind = λ others same. can_behind others (λ key under. same key (under_held key under));
    };
    own = is.answer.owes.own;
    leads = is.answer.owes.leads records alike;
  }
    where
      its_name : Contains held (names_are.Queue sweep.id)
      its_name = subst (Contains held) (guard_is Reading (begun_turn sweep.id first) sweep.id refl)
          (under_swept (message_of (begun_turn sweep.id first))
          (swept_key Reading (begun_turn sweep.id first) sweep.id refl))

  pub sweep_pays : WillPay hash seat names held p (begun_behind (begun_at hash sweep.id sweep.first) trials.due) records
      (record_of is.answer.after) pool locks change
  sweep_pays = by_first sweep.first begins

pub pays_what_is_decided : PaysWhatIsDecided
pays_what_is_decided hash seat names held p trials records s pool locks change t filed c call bytes
    (settlements.Answers verdict) holds is =
    answer_pays hash seat names held p trials records s pool locks change t c call _ is
pays_what_is_decided hash seat names held p trials records s pool locks change t filed c call bytes
    (settlements.Sweeps sweep) holds is =
    sweep_pays hash seat names held p trials records s pool locks change t filed holds c call sweep is
pays_what_is_decided hash seat names held p trials records s pool locks change t filed c call bytes
    settlements.Waits holds is =
    waiting_pays hash seat names held p trials records s pool locks change t c call is

-- ---- the end

pub owes_nothing_at_end : OwesNothingAtEnd
owes_nothing_at_end hash seat names p (stages.Sweeping v) records pool locks change y paid key = absurd paid
owes_nothing_at_end hash seat names p (stages.Writing w) records pool locks change y paid key =
    ap (λ (due : Due). overlaid (owes p due) records key) (sym y.decided)
    ∙ owes_nothing p w.due records key (ap (next_deed p) y.decided ∙ paid.last)
    (subst (λ (due : Due). CanGoOn p due records) (sym y.decided) y.carries.can)

-- ---- the steps

pub few_writes : (p : Plan) (due : Due) (records : Records) → IsSmall p → CanGoOn p due records →
    deeds_left p due * MOST_STEPS ≤ MAX_WRITES * MOST_STEPS
few_writes p due records small can =
    times_most (deeds_left p due) MAX_WRITES MOST_STEPS (few_deeds p due records small can)

module _ (hash : RecordKey → ℕ) (seat : ℕ) (names : List Lock) (p : Plan) (due : Due) (records : Records)
    (pool : PoolState) (locks : Table) (change : Change) (s : Store) where
  few_decided : IsPaying hash seat names p (stages.Writing (decided due)) records pool locks change →
      payment_left p (stages.Writing (decided due)) s ≤ MOST_PAYMENT_STEPS
  few_decided y =
      let few = few_writes p (decided_at due) records y.carries.small y.carries.can in
      omega (arith, few)

  few_behind : (sweep : Sweep) (first : Option ℕ) →
      IsPaying hash seat names p (begun_behind (begun_at hash sweep.id first) due) records pool locks change →
      payment_left p (begun_behind (begun_at hash sweep.id first) due) s ≤ MOST_PAYMENT_STEPS
  few_behind sweep None y = few_decided y
  few_behind sweep (Some first) y =
      let swept = has_few_steps hash (record { id = sweep.id; first = Some first }) s in
      let few = few_writes p (Writing 0) (without_swept y.id records) y.small
      (y.behind (without_swept y.id records) (λ key held. refl)) in
      omega (arith, swept, few)

  few_by : (found : Option Sweep) →
      IsPaying hash seat names p (begun_by hash found due) records pool locks change →
      payment_left p (begun_by hash found due) s ≤ MOST_PAYMENT_STEPS
  few_by None y = few_decided y
  few_by (Some sweep) y = few_behind sweep sweep.first y

pub has_few : (hash : RecordKey → ℕ) (seat : ℕ) (names : List Lock) (p : Plan) (settled : Option Settled) (due : Due)
    (records : Records) (pool : PoolState) (locks : Table) (change : Change) (s : Store) →
    IsPaying hash seat names p (begun_payment hash settled due) records pool locks change →
    payment_left p (begun_payment hash settled due) s ≤ MOST_PAYMENT_STEPS
has_few hash seat names p settled due records pool locks change s y =
    few_by hash seat names p due records pool locks change s (sweep_of settled) y
