-- A step of a call beside others.
use Rattle.std.proofs.Common.{ℕ, ◌≡◌, ◌≢◌, inl, inr, refl, sym, ap, ◌∙◌, subst, Bool, true, false, List, [], Option, Some, None, IsSome, IsTrue}
use Rattle.std.proofs.lemmas.Bool.{cases_eq}
use Rattle.std.specs.List.{Contains}
use Rattle.interleavings.proofs.StandLemmas.{all_stand}
use Rattle.call_decisions.proofs.OverlayLemmas.{overlaid_local, overlaid_rest}
use Rattle.page_locks.proofs.TableLemmas.{row_of-same}
use Rattle.page_locks.specs.Table.{held}
use Rattle.interleavings.proofs.ApartLemmas.{goes_over}
use Rattle.interleavings.proofs.AskLemmas.{asks_under_new_names, stays_undecided}
use Rattle.interleavings.proofs.BesideLemmas.{keeps_seat, sees_on}
use Rattle.interleavings.proofs.SeatCountLemmas.{counts_while_alive}
use Rattle.interleavings.proofs.SeatNameLemmas.{is_held}
use Rattle.interleavings.proofs.PayLemmas.{pays_on}
use Rattle.interleavings.proofs.StayLemmas.{behind_apart}
use Rattle.interleavings.specs.Apart.{IsAsGood}
use Rattle.interleavings.specs.Beside.{CountsUnder, LeavesSeat}
use Rattle.step_rules.proofs.KnownLemmas.{not_exclusive}
use Rattle.interleavings.specs.xsi_calls.Undecided.{facts_in, locks_in, owes_in}
use Rattle.interleavings.specs.xsi_calls.Knowing.{IsUndecidedIn}
use Rattle.interleavings.specs.xsi_calls.CallSteps.{GoesOnAt, StepsCall}
use Rattle.interleavings.specs.xsi_calls.Calling.{IsCallingAt}
use Rattle.interleavings.specs.xsi_calls.Machine.{call_facts, facts_at, locks_at, owes_at as owes_of_call}
use Rattle.interleavings.specs.xsi_calls.Words.{AreAlike, Exclusive, IsBehind, LockName, QuestionsView, Sees, guard_of, its_plan, kind_of}
use Rattle.interleavings.specs.xsi_calls.Undecided.{Trials}
use Rattle.interleavings.specs.xsi_calls.Stages.{Undecided, Paying, Releasing}
use Rattle.interleavings.specs.SeatWords.{names_in}
use Rattle.interleavings.specs.ConcurrentWords.{Call, CallView, Change, FileFault, HasFittingCall, HasFittingCaller, IsFiled, IsKeptApart, IsSeat, Lock, MakesCall, PoolState, Progress, RecordKey, Records, Stage, StandsAt, State, Table, UndecidedCall, call_locks, call_owes, counter_key, is_fault, overlaid, owes_at, record_of, row_of, store_of, world}
use Rattle.interleavings.specs.Together.{AreTogether, IsApartAt, IsUnderWay, IsWell, Seats, locks_of, owes_of}
use Rattle.interleavings.specs.ConcurrentLaws.{AreTheOthers, AreTogetherIn}
use Rattle.interleavings.proofs.ConcurrentCountLemmas.{HasCounter, IsCountedBy}
use Rattle.interleavings.proofs.DecideLemmas.{Leads}
use Rattle.interleavings.proofs.PlaceLemmas.{held_by, names_of}
use Rattle.interleavings.proofs.SeatLemmas.{none_beside, owes_held, well}

some_of : {X : Type 0} {o : Option X} {x : X} → o ≡ Some x → IsSome o
some_of is = subst IsSome (sym is) refl

-- ---- the seat that makes the step

-- after its own step it asks on where under its names there stand the records of the system
module _ (hash : RecordKey → ℕ) (seat : ℕ) (call : Call) (s : State) (u : UndecidedCall) (records : Records)
    (pool : PoolState) (locks : Table) (change : Change) (filed : IsFiled s)
    (stands : (key : RecordKey) → StandsAt (store_of pool.images) key (records key))
    (counts : (held : List LockName) → CountsUnder held (store_of pool.images) s) where
  asks_on : (o : Option Trials) → Sees hash seat (facts_in u.questions o) pool locks change →
      row_of locks seat ≡ locks_in u.questions o →
      ((key : RecordKey) → Contains (names_in u.questions.names) (guard_of key) →
      overlaid (owes_in call u.questions o) records key ≡ record_of s key) →
      IsBehind hash seat call s u.questions o records pool locks change →
      IsUndecidedIn hash seat call s u.questions o records pool locks change
  asks_on None sees row will on = asks_under_new_names hash seat call s u.questions records pool locks change on sees
      row filed (λ key under. stands key) will (counts (names_in u.questions.names))
  asks_on (Some t) sees row will on = on

  goes_at : (stage : Stage) → Sees hash seat (facts_at u stage) pool locks change →
      row_of locks seat ≡ locks_at u stage → ((key : RecordKey) → Contains (names_in u.questions.names) (guard_of key) →
      overlaid (owes_of_call call u stage) records key ≡ record_of s key) →
      GoesOnAt hash seat call s u stage records pool locks change →
      IsCallingAt hash seat call s u stage records pool locks change
  goes_at Undecided sees row will on = asks_on u.trials sees row will on
  goes_at (Paying v conclusion) sees row will on = on
  goes_at (Releasing conclusion) sees row will on = on

apart_at : (hash : RecordKey → ℕ) (seat : ℕ) (call : Call) (s : State) (u : UndecidedCall) (stage : Stage)
    (records : Records) (pool : PoolState) (locks : Table) (change : Change) →
    GoesOnAt hash seat call s u stage records pool locks change → IsApartAt call u stage
apart_at hash seat call s u Undecided records pool locks change on =
    behind_apart hash seat call s u.questions u.trials records pool locks change on
apart_at hash seat call s u (Paying v conclusion) records pool locks change on = tt
apart_at hash seat call s u (Releasing conclusion) records pool locks change on = tt

-- ---- another seat

-- beside the step, over the same system
beside_at : (hash : RecordKey → ℕ) (seat : ℕ) (call : Call) (s : State) (u : UndecidedCall) (stage : Stage)
    (records after : Records) (pool pool' : PoolState) (locks locks' : Table) (change change' : Change) →
    LeavesSeat hash seat pool pool' locks locks' change change' →
    ((key : RecordKey) → IsSome (kind_of u.questions.names (guard_of key)) → records key ≡ after key) →
    ((held : List LockName) → CountsUnder held (store_of pool'.images) s) →
    IsCallingAt hash seat call s u stage records pool locks change →
    IsCallingAt hash seat call s u stage after pool' locks' change'
beside_at hash seat call s u Undecided records after pool pool' locks locks' change change' leaves same counts is =
    stays_undecided hash seat call s u records after
    (λ key under. same key (is_held u.questions.names (guard_of key) under)) pool pool' locks locks' change change'
    leaves is (counts (names_in u.questions.names))
beside_at hash seat call s u (Paying v conclusion) records after pool pool' locks locks' change change' leaves same
    counts is = record {
      names = is.names;
      pays = pays_on hash seat u.questions.names (its_plan call u.questions) v records after same pool pool' locks
          locks' change change' leaves is.pays;
    }
beside_at hash seat call s u (Releasing conclusion) records after pool pool' locks locks' change change' leaves same
    counts is = record {
      names = is.names;
      sees = sees_on hash seat [] pool pool' locks locks' change change' leaves is.sees;
      row = leaves.row ∙ is.row;
    }

-- over the system to which the step leads
over_at : (hash : RecordKey → ℕ) (seat : ℕ) (call : Call) (s t : State) (u : UndecidedCall) (stage : Stage)
    (records : Records) (pool : PoolState) (locks : Table) (change : Change) →
    (IsKeptApart call u.questions → IsAsGood call u.questions s t) → IsApartAt call u stage →
    IsCallingAt hash seat call s u stage records pool locks change →
    IsCallingAt hash seat call t u stage records pool locks change
over_at hash seat call s t u Undecided records pool locks change good apart is =
    goes_over hash seat call s t u records pool locks change (good apart) is
over_at hash seat call s t u (Paying v conclusion) records pool locks change good apart is = is
over_at hash seat call s t u (Releasing conclusion) records pool locks change good apart is = is

-- ---- the step

module _ (hash : RecordKey → ℕ) (seat : ℕ) (s : State) (stopped : Bool) (did : Progress FileFault)
    (old new : CallView) (seats seats' : Seats) (pool pool' : PoolState) (locks locks' : Table)
    (t : AreTogether hash s seats pool locks) (seated : IsSeat locks seat) (there : seats seat ≡ Some old)
    (mark : s.stopped ≡ stopped) (made : MakesCall hash seat stopped did old new pool pool' locks locks')
    (fine : is_fault did ≡ false) (now : seats' seat ≡ Some new) (others : AreTheOthers seat seats seats') where
  pub at : IsUnderWay hash seat s old t.records pool locks t.change
  at = well hash seat s (seats seat) t.records pool locks t.change old there (t.calls seat)

  pub step : StepsCall hash seat s did old new t.records pool pool' locks locks' t.change
  step = made.step s t.records t.change at.calls mark fine

  abbrev pub after : Records
  after = step.after

  abbrev pub change' : Change
  change' = step.step.after

  honest : IsTrue pool'.honest
  honest = subst IsTrue (sym made.writes.honest) t.honest

  row : row_of locks' seat ≡ call_locks new
  row = ap (λ (x : Table). row_of x seat) made.row ∙ row_of-same locks seat (call_locks new) seated

  rows : (i : ℕ) → row_of locks' i ≡ locks_of (seats' i)
  rows i = elim (cases_eq i seat) [
    | inl same ↦ ap (row_of locks') same ∙ row ∙ ap locks_of (sym now) ∙ ap (λ (x : ℕ). locks_of (seats' x)) (sym same)
    | inr apart ↦ step.step.others.leaves.rows i apart ∙ t.rows i ∙ ap locks_of (sym (others i apart))
  ]

  pub stand : (key : RecordKey) → StandsAt (store_of pool'.images) key (after key)
  stand = all_stand hash seat s did old new t.records pool pool' locks locks' t.change t.sound fine step t.stands row

  sees : Sees hash seat (call_facts new) pool' locks' change'
  sees = record {
    honest = honest;
    file = step.step.file;
    sound = step.step.others.sound;
    known = step.step.known;
  }

  leaves : (i : ℕ) → i ≢ seat → LeavesSeat hash i pool pool' locks locks' t.change change'
  leaves i apart = keeps_seat hash i seat pool pool' locks locks' t.change change' apart t.sound honest step.step.file
      step.step.others

  -- ---- names

  same_held : (i : ℕ) → i ≢ seat → (name : LockName) → held locks' i name ≡ held locks i name
  same_held i apart name = ap (λ (ls : List Lock). kind_of ls name) (step.step.others.leaves.rows i apart)

  -- where another seat holds the name of a record, the step does not write it
  pub unwritten : (i : ℕ) → i ≢ seat → (key : RecordKey) → IsSome (held locks i (guard_of key)) →
      kind_of (names_of new) (guard_of key) ≡ Some Exclusive → ⊥
  unwritten i apart key theirs mine = not_exclusive (world pool'.images locks' change') i seat (guard_of key)
      step.step.others.sound.lawful.pairs apart (subst IsSome (sym (same_held i apart (guard_of key))) theirs)
      (held_by locks' seat new row key ∙ mine)

  pub stays : (i : ℕ) → i ≢ seat → (key : RecordKey) → IsSome (held locks i (guard_of key)) →
      after key ≡ t.records key
  stays i apart key theirs = step.elsewhere key (unwritten i apart key theirs)

  -- what it owes no other seat holds
  pub their_hold : (i : ℕ) (key : RecordKey) → owes_at (owes_of (seats i)) key ≡ true →
      held locks i (guard_of key) ≡ Some Exclusive
  their_hold i key owes = owes_held hash s t.records pool locks t.change i (seats i) (t.rows i) (t.calls i) key owes

  -- where it holds a name after the step no other seat owes the record
  pub none_owed : (i : ℕ) → i ≢ seat → (key : RecordKey) → IsSome (kind_of (names_of new) (guard_of key)) →
      owes_at (owes_of (seats i)) key ≡ false
  none_owed i apart key mine = by (owes_at (owes_of (seats i)) key) refl
    where
      by : (b : Bool) → owes_at (owes_of (seats i)) key ≡ b → b ≡ false
      by false is = refl
      by true is = absurd (not_exclusive (world pool'.images locks' change') seat i (guard_of key)
          step.step.others.sound.lawful.pairs (λ (same : seat ≡ i). apart (sym same))
          (subst IsSome (sym (held_by locks' seat new row key)) mine)
          (same_held i apart (guard_of key) ∙ their_hold i key is))

  -- ---- to a system

  module _ (u : State) (leads : Leads (names_of new) (call_owes old) (call_owes new) t.records after s u) where
    pub will_here : (key : RecordKey) → ((i : ℕ) → i ≢ seat → owes_at (owes_of (seats i)) key ≡ false) →
        overlaid (call_owes new) after key ≡ record_of u key
    will_here key none = leads.leads key
        (subst (λ (o : Option CallView). overlaid (owes_of o) t.records key ≡ record_of s key) there
        (t.will seat key none))

    module _ (i : ℕ) (apart : i ≢ seat) (key : RecordKey)
        (none : (other : ℕ) → other ≢ i → owes_at (owes_of (seats' other)) key ≡ false) where
      free : owes_at (call_owes new) key ≡ false
      free = subst (λ (o : Option CallView). owes_at (owes_of o) key ≡ false) now
          (none seat (λ (same : seat ≡ i). apart (sym same)))

      -- nor do those at which nothing has changed
      still : (other : ℕ) → other ≢ seat → other ≢ i → owes_at (owes_of (seats other)) key ≡ false
      still other its own = subst (λ (o : Option CallView). owes_at (owes_of o) key ≡ false) (others other its)
          (none other own)

      will_there : overlaid (owes_of (seats i)) after key ≡ record_of u key
      will_there = by (owes_at (owes_of (seats i)) key) refl
        where
          by : (b : Bool) → owes_at (owes_of (seats i)) key ≡ b →
              overlaid (owes_of (seats i)) after key ≡ record_of u key
          by false is = overlaid_rest (owes_of (seats i)) after key is
              ∙ sym (overlaid_rest (call_owes new) after key free)
              ∙ will_here key (λ other its. elim (cases_eq other i) [
                | inl same ↦ subst (λ (x : ℕ). owes_at (owes_of (seats x)) key ≡ false) (sym same) is
                | inr own ↦ still other its own
              ])
          by true is = overlaid_local (owes_of (seats i)) after t.records key (stays i apart key mine)
              ∙ t.will i key (λ other own. elim (cases_eq other seat) [
                | inl same ↦ subst (λ (x : ℕ). owes_at (owes_of (seats x)) key ≡ false) (sym same)
                    (none_beside hash s seats pool locks t i seat apart key mine)
                | inr its ↦ still other its own
              ])
              ∙ sym (leads.rest key (unwritten i apart key mine))
            where
              mine : IsSome (held locks i (guard_of key))
              mine = some_of (their_hold i key is)

    pub wills : (i : ℕ) (key : RecordKey) → ((other : ℕ) → other ≢ i → owes_at (owes_of (seats' other)) key ≡ false) →
        overlaid (owes_of (seats' i)) after key ≡ record_of u key
    wills i key none = elim (cases_eq i seat) [
      | inl same ↦ subst (λ (o : Option CallView). overlaid (owes_of o) after key ≡ record_of u key)
          (sym now ∙ ap seats' (sym same))
          (will_here key (λ other its. subst (λ (o : Option CallView). owes_at (owes_of o) key ≡ false)
          (others other its) (none other (λ (is : other ≡ i). its (is ∙ same)))))
      | inr apart ↦ subst (λ (o : Option CallView). overlaid (owes_of o) after key ≡ record_of u key)
          (sym (others i apart)) (will_there i apart key none)
    ]

    -- ---- the calls

    module _ (counter : HasCounter after s) (same : new.stage ≡ Undecided → u ≡ s)
        (good : (call : Call) (q : QuestionsView) → IsKeptApart call q →
        AreAlike (names_in q.names) (record_of u) (record_of s) → IsAsGood call q s u) where
      counts_now : (names : List LockName) → CountsUnder names (store_of pool'.images) s
      counts_now names = counts_while_alive names (store_of pool'.images) s counter.counter
          (subst (StandsAt (store_of pool'.images) counter_key) counter.counts (stand counter_key)) counter.next

      -- its own
      own_will : (key : RecordKey) → Contains (names_in (names_of new)) (guard_of key) →
          overlaid (call_owes new) after key ≡ record_of u key
      own_will key under =
          will_here key (λ i apart. none_owed i apart key (is_held (names_of new) (guard_of key) under))

      own_calls : IsCallingAt hash seat new.call u new.undecided new.stage after pool' locks' change'
      own_calls = by new.stage refl
        where
          by : (stage : Stage) → new.stage ≡ stage →
              IsCallingAt hash seat new.call u new.undecided new.stage after pool' locks' change'
          by Undecided is = subst (λ (x : State). IsCallingAt hash seat new.call x new.undecided new.stage after pool'
              locks' change') (sym (same is)) (goes_at hash seat new.call s new.undecided after pool' locks' change'
              t.filed stand counts_now new.stage sees row (λ key under. own_will key under
              ∙ ap (λ (x : State). record_of x key) (same is)) step.behind)
          by (Paying v conclusion) is =
              subst (λ (x : Stage). IsCallingAt hash seat new.call u new.undecided x after pool' locks' change')
              (sym is)
              (subst (λ (x : Stage). GoesOnAt hash seat new.call s new.undecided x after pool' locks' change') is
              step.behind)
          by (Releasing conclusion) is =
              subst (λ (x : Stage). IsCallingAt hash seat new.call u new.undecided x after pool' locks' change')
              (sym is)
              (subst (λ (x : Stage). GoesOnAt hash seat new.call s new.undecided x after pool' locks' change') is
              step.behind)

      own : IsUnderWay hash seat u new after pool' locks' change'
      own = record {
        caller_fits = subst HasFittingCaller (sym made.aim.caller) at.caller_fits;
        call_fits = subst HasFittingCall (sym made.aim.call) at.call_fits;
        calls = own_calls;
        apart = apart_at hash seat new.call s new.undecided new.stage after pool' locks' change' step.behind;
      }

      -- that of another seat
      theirs : (i : ℕ) → i ≢ seat → (m : CallView) → row_of locks i ≡ call_locks m →
          IsUnderWay hash i s m t.records pool locks t.change → IsUnderWay hash i u m after pool' locks' change'
      theirs i apart m its is = record {
        caller_fits = is.caller_fits;
        call_fits = is.call_fits;
        calls = over_at hash i m.call s u m.undecided m.stage after pool' locks' change'
            (λ kept. good m.call m.undecided.questions kept (λ key under. leads.rest key (unwritten i apart key
            (holds key (is_held (names_of m) (guard_of key) under)))))
            is.apart (beside_at hash i m.call s m.undecided m.stage t.records after pool pool' locks locks' t.change
            change' (leaves i apart) (λ key mine. sym (stays i apart key (holds key mine))) counts_now is.calls);
        apart = is.apart;
      }
        where
          holds : (key : RecordKey) → IsSome (kind_of (names_of m) (guard_of key)) →
              IsSome (held locks i (guard_of key))
          holds key mine = subst IsSome (sym (held_by locks i m its key)) mine

      wells : (i : ℕ) → i ≢ seat → (o : Option CallView) → row_of locks i ≡ locks_of o →
          IsWell hash i s o t.records pool locks t.change → IsWell hash i u o after pool' locks' change'
      wells i apart None its is = tt
      wells i apart (Some m) its is = theirs i apart m its is

      calls_now : (i : ℕ) → IsWell hash i u (seats' i) after pool' locks' change'
      calls_now i = elim (cases_eq i seat) [
        | inl same ↦ subst (λ (x : ℕ). IsWell hash x u (seats' x) after pool' locks' change') (sym same)
            (subst (λ (o : Option CallView). IsWell hash seat u o after pool' locks' change') (sym now) own)
        | inr apart ↦ subst (λ (o : Option CallView). IsWell hash i u o after pool' locks' change')
            (sym (others i apart)) (wells i apart (seats i) (t.rows i) (t.calls i))
      ]

      gathered : IsCountedBy after u seats' → AreTogether hash u seats' pool' locks'
      gathered counted = record {
        honest = honest;
        file = step.step.file;
        change = change';
        sound = step.step.others.sound;
        filed = leads.filed;
        records = after;
        stands = stand;
        rows = rows;
        calls = calls_now;
        will = wills;
        counter = counted.counter;
        counts = counted.counts;
        next = counted.next;
      }

      pub together : IsCountedBy after u seats' → AreTogetherIn hash u seats' pool' locks' change'
      unfolding gathered
      together counted = record { together = gathered counted; phase = refl }
