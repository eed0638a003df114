-- What a call comes to at its Decide, and what it then pays.
use Rattle.std.proofs.Common.{◌≡◌, ◌≢◌, refl, sym, ap, ◌∙◌, subst, ℕ, zero, suc, Bool, true, false, List, [], Option, Some, None, take}
use Rattle.std.proofs.lemmas.Bool.{true≢false}
use Rattle.std.proofs.lemmas.List.Elements.{All-nil, All-take}
use Rattle.std.specs.List.{All, Contains}
use Rattle.call_writes.specs.call_decisions.declared.settled.Settled.TheVariants as settlements
use Rattle.xsi_calls.proofs.HeldLemmas.{neither_is, no_first}
use Rattle.xsi_inquiry.specs.declared.verdict.Verdict.{Verdict}
use Rattle.xsi_calls.proofs.Names.{Due, Writing, decided_at, HasTried, HoldsWhereSwept, IsFiled, IsSettled, IsShortOfRoom, MayWrite, Means, Record, WillPay, Writes, answer_of, changes_by, is_full, is_full_at, last_of, owes, pays_what_is_decided, undoes_its_trials, undoing, writes_of}
use Rattle.xsi_calls.proofs.IdleLemmas.{idle_means, none_in}
use Rattle.xsi_calls.proofs.TrialLemmas.{IsOwnTrial, undoing_under}
use Rattle.xsi_calls.specs.Words.{Call, Caller, CallWrites, Change, Exclusive, IsPaying, LockName, Owes, OwesUnder, Plan, PoolState, QuestionsView, RecordKey, Records, Settled, State, Sweep, Table, Trying, begun_payment, caller_of, guard_of, its_plan, kind_of, locked_of, nothing, overlaid, owes_now}
use Rattle.xsi_calls.specs.Concluding.{IsRightConclusion, conclusion_by}

-- it pays, and has come to what the rules say
pub record Concluded (hash : RecordKey → ℕ) (seat : ℕ) (call : Call) (s : State) (q : QuestionsView) (full : Bool)
    (before : Owes) (settled : Option Settled) (trials : CallWrites) (records : Records) (pool : PoolState)
    (locks : Table) (change : Change) : Type 0 where
  pub pays : IsPaying hash seat q.names (its_plan call q) (begun_payment hash settled trials.due) records pool locks
      change
  pub right : IsRightConclusion (caller_of q.inquiry) call s q.room.bytes q.names full before
      (owes_now (its_plan call q) (begun_payment hash settled trials.due)) records (conclusion_by settled)

module _ (hash : RecordKey → ℕ) (seat : ℕ) (call : Call) (s : State) (q : QuestionsView) (full : Bool) (before : Owes)
    (trials : CallWrites) (records : Records) (pool : PoolState) (locks : Table) (change : Change)
    (before_is : before ≡ owes (its_plan call q) trials.due) where
  abbrev p : Plan
  p = its_plan call q

  abbrev c : Caller
  c = caller_of q.inquiry

  abbrev locked : List LockName
  locked = locked_of call q.inquiry

  abbrev Comes : Option Settled → Type 0
  Comes settled = Concluded hash seat call s q full before settled trials records pool locks change

  -- ---- all trials stand

  module _ (filed : IsFiled s) where
    abbrev Exclusively : List LockName → Type 0
    Exclusively held = (name : LockName) → Contains held name → kind_of q.names name ≡ Some Exclusive

    abbrev Tried : List LockName → Type 0
    Tried held = HasTried hash seat q.names held p trials records s pool locks change

    -- what is paid, under names that are held Exclusive
    will : (held : List LockName) → Exclusively held → Tried held → (settled : Settled) →
        HoldsWhereSwept q.names held settled → (means : Means c call held q.room.bytes s p settled) →
        WillPay hash seat q.names held p (begun_payment hash (Some settled) trials.due) records
        (last_of c call held q.room.bytes s p settled means records) pool locks change
    will held exclusive tried settled holds means =
        pays_what_is_decided hash seat q.names held p trials records s pool locks change tried filed c call q.room.bytes
        settled holds means

    -- it owed under them before, where all that it inserts is
    owed_under : (held : List LockName) → All (IsOwnTrial held) p.trials → Tried held → OwesUnder held before
    owed_under held own tried = subst (OwesUnder held) (sym (before_is ∙ ap (owes p) tried.due))
        (undoing_under held (take tried.place p.trials) (All-take (IsOwnTrial held) tried.place p.trials own))

    answers : (held : List LockName) → Exclusively held → All (IsOwnTrial held) p.trials → Tried held →
        (verdict : Verdict) →
        Means c call held q.room.bytes s p (settlements.Answers verdict) → Comes (Some (settlements.Answers verdict))
    answers held exclusive under tried verdict means =
        let pays = will held exclusive tried (settlements.Answers verdict) tt means in record {
          pays = pays.pays;
          right = record {
            after = means.after;
            rules = means.outcome;
            held = held;
            exclusive = exclusive;
            own = pays.own;
            tried = owed_under held under tried;
            leads = pays.leads;
            rest = means.owes.rest;
          };
        }

    sweeps : (held : List LockName) → Exclusively held → All (IsOwnTrial held) p.trials → Tried held →
        (sweep : Sweep) →
        Means c call held q.room.bytes s p (settlements.Sweeps sweep) → Comes (Some (settlements.Sweeps sweep))
    sweeps held exclusive under tried sweep means =
        let pays = will held exclusive tried (settlements.Sweeps sweep) exclusive means in record {
          pays = pays.pays;
          right = record {
            after = means.answer.after;
            rules = means.answer.outcome;
            held = held;
            exclusive = exclusive;
            own = pays.own;
            tried = owed_under held under tried;
            leads = pays.leads;
            rest = means.answer.owes.rest;
          };
        }

    -- without a name
    bare : Exclusively []
    bare name under = absurd (none_in name under)

    none_undone : (place : ℕ) (key : RecordKey) →
        overlaid (Writes (undoing (take place []))) records key ≡ records key
    none_undone zero key = refl
    none_undone (suc place) key = refl

    waits : (place : ℕ) → trials.due ≡ Trying place → Tried [] → Means c call [] q.room.bytes s p settlements.Waits →
        Comes (Some settlements.Waits)
    waits place due tried means =
        let pays = will [] bare tried settlements.Waits tt means in record {
          pays = pays.pays;
          right = record {
            rules = means.none;
            idle = λ key.
                ap (λ (x : Due). overlaid (owes p (decided_at x)) records key) due
                ∙ ap (λ (x : Plan). overlaid (owes x (Writing 0)) records key) means.idle;
            untried = λ key. ap (λ (o : Owes). overlaid o records key) (before_is ∙ ap (owes p) due)
                ∙ ap (λ (rs : List Record). overlaid (Writes (undoing (take place rs))) records key)
                (ap (λ (x : Plan). x.trials) means.idle) ∙ none_undone place key;
          };
        }

    module _ (settled : Settled) (is : IsSettled hash seat call s q settled trials records pool locks change) where
      tried_under : MayWrite call s q records → Tried locked
      tried_under may = record {
        carries = is.carries;
        rests = is.rests;
        place = is.place;
        due = is.tried;
        alike = may.alike;
      }

      tried_bare : Tried []
      tried_bare = record {
        carries = is.carries;
        rests = is.rests;
        place = is.place;
        due = is.tried;
        alike = λ key under. absurd (none_in (guard_of key) under);
      }

      untried_under : p.trials ≡ [] → All (IsOwnTrial []) p.trials
      untried_under none = subst (All (IsOwnTrial [])) (sym none) (All-nil (IsOwnTrial []))

      changes_some : changes_by p ≡ true → p ≢ nothing
      changes_some is_so none = true≢false (sym is_so ∙ ap changes_by none)

      by : (x : Settled) → settled ≡ x → Means c call locked q.room.bytes s p x → Comes (Some x)
      by (settlements.Answers verdict) same means = on (changes_by p) refl
        where
          on : (b : Bool) → changes_by p ≡ b → Comes (Some (settlements.Answers verdict))
          on true changes =
              let may = is.writes (changes_some changes) in
              answers locked may.exclusive may.own (tried_under may) verdict means
          on false idle =
              let none : p.trials ≡ [] = no_first p.trials (neither_is _ _ idle).0 in
              answers [] bare (untried_under none) tried_bare verdict (idle_means c call locked q.room.bytes s
              (answer_of verdict q.room.bytes) p.trials (writes_of p) none
              (no_first (writes_of p) (neither_is _ _ idle).1) means)
      by (settlements.Sweeps sweep) same means =
          let may = is.writes (is.sweeps sweep same) in
          sweeps locked may.exclusive may.own (tried_under may) sweep means
      by settlements.Waits same means =
          waits is.place is.tried tried_bare (record { none = means.none; idle = means.idle })

      pub settles : Comes (Some settled)
      settles = by settled refl is.means

  -- ---- a trial has no room

  pub short : IsShortOfRoom hash seat call q trials records pool locks change → full ≡ is_full trials → Comes None
  short is full_is =
      let (pays, owes_so) = undoes_its_trials hash seat q.names p trials records pool locks change is.standing
      is.carries is.rests is.full in record {
        pays = pays;
        right = record {
          lacks = full_is ∙ ap (λ (x : Due). is_full_at x trials.access) is.full;
          owed = λ key. ap (λ (o : Owes). overlaid o records key)
              (owes_so ∙ sym (ap (owes p) is.full) ∙ sym before_is);
        };
      }
