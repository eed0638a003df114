-- A call lacks no room when it begins, and comes to lacking it only by a trial that has none.
use Rattle.std.proofs.Common.{ℕ, ◌≡◌, refl, sym, ap, ◌∙◌, Bool, true, false, true≢false, List, Option, Some, None}
use Rattle.interleavings.specs.Serving.{lacks_by}
use Rattle.interleaving_core.specs.xsi_calls.CallSteps.{KeepsCall, StepsCall}
use Rattle.interleaving_core.specs.xsi_calls.Concluding.{IsRightConclusion}
use Rattle.interleaving_core.specs.xsi_calls.Machine.{IsNew, IsOver, IsOverAt, call_owes, conclusion_at}
use Rattle.interleaving_core.specs.xsi_calls.Stages.{Paying, Releasing, Stage, Undecided}
use Rattle.interleaving_core.specs.xsi_calls.Words.{Change, Lock, Owes, Records, has_no_room}
use Rattle.interleaving_core.specs.xsi_calls.declared.conclusion.Conclusion.{Conclusion}
use Rattle.interleaving_core.specs.xsi_calls.declared.conclusion.Conclusion.TheVariants as conclusions
use Rattle.interleaving_core.specs.xsi_calls.Undecided.{Trials}
use Rattle.xsi_calls.proofs.Names.{is_full, trials_in}
use Rattle.interleavings.specs.Words.{Call, CallView, Caller, FileFault, PoolState, Progress, RecordKey, State, Table, conclusion_of, lacks_room}

-- one that has just begun lacks none
pub fresh_room : (m : CallView) → IsNew m → lacks_room m ≡ false
fresh_room m new =
    ap (λ (x : Stage). lacks_by (conclusion_at x) (has_no_room m.undecided)) new.stage
    ∙ ap (λ (o : Option Trials). is_full (trials_in o)) new.fresh.untried

-- one that is over has come to something
pub over_concluded : (m : CallView) → IsOver m → conclusion_of m ≡ None → ⊥
over_concluded m over none = by m.stage over none
  where
    by : (stage : Stage) → IsOverAt m.call m.undecided stage → conclusion_at stage ≡ None → ⊥
    by Undecided over none = over
    by (Paying payment done) over none = cc
    by (Releasing done) over none = cc

-- what it has come to tells it, whatever its trials are
by_conclusion : (c : Conclusion) (full other : Bool) → lacks_by (Some c) full ≡ true → lacks_by (Some c) other ≡ true
by_conclusion (conclusions.Answers verdict) full other lacks = lacks
by_conclusion conclusions.Waits full other lacks = lacks
by_conclusion conclusions.HasNoRoom full other lacks = refl

-- and it comes to that where a trial lacked it
was_full : (caller : Caller) (call : Call) (s : State) (bytes : List ℕ) (names : List Lock) (full other : Bool)
    (before o : Owes) (records : Records) (c : Conclusion) →
    IsRightConclusion caller call s bytes names full before o records c → lacks_by (Some c) other ≡ true → full ≡ true
was_full caller call s bytes names full other before o records (conclusions.Answers verdict) right lacks = absurd cc
was_full caller call s bytes names full other before o records conclusions.Waits right lacks = absurd cc
was_full caller call s bytes names full other before o records conclusions.HasNoRoom right lacks = right.lacks

-- a trial had room, and has none, before its call's Decide
pub record TurnsFull (old new : CallView) : Type 0 where
  pub before : conclusion_of old ≡ None
  pub room_before : has_no_room old.undecided ≡ false
  pub none_then : has_no_room new.undecided ≡ true
  pub undecided : conclusion_of new ≡ None

module _ (hash : RecordKey → ℕ) (seat : ℕ) (s : State) (did : Progress FileFault) (old new : CallView)
    (records : Records) (pool pool' : PoolState) (locks locks' : Table) (change : Change) (aim : KeepsCall did old new)
    (step : StepsCall hash seat s did old new records pool pool' locks locks' change) (room : lacks_room old ≡ false)
  where
    not_short : {X : Type 0} → (o : Option Conclusion) → conclusion_of old ≡ o →
        lacks_by o (has_no_room old.undecided) ≡ true → X
    not_short o is lacks = absurd (true≢false (sym lacks
        ∙ sym (ap (λ (x : Option Conclusion). lacks_by x (has_no_room old.undecided)) is) ∙ room))

    turns : (b : Bool) → has_no_room old.undecided ≡ b → conclusion_of old ≡ None → conclusion_of new ≡ None →
        has_no_room new.undecided ≡ true → TurnsFull old new
    turns true full is still lacks = not_short None is full
    turns false had is still lacks =
        record { before = is; room_before = had; none_then = lacks; undecided = still }

    undecided : conclusion_of old ≡ None → (o : Option Conclusion) → conclusion_of new ≡ o →
        lacks_by o (has_no_room new.undecided) ≡ true → TurnsFull old new
    undecided is None still lacks = turns (has_no_room old.undecided) refl is still lacks
    undecided is (Some c) comes lacks = not_short None is (was_full new.caller new.call s
        new.undecided.questions.room.bytes new.undecided.questions.names (has_no_room old.undecided)
        (has_no_room new.undecided) (call_owes old) (call_owes new) step.after c (step.concludes is c comes) lacks)

    decided : (c : Conclusion) → conclusion_of old ≡ Some c → lacks_room new ≡ true → TurnsFull old new
    decided c is lacks = not_short (Some c) is (by_conclusion c (has_no_room new.undecided)
        (has_no_room old.undecided)
        (sym (ap (λ (x : Option Conclusion). lacks_by x (has_no_room new.undecided)) (aim.stays c is)) ∙ lacks))

    pub turns_full : lacks_room new ≡ true → TurnsFull old new
    turns_full lacks = by (conclusion_of old) refl
      where
        by : (o : Option Conclusion) → conclusion_of old ≡ o → TurnsFull old new
        by None is = undecided is (conclusion_of new) refl lacks
        by (Some c) is = decided c is lacks
