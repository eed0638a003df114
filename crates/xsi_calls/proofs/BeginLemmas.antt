-- The decision before the first trial.
use Rattle.std.proofs.Common.{◌≡◌, sym, ap, ◌∙◌, subst, ℕ, Result, Ok}
use Rattle.call_writes.specs.call_decisions.Anything.{decided_of}
use Rattle.xsi_inquiry.specs.Telling.{Gives}
use Rattle.xsi_calls.specs.declared.part.Part.{Part}
use Rattle.xsi_calls.specs.declared.questions.Questions.{Questions}
use Rattle.xsi_calls.specs.Beginning.{StaysSo}
use Rattle.xsi_calls.specs.UndecidedWords.{AnyInquiry, Call, Decision, IsFiled, IsReady, IsRight, KnowsOf, NotASystem, PoolState, Progress, QuestionsView, RecordKey, Roomful, State, Table, caller_of, locked_of, plan_of, row_of}
use Rattle.xsi_calls.specs.Undecided.{its_plan, undecided_locks}
use Rattle.xsi_calls.specs.Knowing.{IsDecision}
use Rattle.xsi_calls.specs.Parts.{decision_by, decision_in, undecided_with}
use Rattle.xsi_calls.specs.UndecidedSteps.{MakesUndecided}
use Rattle.xsi_calls.proofs.UndecidedNames.{FileFault}

pub decision_is : (call : Call) (i : AnyInquiry) (result : Result Decision NotASystem) → result ≡ decided_of call i →
    (decision : Decision) → result ≡ Ok decision → decision_by call i ≡ decision
decision_is call i result value decision ok = ap decision_in (sym value ∙ ok)

decision_of : (call : Call) (q : QuestionsView) (i : AnyInquiry) → i ≡ q.inquiry →
    (result : Result Decision NotASystem) → ((room : Roomful) (s : State) → IsFiled s → KnowsOf call i room s →
    Gives result (IsRight (caller_of i) call (locked_of call i) room.bytes s (plan_of call i))) →
    (decision : Decision) → result ≡ Ok decision → IsDecision call q decision
decision_of call q i same result right decision ok u filed knows =
    subst (λ (r : Result Decision NotASystem).
    Gives r (IsRight (caller_of q.inquiry) call (locked_of call q.inquiry) q.room.bytes u (its_plan call q))) ok
    (moved q.room u filed knows)
  where
    moved : (room : Roomful) (s : State) → IsFiled s → KnowsOf call q.inquiry room s →
        Gives result (IsRight (caller_of q.inquiry) call (locked_of call q.inquiry) room.bytes s (its_plan call q))
    moved = subst (λ (j : AnyInquiry). (room : Roomful) (s : State) → IsFiled s → KnowsOf call j room s →
        Gives result (IsRight (caller_of j) call (locked_of call j) room.bytes s (plan_of call j))) same right

-- so is that for which it tries
pub decision_made : (call : Call) (q : QuestionsView) (i : AnyInquiry) → i ≡ q.inquiry →
    (result : Result Decision NotASystem) → result ≡ decided_of call i → ((room : Roomful) (s : State) → IsFiled s →
    KnowsOf call i room s →
    Gives result (IsRight (caller_of i) call (locked_of call i) room.bytes s (plan_of call i))) →
    (decision : Decision) → result ≡ Ok decision → IsDecision call q (decision_by call q.inquiry)
decision_made call q i same result value right decision ok =
    subst (IsDecision call q)
    (sym (ap (decision_by call) (sym same) ∙ decision_is call i result value decision ok))
    (decision_of call q i same result right decision ok)

-- where it tries nothing, it stays as it is
pub stays_so : (hash : RecordKey → ℕ) (seat : ℕ) (call : Call) (q : Questions) (part part2 : Part)
    (did : Progress FileFault) (pool : PoolState) (locks : Table) → IsReady pool →
    row_of locks seat ≡ undecided_locks (undecided_with call q part) → StaysSo call q did part part2 →
    MakesUndecided hash seat call did (undecided_with call q part) (undecided_with call q part2) pool pool locks locks
stays_so hash seat call q part part2 did pool locks ready row stays =
    subst (λ (p : Part). MakesUndecided hash seat call did (undecided_with call q part) (undecided_with call q p)
    pool pool locks locks) (sym stays.same) (stays.makes hash seat pool locks ready row)
