-- A call that has just begun.
use Rattle.std.proofs.Common.{ℕ, ◌≡◌, inl, refl, sym, ap, ◌∙◌, subst, ◌≤◌, List, [], Option, Some, None, IfSome, arith}
use Rattle.std.proofs.lemmas.Bool.{true≢false}
use Rattle.std.specs.List.{Contains}
use Rattle.std.specs.Option.{is_some}
use Rattle.std.specs.Prelude.{slice_get}
use Rattle.call_writes.specs.call_decisions.Anything.{if_of, of_receive}
use Rattle.queue_model.specs.declared.call.Call.TheVariants as calls
use Rattle.queue_model.specs.declared.call.ReceiveArguments.{ReceiveArguments}
use Rattle.xsi_receive.specs.Asking.{plan_at}
use Rattle.xsi_receive.specs.declared.receive_inquiry.ReceiveInquiry.{ReceiveInquiry}
use Rattle.xsi_receive.specs.declared.stage.Stage as receives
use Rattle.xsi_receive.specs.declared.stage.Stage.TheVariants as stages
use Rattle.xsi_calls.specs.declared.question.Question.{Question}
use Rattle.xsi_calls.specs.Agreeing.{Agrees}
use Rattle.xsi_calls.specs.QuestionLaws.{HaveFewSteps as QuestionsHaveFew}
use Rattle.xsi_calls.specs.Questions.{IsRightQuestion, facts_of, locks_behind}
use Rattle.xsi_calls.specs.QuestionWords.{Begins}
use Rattle.xsi_calls.specs.stale_search.Steps.{Sees}
use Rattle.xsi_inquiry.proofs.AgreeLemmas.{agrees_itself}
use Rattle.xsi_inquiry.specs.Telling.{most_asked}
use Rattle.xsi_calls.specs.Undecided.{Trials, IsFresh, its_plan, left_in, UndecidedCall}
use Rattle.xsi_calls.specs.UndecidedWords.{AreAlike, Call, Change, HasBegun, Known, KnowsNear, Lock, LockName, PoolState, Record, RecordKey, Records, State, Table, guard_of, names_for, names_in, nothing, record_of, row_of, store_of}
use Rattle.xsi_calls.specs.Knowing.{IsUndecided, IsUndecidedIn}
use Rattle.xsi_calls.specs.UndecidedLaws.{HaveFewSteps, MOST_UNDECIDED_STEPS}
use Rattle.xsi_calls.proofs.QuestionHeldLemmas.{none_held}
use Rattle.xsi_calls.specs.ToldNames.{AreTold}
use Rattle.xsi_calls.proofs.UndecidedNames.{few_searches as questions_begin_few}

pub few_steps : QuestionsHaveFew → HaveFewSteps
few_steps few call u s fresh =
    let less = few call u.questions s fresh.bare.question fresh.bare.names fresh.few in
    subst (λ (o : Option Trials). left_in call u.questions o s ≤ MOST_UNDECIDED_STEPS) (sym fresh.untried)
    (omega (arith, less))

none_in : (name : LockName) → Contains {X = LockName} [] name → ⊥
none_in name within = let few = within.1 in omega (arith, few)

-- a call that has just begun, and knows of each system what it was told, asks: over each with which the file agrees,
-- and whatever records stand
pub begin_right : (hash : RecordKey → ℕ) (seat : ℕ) (call : Call) (s : State) (u : UndecidedCall) (records : Records)
    (pool : PoolState) (locks : Table) (change : Change) → IsFresh call u →
    ((t : State) → KnowsNear call u.questions t) → row_of locks seat ≡ [] → Sees hash seat [] pool locks change →
    Agrees [] (store_of pool.images) s → IsUndecided hash seat call s u records pool locks change
begin_right hash seat call s u records pool locks change fresh knows row sees agrees =
    let question = fresh.bare.question in
    let names = fresh.bare.names in
    subst (λ (o : Option Trials). IsUndecidedIn hash seat call s u.questions o records pool locks change)
    (sym fresh.untried) (record {
      faces = record {
        right = record {
          question = subst (λ (o : Option Question). IfSome o (IsRightQuestion hash call u.questions))
              (sym question) tt;
          begins = λ none does. subst (λ (ls : List Lock). Begins ls (names_for call u.questions.inquiry))
              (sym names) (names_for call u.questions.inquiry, refl);
          grows = λ asks. inl (subst (λ (ls : List Lock). Begins ls (names_for call u.questions.inquiry))
              (sym names) (names_for call u.questions.inquiry, refl));
          names = none_held call u.questions.inquiry u.questions.names names;
          told = subst (AreTold call u.questions.inquiry) (sym names) tt;
          apart = HasBegun (λ t filed. knows t t filed (agrees_itself call _ t));
          few = let none = fresh.finds in
              let few = fresh.few in
              omega (arith, none, few);
        };
        sees = subst (λ (facts : List Known). Sees hash seat facts pool locks change) (sym (ap facts_of question)) sees;
        agrees = subst (λ (ls : List Lock). Agrees (names_in ls) (store_of pool.images) s) (sym names) agrees;
        knows = knows s;
      };
      row = row ∙ sym (ap (λ (o : Option Question). locks_behind o u.questions.names) question ∙ names);
      alike = subst (λ (ls : List Lock). AreAlike (names_in ls) records (record_of s)) (sym names)
          (λ key within. absurd (none_in (guard_of key) within));
    })

-- a call that has not decided, and inserts nothing on trial yet, has begun at most as many searches as it asks
-- questions
pub few_searches : (hash : RecordKey → ℕ) (seat : ℕ) (call : Call) (s : State) (u : UndecidedCall) (records : Records)
    (pool : PoolState) (locks : Table) (change : Change) → u.trials ≡ None →
    IsUndecided hash seat call s u records pool locks change → u.questions.finds ≤ most_asked call
few_searches hash seat call s u records pool locks change untried is =
    questions_begin_few hash call u.questions
    (subst (λ (o : Option Trials). IsUndecidedIn hash seat call s u.questions o records pool locks change) untried
    is).faces.right

-- and one of a plan without trials inserts nothing
pub untried_without : (hash : RecordKey → ℕ) (seat : ℕ) (call : Call) (s : State) (u : UndecidedCall)
    (records : Records) (pool : PoolState) (locks : Table) (change : Change) → (its_plan call u.questions).trials ≡ [] →
    IsUndecided hash seat call s u records pool locks change → u.trials ≡ None
untried_without hash seat call s u records pool locks change none is = by u.trials is
  where
    by : (o : Option Trials) → IsUndecidedIn hash seat call s u.questions o records pool locks change → o ≡ None
    by None is = refl
    by (Some t) is =
        absurd (true≢false (sym is.inserts ∙ ap (λ (rs : List Record). is_some (slice_get rs 0)) none))

-- the plan of a Receive inserts nothing
taken_inserts_none : (id : ℕ) (stage : receives.Stage) → (plan_at id stage).trials ≡ []
taken_inserts_none id (stages.Seeking sought) = refl
taken_inserts_none id (stages.Refused errno) = refl
taken_inserts_none id stages.PutOff = refl
taken_inserts_none id (stages.AtType e mtype) = refl
taken_inserts_none id (stages.AtMessage e t serial) = refl
taken_inserts_none id (stages.AtTypeOf e m) = refl
taken_inserts_none id (stages.Taken r) = refl

receive_inserts_none : (a : ReceiveArguments) (o : Option ReceiveInquiry) →
    (if_of (λ (i : ReceiveInquiry). plan_at a.id i.stage) nothing o).trials ≡ []
receive_inserts_none a None = refl
receive_inserts_none a (Some i) = taken_inserts_none a.id i.stage

-- so it has none under way
pub receive_untried : (hash : RecordKey → ℕ) (seat : ℕ) (call : Call) (s : State) (u : UndecidedCall)
    (records : Records) (pool : PoolState) (locks : Table) (change : Change) (a : ReceiveArguments) →
    call ≡ calls.Receive a → IsUndecided hash seat call s u records pool locks change → u.trials ≡ None
receive_untried hash seat call s u records pool locks change a is_receive is =
    untried_without hash seat call s u records pool locks change
    (ap (λ (x : Call). (its_plan x u.questions).trials) is_receive
    ∙ receive_inserts_none a (of_receive u.questions.inquiry)) is
