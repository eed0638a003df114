-- A question of a call that is asked in one go.
use Rattle.std.proofs.Common.{◌≡◌, refl, ℕ, Bool, true, false, Option, None, sym, subst}
use Rattle.xsi_calls.proofs.QuestionRunLemmas.{asks_in}
use Rattle.xsi_calls.specs.Questions.{question_searches}
use Rattle.xsi_calls.specs.QuestionSteps.{MakesQuestions}
use Rattle.xsi_calls.specs.UndecidedSteps.{MakesUndecided}
use Rattle.xsi_calls.specs.UndecidedWords.{is_done}
use Rattle.xsi_calls.proofs.GoLemmas.{asking, at_undecided, goes_on, with_stage}
use Rattle.xsi_calls.proofs.StepLemmas.{asked}
use Rattle.xsi_calls.specs.CallSteps.{MakesCall}
use Rattle.xsi_calls.specs.Machine.{CallView, is_searching, is_undecided}
use Rattle.xsi_calls.specs.Stages.{Stage, Undecided}
use Rattle.xsi_calls.specs.Words.{AsksAtOnce, Call, Caller, Ended, Kind, Moved, PoolState, QuestionsView, RecordKey, Table, Trials, UndecidedCall}

module _ (hash : RecordKey → ℕ) (seat : ℕ) (caller : Caller) (call : Call) where
  pub moves : (stopped : Bool) (kind : Kind) (u u' : UndecidedCall) (pool pool' : PoolState) (locks locks' : Table) →
      MakesUndecided hash seat call (Moved kind) u u' pool pool' locks locks' →
      MakesCall hash seat stopped (Moved kind) (asking caller call u) (asking caller call u') pool pool' locks locks'
  moves stopped kind u u' pool pool' locks locks' makes =
      goes_on hash seat stopped caller call u u' (Moved kind) pool pool' locks locks' (λ e. absurd cc) makes

  -- while nothing is inserted on trial
  abbrev untried : QuestionsView → Option Trials → CallView
  untried q o = asking caller call (record { questions = q; trials = o })

  -- a question that moves has not asked all
  asks : (kind : Kind) (q q' : QuestionsView) (pool pool' : PoolState) (locks locks' : Table) →
      MakesQuestions hash seat call (Moved kind) q q' pool pool' locks locks' →
      is_done call q ≡ false
  asks kind q q' pool pool' locks locks' makes = by (is_done call q) refl
    where
      by : (b : Bool) → is_done call q ≡ b → b ≡ false
      by false is = refl
      by true is = let never : Moved kind ≡ Ended = makes.aim.ended.1 is in absurd cc

  asks_on : (stopped : Bool) (kind : Kind) (q q' : QuestionsView) (pool pool' : PoolState)
      (locks locks' : Table) →
      MakesQuestions hash seat call (Moved kind) q q' pool pool' locks locks' →
      MakesCall hash seat stopped (Moved kind) (untried q None) (untried q' None) pool pool' locks
      locks'
  asks_on stopped kind q q' pool pool' locks locks' makes =
      moves stopped kind (record { questions = q; trials = None })
      (record { questions = q'; trials = None }) pool pool' locks locks'
      (asked hash seat call q pool locks (asks kind q q' pool pool' locks locks' makes)
      (Moved kind) q' pool' locks' makes)

  -- from its place
  pub asks_from : (u : UndecidedCall) (q : QuestionsView) (pool : PoolState) (locks : Table) →
      AsksAtOnce (MakesQuestions hash seat call) question_searches seat u.questions q pool locks →
      u.trials ≡ None → (stage : Stage) (now : CallView) → with_stage caller call u stage ≡ now →
      is_undecided now.stage ≡ true → (stopped : Bool) →
      AsksAtOnce (MakesCall hash seat stopped) is_searching seat now
      (with_stage caller call (record { questions = q; trials = u.trials }) stage) pool locks
  asks_from u q pool locks at_once none stage now view undecided stopped =
      subst (λ (m : CallView). AsksAtOnce (MakesCall hash seat stopped) is_searching seat m
      (with_stage caller call (record { questions = q; trials = u.trials }) stage) pool locks) view
      (subst (λ (x : Stage). AsksAtOnce (MakesCall hash seat stopped) is_searching seat
      (with_stage caller call u x)
      (with_stage caller call (record { questions = q; trials = u.trials }) x) pool locks)
      (sym there)
      (subst (λ (o : Option Trials). AsksAtOnce (MakesCall hash seat stopped) is_searching seat
      (untried u.questions o) (untried q o) pool locks) (sym none)
      (asks_in (MakesQuestions hash seat call) (MakesCall hash seat stopped) question_searches is_searching seat
      (λ (v : QuestionsView). untried v None) (λ v. refl) (asks_on stopped) u.questions q pool locks
      at_once)))
    where
      there : stage ≡ Undecided
      there =
          at_undecided stage
          (subst (λ (m : CallView). is_undecided m.stage ≡ true) (sym view) undecided)
