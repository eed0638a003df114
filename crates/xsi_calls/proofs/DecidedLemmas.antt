-- The Decide of a call as its function tells it: the step of the call.
use Rattle.std.proofs.Common.{◌≡◌, refl, sym, ap, ◌∙◌, subst, ℕ, Bool, true, false, not, Option, None}
use Rattle.file_pages.specs.declared.fault.FileFault.TheVariants.{Failed}
use Rattle.step_rules.specs.declared.kind.Kind.TheVariants.{Decide}
use Rattle.xsi_calls.proofs.Names.{FileFault, Trials}
use Rattle.xsi_calls.proofs.DecideLemmas.{decides_from, fails, still_undecided}
use Rattle.xsi_calls.proofs.GoLemmas.{asking, at_end, at_undecided, with_stage}
use Rattle.xsi_calls.specs.Stages.{Stage, Paying, Undecided}
use Rattle.xsi_calls.specs.Words.{AreNames, Call, Caller, Change, Ended, Fault, GoesOn, IsUndecided, KeepsUndecided, Moved, OnlyWrites, PaymentStage, PoolState, Progress, QuestionsView, RecordKey, Records, State, Table, UndecidedCall, caller_of, is_fault, trials_of, undecided_locks, with_row}
use Rattle.xsi_calls.specs.declared.conclusion.Conclusion.{Conclusion}
use Rattle.xsi_calls.specs.Machine.{CallView, IsCalmAt, is_undecided}
use Rattle.xsi_calls.specs.CallSteps.{ComesTo, HasNoSystem, MakesCall, is_end}

module _ (hash : RecordKey → ℕ) (seat : ℕ) (stopped : Bool) (caller : Caller) (call : Call)
    (u u' : UndecidedCall) (stage : Stage) (place : CallView) (view : with_stage caller call u stage ≡ place)
    (undecided : is_undecided place.stage ≡ true) (calm : IsCalmAt u stage) (by : caller_of u.questions.inquiry ≡
    caller) (ordered : AreNames u'.questions.names) (did : Progress FileFault) (is : is_end did ≡ true)
    (pool pool' : PoolState) (locks locks' : Table) (writes : OnlyWrites (not (is_fault did)) pool pool')
    (aim : KeepsUndecided call did u u') (row : locks' ≡ with_row locks seat (undecided_locks u'))
    (step : (s : State) (records : Records) (change : Change) →
    IsUndecided hash seat call s u records pool locks change → is_fault did ≡ false →
    GoesOn hash seat call s did u u' records pool pool' locks locks' change) where
  pub decides_by : (u2 : UndecidedCall) (payment : PaymentStage) (conclusion : Conclusion) →
      ComesTo hash call stopped conclusion u' u2 payment →
      MakesCall hash seat stopped (Moved Decide) place (with_stage caller call u2 (Paying payment conclusion)) pool
      pool' locks locks'
  decides_by u2 payment conclusion comes =
      decides_from hash seat stopped caller call u u' stage place view undecided calm by ordered did is pool pool'
      locks locks' writes aim row step comes.settled (trials_of u') refl
      (λ s records change un mark. comes.decided seat s records pool' locks' change un mark) u2 comes.questions
      comes.untried payment comes.pays conclusion comes.comes

  e : did ≡ Ended
  e = at_end did is

  rests : u' ≡ u
  rests = aim.rests e

  there : stage ≡ Undecided
  there = at_undecided stage (subst (λ (m : CallView). is_undecided m.stage ≡ true) (sym view) undecided)

  only_writes : OnlyWrites true pool pool'
  only_writes = subst (λ (d : Progress FileFault). OnlyWrites (not (is_fault d)) pool pool') e writes

  module _ (s : State) (records : Records) (change : Change)
      (un : IsUndecided hash seat call s u records pool locks change) where
    on : GoesOn {F = FileFault} hash seat call s Ended u u records pool pool' locks locks' change
    on = subst (λ (x : UndecidedCall). GoesOn {F = FileFault} hash seat call s Ended u x records pool pool' locks locks'
        change) rests (subst (λ (d : Progress FileFault). GoesOn hash seat call s d u u' records pool pool' locks locks'
        change) e (step s records change un (ap is_fault e)))

    still : IsUndecided hash seat call s u' records pool' locks' on.step.after
    still = subst (λ (x : UndecidedCall). IsUndecided hash seat call s x records pool' locks' on.step.after) (sym rests)
        (still_undecided hash seat call s u u refl records pool pool' locks locks' change only_writes.honest on un)

  -- it was told what no system has
  pub fails_from : (u2 : UndecidedCall) (stage2 : Stage) → stage2 ≡ Undecided → HasNoSystem hash call stopped u' u2 →
      MakesCall hash seat stopped (Fault Failed) place (with_stage caller call u2 stage2) pool pool' locks locks'
  fails_from u2 stage2 stays none_has =
      subst (λ (m : CallView). MakesCall hash seat stopped (Fault Failed) m (with_stage caller call u2 stage2) pool
      pool' locks locks') view
      (subst (λ (x : Stage). MakesCall hash seat stopped (Fault Failed) (with_stage caller call u x)
      (with_stage caller call u2 stage2) pool pool' locks locks') (sym there)
      (subst (λ (x : Stage). MakesCall hash seat stopped (Fault Failed) (asking caller call u)
      (with_stage caller call u2 x) pool pool' locks locks') (sym stays)
      (subst (λ (x : UndecidedCall). MakesCall hash seat stopped (Fault Failed) (asking caller call u)
      (asking caller call x) pool pool' locks locks') (sym u2_is)
      (fails hash seat stopped caller call u (aim.ended.0 e) (subst (IsCalmAt u) there calm) pool pool' locks locks'
      only_writes (subst (λ (x : UndecidedCall). locks' ≡ with_row locks seat (undecided_locks x)) rests row)
      (λ s records change un mark. none_has.never seat s records pool' locks' (on s records change un).step.after
      (still s records change un) mark)))))
    where
      u2_is : u2 ≡ record { questions = u.questions; trials = None }
      u2_is = ap (λ (x : QuestionsView). record { questions = x; trials = u2.trials })
          (none_has.questions ∙ ap (λ (x : UndecidedCall). x.questions) rests)
          ∙ ap (λ (o : Option Trials). record { questions = u.questions; trials = o }) none_has.untried
