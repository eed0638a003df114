-- What failed a kernel, and what its seat is told of the file.
use Rattle.std.proofs.Common.{◌≡◌, refl, sym, ◌∙◌, subst, ℕ, ◌≤◌, Bool, true, false, inl, inr, List, Option, Some, None}
use Rattle.std.specs.Option.{is_some}
use Rattle.file_pages.proofs.ReadLemmas.{devices_after}
use Rattle.file_pages.specs.Fault.{FileHasCause}
use Rattle.file_pages.specs.declared.fault.FileFault.{FileFault}
use Rattle.step_rules.specs.declared.progress.Progress.TheVariants as progress
use Rattle.interleaving_core.specs.Active.{ActiveView, is_waiting}
use Rattle.interleaving_core.specs.Kernel.{IsWhole, KernelState}
use Rattle.interleaving_core.specs.Owing.{failure_by, is_failure}
use Rattle.interleaving_core.specs.Turn.{MakesTurn, TakesTurn, Turns, TurnsAnew, told_of, told_when_over}
use Rattle.interleaving_core.specs.Waiting.{stays_waiting}
use Rattle.interleaving_core.specs.Words.{Answer, CallView, Entry, PoolState, Progress, RecordKey, StepHasCause, Table, answer_of_call, conclusion_of}
use Rattle.interleaving_core.specs.declared.fault.Failure.{Failure}
use Rattle.interleaving_core.specs.declared.fault.StepFault.TheVariants as faults
use Rattle.interleaving_core.specs.declared.step.Step.{Step}
use Rattle.interleaving_core.specs.declared.step.Step.TheVariants as steps

-- it is known where a step fails, and only there
pub blamed_by : (seat : ℕ) (did : Step) → is_some (failure_by seat did None) ≡ is_failure did
blamed_by seat (steps.Moved kind) = refl
blamed_by seat (steps.Blocked other) = refl
blamed_by seat steps.Waiting = refl
blamed_by seat (steps.Answered answer) = refl
blamed_by seat steps.Idle = refl
blamed_by seat (steps.Fault (faults.File fault)) = refl
blamed_by seat (steps.Fault faults.NoRoom) = refl

none_there : (o : Option Failure) → is_some o ≡ false → o ≡ None
none_there None none = refl
none_there (Some failure) none = absurd cc

pub none_blamed : {K : Type 0} (s : KernelState K) → IsWhole s → s.failed ≡ false → s.failure ≡ None
none_blamed s whole sound = none_there s.failure (sym whole.blamed ∙ sound)

over_apart : (waits : Bool) (answer : Option Answer) (fault : FileFault) →
    told_when_over waits answer ≡ steps.Fault (faults.File fault) → ⊥
over_apart true answer fault is = cc
over_apart false None fault is = cc
over_apart false (Some answer) fault is = cc

of_cause : (old new : PoolState) (did : Progress FileFault) (m : CallView) (fault : FileFault) →
    told_of did m ≡ steps.Fault (faults.File fault) → StepHasCause did old new → FileHasCause old new fault
of_cause old new (progress.Moved kind) m fault is cause = absurd cc
of_cause old new (progress.Blocked other) m fault is cause = absurd cc
of_cause old new (progress.Fault met) m fault is cause =
    let same : met ≡ fault = cc in
    subst (FileHasCause old new) same (cause met refl)
of_cause old new progress.Ended m fault is cause =
    absurd (over_apart (is_waiting (conclusion_of m)) (answer_of_call m) fault is)

-- what has failed behind a step has failed in both
cause_after : (old mid new : PoolState) (fault : FileFault) → old.faults ≤ mid.faults → FileHasCause mid new fault →
    FileHasCause old new fault
cause_after old mid new fault later cause = record {
  page = cause.page;
  risen = λ same.
      (devices_after {s = old} {t = mid} {v = new} later (record { risen = cause.risen same; told = same })).risen;
}

module _ (hash : RecordKey → ℕ) (seat : ℕ) (stopped : Bool) (did : Step) (fault : FileFault)
    (told : did ≡ steps.Fault (faults.File fault)) where
  waits_apart : did ≡ steps.Waiting → ⊥
  waits_apart is = apart (sym is ∙ told)
    where
      apart : steps.Waiting ≡ steps.Fault (faults.File fault) → ⊥
      apart clash = cc

  idle_apart : did ≡ steps.Idle → ⊥
  idle_apart is = apart (sym is ∙ told)
    where
      apart : steps.Idle ≡ steps.Fault (faults.File fault) → ⊥
      apart clash = cc

  made_cause : (a : ActiveView) (left : Option ActiveView) (pool pool' : PoolState) (locks locks' : Table)
      (journal journal' : List Entry) →
      MakesTurn hash seat stopped did a left pool pool' locks locks' journal journal' → FileHasCause pool pool' fault
  made_cause a left pool pool' locks locks' journal journal' t =
      of_cause pool pool' t.did t.come.machine fault (sym t.told_is ∙ told) t.makes.cause

  anew_cause : (a : ActiveView) (left : Option ActiveView) (pool pool' : PoolState) (locks locks' : Table)
      (journal journal' : List Entry) →
      (t : TurnsAnew hash seat stopped did a left pool pool' locks locks' journal journal') → (b : Bool) →
      stays_waiting t.again.wait t.again.machine.call journal ≡ b → FileHasCause pool pool' fault
  anew_cause a left pool pool' locks locks' journal journal' t true stays =
      absurd (waits_apart (t.waits stays).told_is)
  anew_cause a left pool pool' locks locks' journal journal' t false woken =
      cause_after pool t.between pool' fault t.ends.makes.writes.later
      (made_cause t.again left t.between pool' locks locks' journal journal' (t.goes woken).0)

  takes_cause : (a : ActiveView) (left : Option ActiveView) (pool pool' : PoolState) (locks locks' : Table)
      (journal journal' : List Entry) →
      TakesTurn hash seat stopped did a left pool pool' locks locks' journal journal' → (b : Bool) →
      stays_waiting a.wait a.machine.call journal ≡ b → FileHasCause pool pool' fault
  takes_cause a left pool pool' locks locks' journal journal' t true stays =
      absurd (waits_apart (t.waits stays).told_is)
  takes_cause a left pool pool' locks locks' journal journal' t false woken = elim (t.goes woken) [
    | inl made ↦ made_cause a left pool pool' locks locks' journal journal' made.0
    | inr anew ↦ anew_cause a left pool pool' locks locks' journal journal' anew
        (stays_waiting anew.again.wait anew.again.machine.call journal) refl
  ]

  pub turn_cause : (at left : Option ActiveView) (pool pool' : PoolState) (locks locks' : Table)
      (journal journal' : List Entry) →
      Turns hash seat stopped did at left pool pool' locks locks' journal journal' → FileHasCause pool pool' fault
  turn_cause None left pool pool' locks locks' journal journal' t = absurd (idle_apart t.told_is)
  turn_cause (Some a) left pool pool' locks locks' journal journal' t =
      takes_cause a left pool pool' locks locks' journal journal' t (stays_waiting a.wait a.machine.call journal) refl
