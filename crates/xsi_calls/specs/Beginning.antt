-- How a call that has asked all goes on: it tries, or can decide. docs/STEPS.md, "Calls".
use Rattle.std.specs.Prelude.{ℕ, ◌≡◌, Bool, true, false, Result, Ok, Err, IsSome}
use Rattle.file_pages.specs.declared.fault.FileFault.{FileFault}
use Rattle.file_pages.specs.declared.fault.FileFault.TheVariants.{Failed}
use Rattle.xsi_calls.specs.declared.part.Part.{Part}
use Rattle.xsi_calls.specs.declared.questions.Questions.{Questions}
use Rattle.xsi_calls.specs.Parts.{tried_under, undecided_with}
use Rattle.xsi_calls.specs.Undecided.{UndecidedCall, undecided_locks}
use Rattle.xsi_calls.specs.UndecidedSteps.{MakesUndecided}
use Rattle.xsi_calls.specs.UndecidedWords.{Call, Ended, Fault, IsReady, NotASystem, PoolState, Progress, RecordKey, Table, row_of}

-- trials are under way, and a step of theirs is one of the call
pub record Tries (call : Call) (q : Questions) (old new : Part) : Type 0 where
  pub under_way : IsSome (tried_under new)
  pub row : undecided_locks (undecided_with call q new) ≡ undecided_locks (undecided_with call q old)
  pub makes : (hash : RecordKey → ℕ) (seat : ℕ) (did : Progress FileFault) (after : UndecidedCall)
      (pool pool' : PoolState) (locks locks' : Table) →
      MakesUndecided hash seat call did (undecided_with call q new) after pool pool' locks locks' →
      MakesUndecided hash seat call did (undecided_with call q old) after pool pool' locks locks'

-- it stays as it is, which is a step that meets no page and tells this
pub record StaysSo (call : Call) (q : Questions) (did : Progress FileFault) (old new : Part) : Type 0 where
  pub same : new ≡ old
  pub makes : (hash : RecordKey → ℕ) (seat : ℕ) (pool : PoolState) (locks : Table) → IsReady pool →
      row_of locks seat ≡ undecided_locks (undecided_with call q old) →
      MakesUndecided hash seat call did (undecided_with call q old) (undecided_with call q old) pool pool locks locks

-- it tries, or nothing is to be inserted on trial; or what it was told is refused
abbrev pub GoesOnTrying : Call → Questions → Result Bool NotASystem → (old new : Part) → Type 0
GoesOnTrying call q (Ok true) old new = Tries call q old new
GoesOnTrying call q (Ok false) old new = StaysSo call q Ended old new
GoesOnTrying call q (Err refused) old new = StaysSo call q (Fault Failed) old new
