-- What a step of a seat's call does, and what its seat is told. docs/STEPS.md, "Calls".
use Rattle.std.specs.Prelude.{ℕ, ◌≡◌, ◌≢◌, ◌⊎◌, Bool, true, false, List, ◌++◌, Option, Some, None, length}
use Rattle.file_pages.specs.declared.fault.FileFault.{FileFault}
use Rattle.step_rules.specs.declared.progress.Progress.TheVariants as progress
use Rattle.xsi_calls.specs.CallSteps.{MakesCall}
use Rattle.interleaving_core.specs.Words.{Answer, CallView, Entry, PoolState, Progress, RecordKey, Table, answer_of_call, conclusion_of}
use Rattle.interleaving_core.specs.Active.{ActiveView, BeginsAgain, IsDrafted, IsMarked, draft_by, entries_by, is_waiting, told_at_end}
use Rattle.interleaving_core.specs.Waiting.{stays_waiting}
use Rattle.interleaving_core.specs.declared.fault.StepFault.TheVariants as faults
use Rattle.interleaving_core.specs.declared.step.Step.{Step}
use Rattle.interleaving_core.specs.declared.step.Step.TheVariants as steps

-- ---- what is told

abbrev pub told_when_over : Bool → Option Answer → Step
told_when_over true answer = steps.Waiting
told_when_over false answer = told_at_end answer

-- of a step that has not ended its call
abbrev pub told_on : Progress FileFault → Option Step
told_on (progress.Moved kind) = Some (steps.Moved kind)
told_on (progress.Blocked other) = Some (steps.Blocked other)
told_on (progress.Fault fault) = Some (steps.Fault (faults.File fault))
told_on progress.Ended = None

-- of a step by which the call has come so far
abbrev pub told_of : Progress FileFault → CallView → Step
told_of (progress.Moved kind) m = steps.Moved kind
told_of (progress.Blocked other) m = steps.Blocked other
told_of (progress.Fault fault) m = steps.Fault (faults.File fault)
told_of progress.Ended m = told_when_over (is_waiting (conclusion_of m)) (answer_of_call m)

-- ---- what is left at the seat

-- a call that will wait is to begin anew, any other is gone
abbrev pub IsLeftWhenOver : Bool → ActiveView → Option ActiveView → Type 0
IsLeftWhenOver true a left = (again : ActiveView) × (left ≡ Some again) × BeginsAgain a again
IsLeftWhenOver false a left = left ≡ None

abbrev pub IsLeft : Progress FileFault → ActiveView → Option ActiveView → Type 0
IsLeft (progress.Moved kind) a left = left ≡ Some a
IsLeft (progress.Blocked other) a left = left ≡ Some a
IsLeft (progress.Fault fault) a left = left ≡ Some a
IsLeft progress.Ended a left = IsLeftWhenOver (is_waiting (conclusion_of a.machine)) a left

-- ---- the whole of it

-- a step of the machine of a call at a seat, at the pseudokeys that this function gives, with this stop mark
pub record MakesTurn (hash : RecordKey → ℕ) (seat : ℕ) (stopped : Bool) (told : Step) (old : ActiveView)
    (left : Option ActiveView) (pool pool' : PoolState) (locks locks' : Table) (entries entries' : List Entry)
    : Type 0 where
  -- its machine makes one step, by which the call comes so far
  pub did : Progress FileFault
  pub come : ActiveView
  pub makes : MakesCall hash seat stopped did old.machine come.machine pool pool' locks locks'
  -- what was kept for its entry joins the journal where it comes to an answer
  pub kept : IsDrafted old.machine old.draft
  pub draft : come.draft ≡ draft_by (answer_of_call come.machine) old.draft
  pub journal : entries' ≡ entries ++ entries_by seat (answer_of_call come.machine) old.draft
  pub marked : IsMarked (length entries) old come
  pub told_is : told ≡ told_of did come.machine
  pub left_is : IsLeft did come left

-- a seat whose call waits, woken by nothing: it need not look at these entries again, and nothing else changes
pub record StaysWaiting (told : Step) (a : ActiveView) (left : Option ActiveView) (pool pool' : PoolState)
    (locks locks' : Table) (journal journal' : List Entry) : Type 0 where
  pub told_is : told ≡ steps.Waiting
  pub left_is : left ≡ Some (record a { wait = Some (length journal) })
  pub same_pool : pool' ≡ pool
  pub same_locks : locks' ≡ locks
  pub same_journal : journal' ≡ journal

-- a call that waits is over, and begins anew. Where something has woken it since its Decide, its machine makes the
-- first step at once, and of that alone its seat is told
pub record GoesAnew (hash : RecordKey → ℕ) (seat : ℕ) (stopped : Bool) (told : Step) (a left : ActiveView)
    (pool pool' : PoolState) (locks locks' : Table) (journal journal' : List Entry) : Type 0 where
  pub again : ActiveView
  pub begins : BeginsAgain a again
  pub waits : stays_waiting again.wait again.machine.call journal ≡ true →
      StaysWaiting told again (Some left) pool pool' locks locks' journal journal'
  pub goes : stays_waiting again.wait again.machine.call journal ≡ false →
      MakesTurn hash seat stopped told again (Some left) pool pool' locks locks' journal journal'
      × (told ≢ steps.Waiting)

-- what comes of a step by which a call has come so far, and goes on or is over: nothing changes but its seat
pub record Tells (did : Progress FileFault) (told : Step) (come : ActiveView) (left : Option ActiveView)
    (pool pool' : PoolState) (locks locks' : Table) (journal journal' : List Entry) : Type 0 where
  pub told_is : told ≡ told_of did come.machine
  pub left_is : IsLeft did come left
  pub awake : told ≢ steps.Waiting
  pub same_pool : pool' ≡ pool
  pub same_locks : locks' ≡ locks
  pub same_journal : journal' ≡ journal

-- where it waits, and is over: it begins anew
pub record TellsAnew (hash : RecordKey → ℕ) (seat : ℕ) (stopped : Bool) (did : Progress FileFault) (told : Step)
    (come : ActiveView) (left : Option ActiveView) (pool pool' : PoolState) (locks locks' : Table)
    (journal journal' : List Entry) : Type 0 where
  pub ended : did ≡ progress.Ended
  pub waits : is_waiting (conclusion_of come.machine) ≡ true
  pub stays : ActiveView
  pub left_is : left ≡ Some stays
  pub anew : GoesAnew hash seat stopped told come stays pool pool' locks locks' journal journal'

abbrev pub Settles : (RecordKey → ℕ) → ℕ → Bool → Progress FileFault → Step → ActiveView → Option ActiveView →
    PoolState → PoolState → Table → Table → List Entry → List Entry → Type 0
Settles hash seat stopped did told come left pool pool' locks locks' journal journal' =
    Tells did told come left pool pool' locks locks' journal journal'
    ⊎ TellsAnew hash seat stopped did told come left pool pool' locks locks' journal journal'

-- by the last step of its machine a call that waits is over, and begins anew
pub record TurnsAnew (hash : RecordKey → ℕ) (seat : ℕ) (stopped : Bool) (told : Step) (a : ActiveView)
    (left : Option ActiveView) (pool pool' : PoolState) (locks locks' : Table) (journal journal' : List Entry)
    : Type 0 where
  pub again : ActiveView
  -- the pages between that step and what comes of it
  pub between : PoolState
  pub ends : MakesTurn hash seat stopped steps.Waiting a (Some again) pool between locks locks journal journal
  -- it waits where nothing has woken it since its Decide, and else its machine makes the first step
  pub waits : stays_waiting again.wait again.machine.call journal ≡ true →
      StaysWaiting told again left between pool' locks locks' journal journal'
  pub goes : stays_waiting again.wait again.machine.call journal ≡ false →
      MakesTurn hash seat stopped told again left between pool' locks locks' journal journal'
      × (told ≢ steps.Waiting)

-- a step of a seat that has a call
pub record TakesTurn (hash : RecordKey → ℕ) (seat : ℕ) (stopped : Bool) (told : Step) (a : ActiveView)
    (left : Option ActiveView) (pool pool' : PoolState) (locks locks' : Table) (journal journal' : List Entry)
    : Type 0 where
  pub waits : stays_waiting a.wait a.machine.call journal ≡ true →
      StaysWaiting told a left pool pool' locks locks' journal journal'
  -- one that was woken begins anew with the first step of its machine
  pub goes : stays_waiting a.wait a.machine.call journal ≡ false →
      (MakesTurn hash seat stopped told a left pool pool' locks locks' journal journal' × (told ≢ steps.Waiting))
      ⊎ TurnsAnew hash seat stopped told a left pool pool' locks locks' journal journal'

-- a seat that has no call
pub record StaysIdle (told : Step) (left : Option ActiveView) (pool pool' : PoolState) (locks locks' : Table)
    (journal journal' : List Entry) : Type 0 where
  pub told_is : told ≡ steps.Idle
  pub left_is : left ≡ None
  pub same_pool : pool' ≡ pool
  pub same_locks : locks' ≡ locks
  pub same_journal : journal' ≡ journal

abbrev pub Turns : (RecordKey → ℕ) → ℕ → Bool → Step → Option ActiveView → Option ActiveView → PoolState → PoolState →
    Table → Table → List Entry → List Entry → Type 0
Turns hash seat stopped told None left pool pool' locks locks' journal journal' =
    StaysIdle told left pool pool' locks locks' journal journal'
Turns hash seat stopped told (Some a) left pool pool' locks locks' journal journal' =
    TakesTurn hash seat stopped told a left pool pool' locks locks' journal journal'
