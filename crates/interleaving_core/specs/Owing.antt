-- What a step of a seat leaves of a kernel, and which entries its seat is told. docs/STEPS.md, "Calls";
-- docs/QUEUES.md, "Journals".
use Rattle.std.specs.Prelude.{ℕ, ◌≡◌, ◌≢◌, ◌↔◌, ◌+◌, ◌≤◌, Bool, true, false, ◌||◌, IsSome, List, ◌++◌, Option, Some, None, drop, length, ⊤}
use Rattle.file_pages.specs.Fault.{FileHasCause, IsOfPage}
use Rattle.file_pages.specs.declared.fault.FileFault.{FileFault}
use Rattle.file_pages.specs.declared.fault.FileFault.TheVariants.{Failed}
use Rattle.queue_model.specs.Journal.{part_of}
use Rattle.step_rules.specs.declared.kind.Kind.TheVariants.{Decide}
pub use Rattle.interleaving_core.specs.Past.{call_of, entry_of, untold}
use Rattle.interleaving_core.specs.Words.{Answer, Entry, spared, with_row}
use Rattle.interleaving_core.specs.Active.{ActiveView}
use Rattle.interleaving_core.specs.Waiting.{is_woken}
use Rattle.interleaving_core.specs.declared.fault.Failure.{Failure}
use Rattle.interleaving_core.specs.Kernel.{KernelState, call_at, entries_of, locks_of, with_call}
use Rattle.interleaving_core.specs.Searches.{Counts}
use Rattle.interleaving_core.specs.declared.fault.StepFault.TheVariants as faults
use Rattle.interleaving_core.specs.declared.step.Step.{Step}
use Rattle.interleaving_core.specs.declared.step.Step.TheVariants as steps

abbrev pub answer_told : Step → Option Answer
answer_told (steps.Moved kind) = None
answer_told (steps.Blocked other) = None
answer_told steps.Waiting = None
answer_told (steps.Answered answer) = Some answer
answer_told steps.Idle = None
answer_told (steps.Fault fault) = None

-- the entry of which it is told by this answer
abbrev pub told : ℕ → Option ActiveView → Option Answer → List Entry
told seat at answer = entry_of seat (call_of at) answer

-- the file fails a call
abbrev pub is_failure : Step → Bool
is_failure (steps.Moved kind) = false
is_failure (steps.Blocked other) = false
is_failure steps.Waiting = false
is_failure (steps.Answered answer) = false
is_failure steps.Idle = false
is_failure (steps.Fault (faults.File fault)) = true
is_failure (steps.Fault faults.NoRoom) = false

-- what is known of the first step of a seat that failed
abbrev pub failure_by : ℕ → Step → Option Failure → Option Failure
failure_by seat did (Some first) = Some first
failure_by seat (steps.Moved kind) None = None
failure_by seat (steps.Blocked other) None = None
failure_by seat steps.Waiting None = None
failure_by seat (steps.Answered answer) None = None
failure_by seat steps.Idle None = None
failure_by seat (steps.Fault (faults.File fault)) None = Some (record { seat = seat; fault = fault })
failure_by seat (steps.Fault faults.NoRoom) None = None

-- its seat has no call after it
abbrev pub is_end : Step → Bool
is_end (steps.Moved kind) = false
is_end (steps.Blocked other) = false
is_end steps.Waiting = false
is_end (steps.Answered answer) = true
is_end steps.Idle = true
is_end (steps.Fault (faults.File fault)) = false
is_end (steps.Fault faults.NoRoom) = true

-- its seat's call is over, and has no entry
abbrev pub lapsed : Step → ℕ
lapsed (steps.Moved kind) = 0
lapsed (steps.Blocked other) = 0
lapsed steps.Waiting = 0
lapsed (steps.Answered answer) = 0
lapsed steps.Idle = 0
lapsed (steps.Fault (faults.File fault)) = 0
lapsed (steps.Fault faults.NoRoom) = 1

-- a fault of the file is told
abbrev pub fault_told : FileFault → Step
fault_told fault = steps.Fault (faults.File fault)

abbrev pub failed : Step
failed = steps.Fault (faults.File Failed)

-- its seat's call goes on
abbrev pub IsMove : Step → Type 0
IsMove (steps.Moved kind) = ⊤
IsMove (steps.Blocked other) = ⊥
IsMove steps.Waiting = ⊥
IsMove (steps.Answered answer) = ⊥
IsMove steps.Idle = ⊥
IsMove (steps.Fault fault) = ⊥

-- what a seat with this call is told after a failure
abbrev pub told_of_failure : Option ActiveView → Step
told_of_failure None = steps.Idle
told_of_failure (Some a) = failed

-- what no step changes, whatever the device gives; nor, where there is a frame for each page, what the device has
pub record KeepsRest {K : Type 0} (old new : KernelState K) : Type 0 where
  pub keys : new.keys ≡ old.keys
  pub callers : new.callers ≡ old.callers
  pub stopped : new.stopped ≡ old.stopped
  pub honest : new.pool.honest ≡ old.pool.honest
  pub later : old.pool.faults ≤ new.pool.faults
  pub stored : spared new.pool ≡ spared old.pool
  pub pages : length new.pool.images ≡ length old.pool.images

-- steps of one seat, in which it was told this answer, or none
pub record IsRun {K : Type 0} (seat : ℕ) (answer : Option Answer) (old new : KernelState K) : Type 0 where
  -- nothing changes at another seat, and of the locks its own row alone
  pub seats : new.seats ≡ with_call old.seats seat (call_at new.seats seat)
  pub locks : new.locks ≡ with_row old.locks seat (locks_of (call_at new.seats seat))
  -- a call that goes on is the same call
  pub call : IsSome (call_of (call_at new.seats seat)) →
      call_of (call_at new.seats seat) ≡ call_of (call_at old.seats seat)
  -- the entries that joined the journal are of its call: it is told each once, now or later
  pub added : List Entry
  pub journal : new.journal ≡ old.journal ++ added
  pub owed : untold seat (call_at old.seats seat) ++ added ≡
      told seat (call_at old.seats seat) answer ++ untold seat (call_at new.seats seat)
  pub rest : KeepsRest old new

-- the call of a seat waits: it has looked at the whole journal, and no entry from its Decide on wakes it
pub record IsUnwoken {K : Type 0} (seat : ℕ) (k : KernelState K) : Type 0 where
  pub active : ActiveView
  pub there : call_at k.seats seat ≡ Some active
  pub looked : active.wait ≡ Some (length k.journal)
  pub unwoken : is_woken active.machine.call active.decided k.journal ≡ false

-- one step of a seat
pub record IsTurn {K : Type 0} (seat : ℕ) (did : Step) (old new : KernelState K) : Type 0 where
  pub run : IsRun seat (answer_told did) old new
  -- it is idle exactly where it has no call
  pub idle : (did ≡ steps.Idle) ↔ (call_at old.seats seat ≡ None)
  -- and then nothing changes
  pub spares : call_at old.seats seat ≡ None → new ≡ old
  -- its call is gone exactly where it is told so, and else it is the same call
  pub over : is_end did ≡ true → call_at new.seats seat ≡ None
  pub goes : is_end did ≡ false → call_of (call_at new.seats seat) ≡ call_of (call_at old.seats seat)
  -- it is told that it waits only where nothing has woken its call
  pub waits : did ≡ steps.Waiting → IsUnwoken seat new
  -- the journal grows at its Decide alone
  pub decides : did ≢ steps.Moved Decide → new.journal ≡ old.journal
  -- the entries that stand and those that are due are as many as before, but for a call that is over without one
  pub entries : lapsed did + entries_of new ≡ entries_of old
  -- real time: of what joined the journal since its call began its part is the entry of which it is told now, or that
  -- it is owed
  pub joins : (a : ActiveView) → call_at old.seats seat ≡ Some a → part_of seat (drop a.begun new.journal)
      ≡ told seat (Some a) (answer_told did) ++ untold seat (call_at new.seats seat)
  -- of the file it is told what a page or a transfer may come to, never that there is no memory
  pub page : (fault : FileFault) → did ≡ steps.Fault (faults.File fault) → IsOfPage fault
  -- and of a transfer that has failed only where one has, in this step
  pub cause : (fault : FileFault) → did ≡ steps.Fault (faults.File fault) → FileHasCause old.pool new.pool fault
  -- after a failure of the file each call is told of it, and nothing changes
  pub failed : new.failed ≡ (old.failed || is_failure did)
  pub failure : new.failure ≡ failure_by seat did old.failure
  pub fails : old.failed ≡ true → did ≡ told_of_failure (call_at old.seats seat)
  pub still : old.failed ≡ true → new ≡ old
  -- each step that moves is counted, and no other
  pub counts : Counts seat did old new
