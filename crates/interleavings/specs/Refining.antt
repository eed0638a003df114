-- A kernel beside the plain lists of its journal. docs/STEPS.md, "Calls"; docs/QUEUES.md, "Journals".
use Rattle.std.specs.Prelude.{ℕ, ◌≡◌, false, Some, length}
pub use Rattle.interleavings.specs.Counting.{calls_of}
use Rattle.step_rules.specs.Words.{Change}
use Rattle.interleavings.specs.Counting.{AreCounted}
use Rattle.interleavings.specs.Words.{ActiveView, Caller, HasFittingCaller, KernelState, LeadsAlong, RecordKey, State, call_at, caller_at}

-- it refines this system: it has come from it by what its journal says, whatever its seats are at
pub record Refines {K : Type 0} (hash : RecordKey → ℕ) (base : State) (k : KernelState K) : Type 0 where
  -- the system after the journal, which is stopped exactly where the kernel is
  pub now : State
  pub leads : LeadsAlong k.callers k.journal base now
  pub mark : now.stopped ≡ k.stopped
  -- the numbers of each seat's caller fit the fields of records
  pub callers : (seat : ℕ) (caller : Caller) → caller_at k.callers seat ≡ Some caller → HasFittingCaller caller
  -- each seat has a row of locks, a caller, and a place for a call, which is one of that caller
  pub rows : length k.locks ≡ length k.seats
  pub seated : length k.callers ≡ length k.seats
  pub sits : (seat : ℕ) (a : ActiveView) → call_at k.seats seat ≡ Some a →
      caller_at k.callers seat ≡ Some a.machine.caller
  -- that is the system to which its calls have come, and what it counts is of their searches, until a step fails
  pub together : k.failed ≡ false → AreCounted hash now k

-- and, until a step fails, in this phase of a change of the structure
pub record RefinesIn {K : Type 0} (hash : RecordKey → ℕ) (base : State) (k : KernelState K) (change : Change)
    : Type 0 where
  pub led : Refines hash base k
  pub phase : (sound : k.failed ≡ false) → (led.together sound).calls.change ≡ change
