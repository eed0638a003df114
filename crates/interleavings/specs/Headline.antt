-- The answers of a kernel are those of plain lists, and at rest its file holds exactly what the lists do.
-- docs/QUEUES.md, "Journals", "Order".
use Rattle.std.specs.Prelude.{ℕ, ◌≡◌, false, None}
use Rattle.interleavings.specs.Refining.{Refines}
use Rattle.interleavings.specs.Words.{IsFifo, IsFileAtRest, IsLawful, IsLegal, KernelState, RecordKey, State, after, call_at}

pub record IsAsPlainLists {K : Type 0} (hash : RecordKey → ℕ) (base : State) (k : KernelState K) : Type 0 where
  -- each entry's answer is the outcome of its call, by the rules, in the system after the entries before it
  pub legal : IsLegal k.callers k.journal base
  -- of each type messages are received in the order in which they were sent, each once
  pub fifo : IsFifo k.callers k.journal base
  -- once no seat has a call, and no step has failed, the file has exactly the records of the system after the journal
  pub file : ((seat : ℕ) → call_at k.seats seat ≡ None) → k.failed ≡ false →
      IsFileAtRest hash (after k.callers k.journal base) k.pool k.locks

-- ---- a run of events

-- whatever the events, and so whatever the order of the seats' steps: where it refines a lawful system the kernel still
-- does, and is as plain lists
pub record AnswersRightly {K : Type 0} (hash : RecordKey → ℕ) (old new : KernelState K) : Type 0 where
  pub led : (base : State) → Refines hash base old → Refines hash base new
  pub plain : (base : State) → IsLawful base → Refines hash base old → IsAsPlainLists hash base new
