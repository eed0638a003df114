-- A system of queues: those alive in ascending order of id, the next id, and whether it was stopped.
-- docs/QUEUES.md, "Systems".
use Rattle.std.specs.Prelude.{ℕ, Bool, List}
use Rattle.queue_model.specs.declared.queue.Queue.{Queue}

pub record State : Type 0 where
  pub queues : List Queue
  pub next_id : ℕ
  pub stopped : Bool
