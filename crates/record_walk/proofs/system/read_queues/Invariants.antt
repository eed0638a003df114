-- The queues of the ids so far are read.
use Rattle.std.proofs.Common.{ℕ, ◌≡◌, ◌<◌, IsTrue, length}
use Rattle.std.specs.Prelude.{slice_index, slice_index_or}
use Rattle.record_walk.specs.Held.{IsStill}
use Rattle.record_walk.specs.Systems.{IsQueueOf}
use Rattle.record_walk.specs.Words.{Queue}
use Rattle.record_walk.proofs.system.read_queues.Given as goal

abbrev pub invariant-loop-id : goal.invariant-loop-id
invariant-loop-id g l = record {
  still : IsStill g.F.Records.held g.F.Records.pages g.F.Records.is_honest g.F.Records.fault_count l.fn.file l.file;
  number : length l.queues.items ≡ l.id-index;
  each : IsTrue (g.F.Records.is_honest l.fn.file) → (i : ℕ) (d : Queue) → i < l.id-index →
      IsQueueOf (g.F.Records.held l.fn.file) (slice_index l.ids i) (slice_index_or l.queues.items i d);
}
