-- The seat is alone, and on an honest device the records of the messages before this one are put.
use Rattle.std.specs.List.{Contains}
use Rattle.std.proofs.Common.{[]}
use Rattle.queue_model.specs.Lawful.{IsLawful}
use Rattle.queue_model.specs.State.{State}
use Rattle.migration.specs.Filling.{IsOpen}
use Rattle.lone_access.specs.Alone.{IsAlone, KeepsPool}
use Rattle.migration.proofs.QueueLemmas.{IsUpTo}
use Rattle.migration.proofs.writer.write_queue.Given as goal

abbrev pub invariant-loop-place : goal.invariant-loop-place
invariant-loop-place g l = record {
  alone : IsAlone [] l.pool l.locks;
  keeps : KeepsPool l.fn.pool l.pool;
  goes : (s : State) → IsLawful s → Contains s.queues l.queue →
      IsOpen (g.K.PseudoKey.of_key l.keys) s l.queue l.fn.pool →
      IsUpTo (g.K.PseudoKey.of_key l.keys) s l.queue l.place l.fn.pool l.pool;
}
