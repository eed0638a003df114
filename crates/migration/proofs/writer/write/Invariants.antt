-- The seat is alone, and on an honest device the queues before this one are put.
use Rattle.std.proofs.Common.{[]}
use Rattle.migration.specs.Filling.{IsNew}
use Rattle.lone_access.specs.Alone.{IsAlone, KeepsPool}
use Rattle.migration.proofs.QueueLemmas.{IsUpToQueue}
use Rattle.migration.proofs.writer.write.Given as goal

abbrev pub invariant-loop-place : goal.invariant-loop-place
invariant-loop-place g l = record {
  alone : IsAlone [] l.pool l.locks;
  keeps : KeepsPool l.fn.pool l.pool;
  goes : IsNew (g.K.PseudoKey.of_key l.keys) l.fn.pool →
      IsUpToQueue (g.K.PseudoKey.of_key l.keys) l.system l.place l.pool;
}
