-- The beginning is that of the device as it was lent.
use Rattle.deferred_sync.specs.Deferred.{start_of}
use Rattle.crash_safe_runs.proofs.replaying.replay_over.Given as goal

abbrev pub ghosts-replay_since : goal.ghosts-replay_since
ghosts-replay_since g a = record {
  start = start_of g.P.PagePair.moment a.device;
  left = g.P.PagePair.left_since a.device.pair;
}
