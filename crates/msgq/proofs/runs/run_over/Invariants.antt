-- The beginning is that of the device as it was lent.
use Rattle.crash_safe_runs.specs.deferred_sync.Deferred.{start_of}
use Rattle.msgq.proofs.runs.run_over.Given as goal

abbrev pub ghosts-run_since : goal.ghosts-run_since
ghosts-run_since g a = record {
  start = start_of g.P.PagePair.moment a.device;
  left = g.P.PagePair.left_since a.device.pair;
}
