-- The beginning is that of the device as it was lent.
use Rattle.deferred_sync.specs.Deferred.{start_of}
use Rattle.command_runs.proofs.commands.command_over.Given as goal

abbrev pub ghosts-command_since : goal.ghosts-command_since
ghosts-command_since g a = record {
  start = start_of g.P.PagePair.moment a.device;
  left = g.P.PagePair.left_since a.device.pair;
}
