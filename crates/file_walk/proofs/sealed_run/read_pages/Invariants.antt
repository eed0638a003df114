-- The pages so far are in the room.
use Rattle.std.proofs.Common.{◌≡◌, ◌≤◌, length}
use Rattle.file_walk.specs.Runs.{AreHeld}
use Rattle.file_walk.proofs.sealed_run.read_pages.Given as goal

abbrev pub invariant-loop-page : goal.invariant-loop-page
invariant-loop-page g l = record {
  read : AreHeld (g.D.PageDevice.is_honest l.fn.device) (g.D.PageDevice.content l.fn.device) l.first l.page l.room;
  long : length l.room ≡ length l.fn.room;
  same : g.D.PageDevice.content l.device ≡ g.D.PageDevice.content l.fn.device;
  honesty : g.D.PageDevice.is_honest l.device ≡ g.D.PageDevice.is_honest l.fn.device;
  later : g.D.PageDevice.fault_count l.fn.device ≤ g.D.PageDevice.fault_count l.device;
}
