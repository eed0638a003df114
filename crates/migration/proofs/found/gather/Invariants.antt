-- The device was only read, and where no page could be read so far a transfer failed of each that can.
use Rattle.std.proofs.Common.{◌≡◌, ◌≤◌, IsTrue}
use Rattle.migration.specs.Gathering.{MissesPages}
use Rattle.migration.proofs.found.gather.Given as goal

abbrev pub invariant-loop-page : goal.invariant-loop-page
invariant-loop-page g l = record {
  same : g.D.PageDevice.content l.device ≡ g.D.PageDevice.content l.fn.device;
  honest : g.D.PageDevice.is_honest l.device ≡ g.D.PageDevice.is_honest l.fn.device;
  later : g.D.PageDevice.fault_count l.fn.device ≤ g.D.PageDevice.fault_count l.device;
  misses : IsTrue (g.D.PageDevice.is_honest l.fn.device) → MissesPages (g.D.PageDevice.content l.fn.device)
      l.found.read l.page (g.D.PageDevice.fault_count l.fn.device) (g.D.PageDevice.fault_count l.device);
}
