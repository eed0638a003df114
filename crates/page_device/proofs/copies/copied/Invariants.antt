-- The pages up to the next are in memory, and the device is as it was.
use Rattle.std.proofs.Common.{◌≡◌, ◌≤◌, IsTrue, length, take}
use Rattle.page_device.proofs.copies.copied.Given as goal

abbrev pub invariant-loop-number : goal.invariant-loop-number
invariant-loop-number g l = record {
  read : IsTrue (g.D.PageDevice.is_honest l.fn.device) → l.file ≡ take l.number (g.D.PageDevice.content l.fn.device);
  as_many : length l.file ≡ l.number;
  same : g.D.PageDevice.content l.device ≡ g.D.PageDevice.content l.fn.device;
  honest : g.D.PageDevice.is_honest l.device ≡ g.D.PageDevice.is_honest l.fn.device;
  later : g.D.PageDevice.fault_count l.fn.device ≤ g.D.PageDevice.fault_count l.device;
}
