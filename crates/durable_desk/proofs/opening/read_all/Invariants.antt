-- The pages up to the next are in memory, and the device is as it was.
use Rattle.std.proofs.Common.{◌≡◌, IsTrue, length, take}
use Rattle.durable_desk.specs.Opening.{IsRead}
use Rattle.durable_desk.proofs.opening.read_all.Given as goal

abbrev pub invariant-loop-number : goal.invariant-loop-number
invariant-loop-number g l = record {
  read : IsTrue g.P.PagePair.is_honest → l.file ≡ take l.number l.fn.device.content;
  as_many : length l.file ≡ l.number;
  same : IsRead l.fn.device l.device;
}
