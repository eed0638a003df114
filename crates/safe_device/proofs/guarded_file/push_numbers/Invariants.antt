use Rattle.std.proofs.Common.{◌≡◌, ◌++◌, take}
use Rattle.safe_device.specs.Safe.{numbers}
use Rattle.safe_device.proofs.guarded_file.push_numbers.Given as goal

abbrev pub invariant-loop-image : goal.invariant-loop-image
invariant-loop-image l = l.guarded.items ≡ l.fn.guarded.items ++ numbers (take l.image-index l.images)
