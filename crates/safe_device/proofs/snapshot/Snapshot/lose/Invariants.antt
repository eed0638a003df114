use Rattle.std.proofs.Common.{take}
use Rattle.safe_device.specs.Memory.{FileMay}
use Rattle.safe_device.proofs.snapshot.Snapshot.lose.Given as goal

-- the changes so far were met
abbrev pub invariant-loop-place : goal.invariant-loop-place
invariant-loop-place l = FileMay (take l.place l.self.changes) l.self.synced_file l.file
