use Rattle.std.proofs.Common.{◌≡◌, ◌*◌, length, take}
use Rattle.sha2.specs.Sha256.{digest_bytes}
use Rattle.digests.specs.Lanes.{column}
use Rattle.digests.proofs.run.digest.Given as goal

-- the bytes of the words so far
abbrev pub invariant-words : goal.invariant-words
invariant-words l = (length l.bytes ≡ 32) × (take (4 * l.i) l.bytes ≡ digest_bytes (column l.lane l.state) l.i)
