use Rattle.std.proofs.Common.{◌≡◌, ℕ, ◌+◌, ◌<◌, [], slice_index_or}
use Rattle.sha2.specs.Sha256.{hash_after, initial_hash_256}
use Rattle.digests.specs.Lanes.{column, padded_page}
use Rattle.digests.proofs.run.hash_values.Given as goal

-- each message has its hash value after so many blocks
abbrev pub invariant-blocks-2 : goal.invariant-blocks-2
invariant-blocks-2 l = (lane : ℕ) → lane < 4 → column lane l.state
    ≡ hash_after initial_hash_256 (padded_page (l.first + lane) (slice_index_or l.pages lane [])) l.block
