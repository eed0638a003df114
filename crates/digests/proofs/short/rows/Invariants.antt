use Rattle.std.proofs.Common.{◌≡◌, ℕ, ◌*◌, ◌<◌, [], length, slice_index, slice_index_or}
use Rattle.sha2.specs.Sha256.{word_at}
use Rattle.digests.specs.Lanes.{column}
use Rattle.digests.proofs.short.rows.Given as goal

-- the rows so far have the first words of each block
abbrev pub invariant-words : goal.invariant-words
invariant-words l = (length l.words ≡ 16) × ((lane : ℕ) → lane < 4 → (k : ℕ) → k < l.t
    → slice_index (column lane l.words) k ≡ word_at (slice_index_or l.blocks lane []) (4 * k))
