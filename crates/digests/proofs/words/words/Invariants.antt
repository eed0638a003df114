use Rattle.std.proofs.Common.{◌≡◌, ℕ, ◌+◌, ◌*◌, ◌<◌, [], length, slice_index, slice_index_or}
use Rattle.sha2.specs.Sha256.{word_at}
use Rattle.digests.specs.Lanes.{block_of, column, padded_page}
use Rattle.digests.proofs.words.words.Given as goal

-- the rows so far have the first words of each message's block
abbrev pub invariant-words : goal.invariant-words
invariant-words l = (length l.words ≡ 16) × ((lane : ℕ) → lane < 4 → (k : ℕ) → k < l.t
    → slice_index (column lane l.words) k
    ≡ word_at (block_of (padded_page (l.first + lane) (slice_index_or l.pages lane [])) l.block) (4 * k))
