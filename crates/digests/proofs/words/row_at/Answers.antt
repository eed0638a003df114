use Rattle.std.proofs.Common.{ℕ, ◌*◌, [], slice_index_or, add-zero}
use Rattle.sha2.specs.Sha256.{word_at}
use Rattle.digests.specs.Lanes.{padded_page}
use Rattle.digests.proofs.ColumnLemmas.{below_four}
use Rattle.digests.proofs.words.row_at.Goals as goal

pub returns : goal.returns
returns c =
    let at = λ (n page : ℕ). word_at (padded_page n (slice_index_or c.args.pages.now page [])) (4 * c.args.at) in
    below_four _ (rw add-zero c.word.ensures) c.word-2.ensures c.word-3.ensures c.word-4.ensures
