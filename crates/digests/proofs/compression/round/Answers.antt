use Rattle.std.proofs.Common.{◌∙◌, sym, slice_index}
use Rattle.sha2.specs.Sha256.{add32}
use Rattle.digests.proofs.ColumnLemmas.{column-at, column-round}
use Rattle.digests.proofs.compression.round.Goals as goal

pub returns : goal.returns
returns c = λ lane within.
    let first = c.temp1-first.ensures lane within in
    let second = c.temp2-second.ensures lane within in
    column-round lane c.args.v c.args.k (slice_index c.args.word lane) _ _
    (c.add-a.ensures lane within ∙ (λ i. add32 (first i) (second i)))
    (c.add-e.ensures lane within ∙ (λ i. add32 (sym (column-at lane c.args.v 3) i) (first i)))
