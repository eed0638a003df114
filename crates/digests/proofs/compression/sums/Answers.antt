use Rattle.std.proofs.Common.{◌∙◌, sym, ℕ, [], ◌∷◌}
use Rattle.sha2.specs.Sha256.{add32}
use Rattle.digests.proofs.ColumnLemmas.{column-at}
use Rattle.digests.proofs.compression.sums.Goals as goal

pub returns : goal.returns
returns c = λ lane within.
    let s = λ (i : ℕ). sym (column-at lane c.args.state.now i) in
    let v = λ (i : ℕ). sym (column-at lane c.args.v.now i) in
    λ i.
    (c.add.ensures lane within ∙ (λ j. add32 (s 0 j) (v 0 j))) i
    ∷ (c.add-2.ensures lane within ∙ (λ j. add32 (s 1 j) (v 1 j))) i
    ∷ (c.add-3.ensures lane within ∙ (λ j. add32 (s 2 j) (v 2 j))) i
    ∷ (c.add-4.ensures lane within ∙ (λ j. add32 (s 3 j) (v 3 j))) i
    ∷ (c.add-5.ensures lane within ∙ (λ j. add32 (s 4 j) (v 4 j))) i
    ∷ (c.add-6.ensures lane within ∙ (λ j. add32 (s 5 j) (v 5 j))) i
    ∷ (c.add-7.ensures lane within ∙ (λ j. add32 (s 6 j) (v 6 j))) i
    ∷ (c.add-8.ensures lane within ∙ (λ j. add32 (s 7 j) (v 7 j))) i ∷ []
