use Rattle.std.proofs.Common.{◌≡◌, ◌∙◌, sym, ap, inl, inr, ℕ, ◌*◌, ◌<◌, List, [], length}
use Rattle.std.proofs.Common.{slice_index, slice_index_or, slice_set, arith, rules}
use Rattle.std.proofs.lemmas.Bool.{cases_lt}
use Rattle.std.proofs.lemmas.List.{get_or-set_same, get_or-set_other, length-set}
use Rattle.sha2.specs.Sha256.{word_at}
use Rattle.digests.specs.Lanes.{column}
use Rattle.digests.proofs.ColumnLemmas.{column-set, length-column}
use Rattle.digests.proofs.short.rows.Goals as goal

pub words-init : goal.words-init
words-init c = (search rules, λ lane within k low. absurd (omega arith))

pub words-preserved : goal.words-preserved
words-preserved c = (
  length-set c.words.words c.words.t c.row_at.result ∙ c.words.invariant.0,
  λ lane within k low.
      let block = slice_index_or c.args.blocks.now lane [] in
      let rows = c.words.words in
      let t = c.words.t in
      let word = slice_index c.row_at.result lane in
      ap (λ (words : List ℕ). slice_index words k) (column-set lane rows t c.row_at.result)
      ∙ elim (cases_lt k t) [
        | inl before ↦
            get_or-set_other (column lane rows) t k word 0 (omega arith) ∙ c.words.invariant.1 lane within k before
        | inr after ↦
            let same : t ≡ k = omega arith in
            let inside : t < length (column lane rows) = omega (arith, length-column lane rows, c.words.invariant.0) in
            ap (slice_index (slice_set (column lane rows) t word)) (sym same)
            ∙ get_or-set_same (column lane rows) t word 0 inside
            ∙ c.row_at.ensures lane within
            ∙ ap (λ (m : ℕ). word_at block (4 * m)) same
      ],
)

pub returns : goal.returns
returns c = λ lane within k low. c.words.invariant.1 lane within k (omega arith)
