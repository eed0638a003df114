use Rattle.std.proofs.Common.{ℕ, ◌*◌, inl, inr, arith, rules}
use Rattle.std.proofs.lemmas.Bool.{cases_lt}
use Rattle.digests.proofs.RunLemmas.{AreSealed-at}
use Rattle.digests.proofs.run.are_sealed.Goals as goal

pub fours-preserved : goal.fours-preserved
fours-preserved c = λ k low.
    let from : ℕ = 4 * c.fours.four in
    elim (cases_lt k from) [
      | inl before ↦ c.fours.invariant k before
      | inr after ↦
          AreSealed-at c.args.first from _ c.args.pages.now (omega arith) (omega arith)
          (c.four_are_sealed.ensures.0 (search rules)) k after (omega arith)
    ]
