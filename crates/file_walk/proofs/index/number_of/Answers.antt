-- A bucket of this depth is counted, and no other.
use Rattle.std.proofs.Common.{◌≡◌, ◌==◌, true, false, slice_index_or, sym, ap, ◌∙◌, add-zero, ◌+◌, arith}
use Rattle.std.proofs.lemmas.Bool.Decides.{nat_tests}
use Rattle.hash_file.specs.Store.{bucket_at}
use Rattle.file_walk.proofs.IndexLemmas.{number_more}
use Rattle.file_walk.proofs.index.number_of.Goals as goal
use Rattle.file_walk.proofs.index.number_of.Goals.{then-local_depth-depth, else-local_depth-depth}

pub loop-page-preserved : goal.loop-page-preserved
loop-page-preserved c =
    let before = c.loop-page.invariant in
    let small = before.small in
    let here = c.local_depth.ensures in
    elim c.if-local_depth-depth.branch [
      | then-local_depth-depth w ↦
          let same = w.if-local_depth-depth.true in
          let is : ((bucket_at c.args.file.now (slice_index_or c.args.chain.now c.loop-page.page-index 0)).depth ==
          c.args.depth) ≡ true =
          grind (arith, nat_tests) in
          record {
            small = let more = w.number-is in omega arith;
            counted = w.number-is ∙ ap (λ n. n + 1) before.counted
                ∙ sym (number_more c.args.file.now c.args.chain.now _ _ true c.loop-page-test.true is);
          }
      | else-local_depth-depth w ↦
          let other = w.if-local_depth-depth.false in
          let is : ((bucket_at c.args.file.now (slice_index_or c.args.chain.now c.loop-page.page-index 0)).depth ==
          c.args.depth) ≡ false =
          grind (arith, nat_tests) in
          record {
            small = let same = w.number-is in omega arith;
            counted = w.number-is ∙ before.counted ∙ sym (add-zero _)
                ∙ sym (number_more c.args.file.now c.args.chain.now _ _ false c.loop-page-test.true is);
          }
    ]
