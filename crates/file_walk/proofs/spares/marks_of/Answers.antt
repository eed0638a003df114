-- Each page of the chain is marked, once.
use Rattle.std.proofs.Common.{◌<◌, slice_index_or, sym, subst}
use Rattle.file_walk.proofs.SparesLemmas.{place_within, place_marked}
use Rattle.file_walk.proofs.spares.marks_of.Goals as goal

pub index_mut-requires : goal.index_mut-requires
index_mut-requires c =
    subst (λ n. slice_index_or c.args.chain.now c.loop-page.page-index 0 < n) (sym c.loop-page.marks.ok.0)
    (place_within _ _ _ c.requires _ c.loop-page-test.true c.loop-page.invariant)

pub loop-page-preserved : goal.loop-page-preserved
loop-page-preserved c = place_marked _ _ _ c.requires _ c.loop-page-test.true c.loop-page.invariant
