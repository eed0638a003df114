use Rattle.std.proofs.Common.{◌≤◌, ◌<◌, IsTrue, length, take, All}
use Rattle.safe_device.specs.Left.{images_of}
use Rattle.safe_device.specs.declared.journal.PageImage.{PageImage}
use Rattle.pair_transfers.proofs.recovery_over.fits.Given as goal

-- the images so far are of pages that were there
abbrev pub invariant-loop-index : goal.invariant-loop-index
invariant-loop-index g l = record {
  counts : IsTrue g.P.PagePair.is_honest → l.journal.count ≤ length (g.P.PagePair.file l.pair);
  so_far : IsTrue g.P.PagePair.is_honest
      → All (λ (image : PageImage). image.page < l.journal.count)
      (take l.index (images_of (g.P.PagePair.journal l.pair)));
}
