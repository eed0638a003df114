use Rattle.std.proofs.Common.{IsTrue}
use Rattle.safe_device.specs.Safe.{committed}
use Rattle.safe_device.proofs.Restoring.{Shows}
use Rattle.safe_device.proofs.guarded_file.GuardedFile.open_images.Given as goal

-- the images so far are of the pages at the last sync
abbrev pub invariant-loop-page : goal.invariant-loop-page
invariant-loop-page g l =
    IsTrue g.P.PagePair.is_honest → Shows (committed g.P.PagePair.file g.P.PagePair.journal l.self.pair).pages l.images
