-- A page that isn't guarded reads as it was at the last sync.
use Rattle.std.proofs.Common.{refl}
use Rattle.safe_device.specs.Left.{restored_by}
use Rattle.safe_device.proofs.Sessions.{open_page, one_image}
use Rattle.safe_device.proofs.guarded_file.GuardedFile.guard.Goals as goal

pub add_images-requires-clause-images : goal.add_images-requires-clause-images
add_images-requires-clause-images g c honest =
    let safe = c.requires.safe honest in
    let old = c.args.self.now in
    let P = g.P.PagePair in
    let stands = open_page (P.journal old.pair) old.begun old.count c.args.page c.load.new.into old.guarded.items
    (P.file old.pair) safe.session (c.if-is_guarded.ensures.open refl) (c.in_ok-load.ensures.ok honest) in
    one_image (restored_by (P.journal old.pair) (P.file old.pair)) c.args.page c.load.new.into stands
