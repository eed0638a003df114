-- A page that isn't guarded reads as it was at the last sync.
use Rattle.std.proofs.Common.{◌≡◌, refl, sym, subst, List, Some, slice_get, get_or}
use Rattle.std.proofs.lemmas.List.Elements.{All-push}
use Rattle.safe_device.specs.Safe.{committed}
use Rattle.safe_device.specs.declared.journal.PageImage.{PageImage}
use Rattle.safe_device.proofs.Restoring.{Shows, no_image}
use Rattle.safe_device.proofs.Sessions.{open_page}
use Rattle.safe_device.proofs.guarded_file.GuardedFile.open_images.Goals as goal

pub loop-page-preserved : goal.loop-page-preserved
loop-page-preserved g c honest =
    let safe = c.requires.safe honest in
    let it = c.args.self.now in
    let P = g.P.PagePair in
    let page = (get_or c.args.pages.now c.loop-page.page-index no_image).page in
    let base = (committed P.file P.journal it.pair).pages in
    let shows = λ (image : PageImage). slice_get base image.page ≡ Some image.bytes in
    let stands = open_page (P.journal it.pair) it.begun it.count page c.load.new.into it.guarded.items
    (P.file it.pair) safe.session (λ is. c.if-is_guarded.ensures.open refl is) (c.in_ok-load.ensures.ok honest) in
    subst (λ (images : List PageImage). Shows base images) (sym c.in_ok-push.ensures.ok)
    (All-push shows c.loop-page.images (record { page = page; bytes = c.load.new.into })
    (c.loop-page.invariant honest) stands)
