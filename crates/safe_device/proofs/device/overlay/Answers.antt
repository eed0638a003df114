-- The last image of the page is what stands there.
use Rattle.std.proofs.Common.{rules, ◌≡◌, ◌<◌, inl, inr, length, get_or}
use Rattle.std.proofs.lemmas.Option.{slice_get-get_or}
use Rattle.safe_device.proofs.Restoring.{laid_over, no_image}
use Rattle.safe_device.proofs.device.overlay.Goals as goal
use Rattle.safe_device.proofs.device.overlay.Goals.{then-image-page, else-image-page}

pub loop-image-preserved : goal.loop-image-preserved
loop-image-preserved c pages is =
    let loop = c.loop-image in
    let images = c.args.images.now in
    let page = c.args.page in
    let lt : loop.image-index < length images = search rules in
    let image = get_or images loop.image-index no_image in
    let found = slice_get-get_or images loop.image-index no_image lt in
    laid_over pages images loop.image-index image page loop.into c.if-image-page.into found (loop.invariant pages is)
    (elim c.if-image-page.branch [
      | then-image-page w ↦ let same : image.page ≡ page = search rules in inl (same, w.into-is)
      | else-image-page w ↦ let apart : image.page ≡ page → ⊥ = search rules in inr (apart, w.into-is)
    ])
