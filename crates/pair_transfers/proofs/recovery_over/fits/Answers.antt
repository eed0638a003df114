-- Each image is of a page that was there.
use Rattle.std.proofs.Common.{rules, ◌<◌, ◌≤◌, sym, subst, List, take, All}
use Rattle.std.proofs.lemmas.List.Elements.{All-push}
use Rattle.safe_device.specs.Left.{images_of}
use Rattle.safe_device.specs.declared.journal.PageImage.{PageImage}
use Rattle.pair_transfers.proofs.PuttingBackLemmas.{fits_all, take_found}
use Rattle.pair_transfers.proofs.recovery_over.fits.Goals as goal

pub loop-index-preserved : goal.loop-index-preserved
loop-index-preserved g c =
    let P = g.P.PagePair in
    let images = images_of (P.journal c.args.pair.now) in
    let loop = c.loop-index in
    let image : PageImage = record { page = c.in_ok-load_image.field-0; bytes = c.load_image.new.into } in
    let within : c.in_ok-load_image.field-0 < c.args.journal.count = search rules in
    let fits = λ (x : PageImage). x.page < c.args.journal.count in
    record {
      counts = loop.invariant.counts;
      so_far = λ honest.
          subst (λ (xs : List PageImage). All fits xs)
          (sym (take_found images loop.index image (c.in_ok-load_image.ensures.ok honest)))
          (All-push fits (take loop.index images) image (loop.invariant.so_far honest) within);
    }

pub returns : goal.returns
returns g c honest =
    let P = g.P.PagePair in
    let loop = c.loop-index in
    let many : c.args.journal.images ≤ loop.index = search rules in
    let fit = fits_all (P.journal c.args.pair.now) c.args.journal (P.file c.args.pair.now) loop.index
    (c.requires.found honest) (loop.invariant.counts honest) many (loop.invariant.so_far honest) in
    (λ is. fit, λ there. search rules)
