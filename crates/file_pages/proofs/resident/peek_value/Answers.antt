-- The bucket in the page's image is the bucket on the page.
use Rattle.std.proofs.Common.{◌≡◌, ◌∙◌, ap, [], List, ℕ, Bor}
use Rattle.std.proofs.lemmas.Option.{get_or_from_slice_get, slice_get_within}
use Rattle.bucket_page.specs.Reading.{page_in}
use Rattle.hash_file.specs.Store.{page_at}
use Rattle.file_pages.specs.Files.{store_of}
use Rattle.file_pages.proofs.ReadLemmas.{lent_of}
use Rattle.file_pages.proofs.StoreLemmas.{page_is}
use Rattle.file_pages.proofs.resident.peek_value.Goals as goal

pub returns : goal.returns
returns g c =
    let images = c.args.pool.now.images in
    let payload = c.in_ok-resident.field-0.now in
    let here = c.in_ok-resident.ensures in
    let bucket = c.in_ok-bucket.ensures.some in
    let was : page_at (store_of images) c.args.page ≡ page_in payload =
    page_is images c.args.page c.if-page-lt-ROOT_PAGE.false (slice_get_within images c.args.page payload here)
    ∙ ap page_in (get_or_from_slice_get images c.args.page payload [] here) in
    record {
      ok = lent_of (λ (b : Bor (List ℕ)). b.now) c.find.result payload c.in_ok-bucket.field-0
          (page_at (store_of images) c.args.page) c.args.key.now was bucket.0 bucket.1 c.find.ensures.some
          c.find.ensures.none;
    }
