-- A page that is a bucket is one of the pages from the root on.
use Rattle.std.proofs.Common.{◌≡◌, refl, sym, ap, ◌∙◌, ℕ, ◌<◌, ◌≤◌, true, false, List, length, arith}
use Rattle.std.proofs.lemmas.Bool.{ltb-true, true≢false}
use Rattle.std.proofs.lemmas.Bool.Decides.{nat_tests}
use Rattle.std.proofs.lemmas.List.{get_or_past}
use Rattle.std.specs.Prelude.{Bool, nat_lt}
use Rattle.bucket_page.specs.declared.page.PageKind.TheVariants as kinds
use Rattle.directory.specs.declared.layout.TheConstants.{ROOT_PAGE}
use Rattle.file_pages.specs.Files.{kind_on, store_of}
use Rattle.file_pages.specs.Writes.{IsBucketThere}
use Rattle.file_pages.proofs.StoreLemmas.{listed_at, pages_are}
use Rattle.hash_file.specs.Store.{has_bucket, is_bucket, page_at}

pub page_kind : (images : List (List ℕ)) (n : ℕ) → n < length images → page_at (store_of images) n ≡ kind_on images n
unfolding store_of
page_kind images n within = listed_at (length images) n (kind_on images) (kinds.Free 0) within

module _ (images : List (List ℕ)) (page : ℕ) (live : has_bucket (store_of images) page ≡ true) where
  within_by : (b : Bool) → nat_lt page (length images) ≡ b → page < length images
  within_by true below = ltb-true page (length images) below
  within_by false above =
      let past : length (store_of images).pages ≤ page =
      rw (pages_are images) (let outside : length images ≤ page = grind (arith, nat_tests) in outside) in
      absurd (true≢false (sym live ∙ ap is_bucket (get_or_past (store_of images).pages page (kinds.Free 0) past)))

  within : page < length images
  within = within_by (nat_lt page (length images)) refl

  kind_free : nat_lt page ROOT_PAGE ≡ true → kind_on images page ≡ kinds.Free 0
  kind_free below = rw below refl

  behind_by : (b : Bool) → nat_lt page ROOT_PAGE ≡ b → ROOT_PAGE ≤ page
  behind_by false above = let outside : ROOT_PAGE ≤ page = grind (arith, nat_tests) in outside
  behind_by true below =
      absurd (true≢false (sym live ∙ ap is_bucket (page_kind images page within ∙ kind_free below)))

  pub bucket_there : IsBucketThere page (store_of images)
  bucket_there = record {
    behind = behind_by (nat_lt page ROOT_PAGE) refl;
    within = rw (pages_are images) within;
    bucket = live;
  }
