-- What a page says whose payload spells it.
use Rattle.std.proofs.Common.{ℕ, ◌≡◌, ◌+◌, ◌<◌, ◌≤◌, nat_lt, true, false, List, [], length, map, take, drop, replicate, Option, Some, None, Ok, refl, sym, ap, subst, ◌∙◌, slice_index_or, arith}
use Rattle.std.proofs.Math.ListN.{get_or-eq_default}
use Rattle.std.proofs.lemmas.Bool.Decides.{nat_tests}
use Rattle.std.proofs.lemmas.List.{get_or_append_left, get_or-drop, get_or-replicate, get_or-take, length-drop, length-replicate, length-take-le}
use Rattle.page_device.specs.Sealed.{IsSealed}
use Rattle.directory.specs.declared.layout.TheConstants.{DIRECTORY_PAGES, FIRST_DIRECTORY_PAGE, GREATEST_DEPTH, LEAST_PAGES, ROOT_PAGE}
use Rattle.bucket_page.specs.declared.page.Malformed.{Malformed}
use Rattle.bucket_page.specs.declared.page.PageKind.{PageKind}
use Rattle.bucket_page.specs.declared.page.PageKind.TheVariants as kinds
use Rattle.bucket_page.specs.Reading.{answer, fault_of, page_in}
use Rattle.bucket_page.specs.Spelling.{Spells}
use Rattle.bucket_page.proofs.PageLaws.{spelled_reads}
use Rattle.hash_file.specs.Store.{page_at}
use Rattle.file_walk.specs.Files.{file_of, page_on, pages_in, pages_on, payload_on, said_by, said_on}
use Rattle.file_walk.specs.Order.{IsRightPage, after_reading, depth_of, is_directory, may_stand}
use Rattle.file_walk.proofs.Today.{spelled_shallow, pages_at, pages_length}

answered : {X : Type 0} (fault : Option Malformed) (x y : X) → answer fault y ≡ Ok x → (fault ≡ None) × (y ≡ x)
answered None x y e = (refl, cc)
answered (Some reason) x y e = absurd cc

pub said_is : (content : List (List ℕ)) (n : ℕ) → said_on content n ≡ page_in (payload_on content n)
unfolding said_by
said_is content n = refl

-- from the root on stands any page but one of the directory
pub may_behind : (n : ℕ) (page : PageKind) → ROOT_PAGE ≤ n → is_directory page ≡ false → may_stand n page ≡ true
may_behind n page behind other =
    let high : nat_lt n ROOT_PAGE ≡ false = grind (arith, nat_tests) in
    rw (high, other) refl

module _ (content : List (List ℕ)) (n : ℕ) (page : PageKind) (is : Spells page (payload_on content n)) where
  abbrev payload : List ℕ
  payload = payload_on content n

  read : (fault_of payload ≡ None) × (page_in payload ≡ page)
  read = answered (fault_of payload) page (page_in payload) (spelled_reads page payload is)

  pub says : said_on content n ≡ page
  says = said_is content n ∙ read.1

  pub is_right : IsSealed n (page_on content n) → may_stand n page ≡ true → IsRightPage content n
  is_right sealed stands = record {
    sealed = sealed;
    formed = ap (λ f. after_reading f (may_stand n (said_on content n))) read.0
        ∙ ap (λ p. after_reading None (may_stand n p)) says
        ∙ ap (after_reading None) stands;
    shallow = subst (λ (p : PageKind). depth_of p ≤ GREATEST_DEPTH) (sym says) (spelled_shallow page payload is);
    spelled = subst (λ (p : PageKind). Spells p payload) (sym says) is;
  }

  pub stands_at : ROOT_PAGE ≤ n → n < length content → page_at (file_of content) n ≡ page
  stands_at behind within = pages_at content n (kinds.Free 0) behind within ∙ says

-- ---- the pages of a file

-- nothing is asked of the pages below the root
pub page_low : (content : List (List ℕ)) (n : ℕ) → n < ROOT_PAGE → page_at (file_of content) n ≡ kinds.Directory []
unfolding pages_in
page_low content n low =
    let d : PageKind = kinds.Directory [] in
    let some : n < length (replicate ROOT_PAGE d) = subst (λ m. n < m) (sym (length-replicate ROOT_PAGE d)) low in
    get_or_append_left (replicate ROOT_PAGE d) (map said_by (drop ROOT_PAGE content)) (kinds.Free 0) n some
    ∙ get_or-replicate ROOT_PAGE n d (kinds.Free 0) low

pub page_past : (content : List (List ℕ)) (n : ℕ) → ROOT_PAGE ≤ length content → length content ≤ n →
    page_at (file_of content) n ≡ kinds.Free 0
page_past content n long past =
    get_or-eq_default (pages_on content) (kinds.Free 0)
    (subst (λ m. m ≤ n) (sym (pages_length content long)) past)

-- the pages of the directory
abbrev pub directory_of : List (List ℕ) → List (List ℕ)
directory_of content = take DIRECTORY_PAGES (drop FIRST_DIRECTORY_PAGE content)

pub directory_length : (content : List (List ℕ)) → LEAST_PAGES ≤ length content →
    length (directory_of content) ≡ DIRECTORY_PAGES
directory_length content long =
    length-take-le DIRECTORY_PAGES (drop FIRST_DIRECTORY_PAGE content) (rw length-drop (omega arith))

pub directory_page : (content : List (List ℕ)) (i : ℕ) → i < DIRECTORY_PAGES →
    slice_index_or (directory_of content) i [] ≡ page_on content (FIRST_DIRECTORY_PAGE + i)
directory_page content i few =
    get_or-take DIRECTORY_PAGES (drop FIRST_DIRECTORY_PAGE content) i [] few
    ∙ get_or-drop FIRST_DIRECTORY_PAGE content i []
