-- The pages of a new file are those of a right structure.
use Rattle.std.proofs.Common.{ℕ, zero, suc, ◌≡◌, ◌+◌, ◌-◌, ◌<◌, ◌≤◌, ◌^◌, ◌==◌, nat_lt, Bool, true, false, List, length, replicate, slice_set, if◌then◌else◌, Option, Some, None, Ok, refl, sym, ap, subst, ◌∙◌, inl, inr, arith}
use Rattle.std.specs.List.{AllByRecursion}
use Rattle.std.proofs.lemmas.Bool.{cases_eq, cases_lt, le-ltb, lt-ltb, ne_eqb}
use Rattle.std.proofs.lemmas.List.{length-replicate, length-set}
use Rattle.page_device.specs.declared.page.TheConstants.{MAX_PAGES}
use Rattle.directory.specs.declared.layout.TheConstants.{FIRST_DIRECTORY_PAGE, LEAST_PAGES, LOCAL_DEPTHS, PAGE_ENTRIES, ROOT_PAGE}
use Rattle.directory.specs.declared.header.Header.{Header}
use Rattle.directory.specs.declared.read.HeaderFault.{HeaderFault}
use Rattle.directory.specs.Pages.{IsDirectory}
use Rattle.directory.specs.Reading as header
use Rattle.directory.specs.Spelling.{IsHeader, header_bytes}
use Rattle.directory.proofs.HeaderLaws.{spelled_reads}
use Rattle.bucket_page.specs.declared.page.PageKind.TheVariants as kinds
use Rattle.bucket_page.specs.Records.{Pair}
use Rattle.bucket_page.specs.Spelling.{Spells}
use Rattle.hash_file.specs.Store.{page_at}
use Rattle.file_walk.specs.Files.{file_of, header_on, payload_on, said_on}
use Rattle.file_walk.specs.Order.{IsRightPage}
use Rattle.file_walk.specs.Structure.{HasPages}
use Rattle.file_walk.proofs.Today.{may_below}
use Rattle.record_file.specs.Files.{IsFile, entries_on, file_header, file_page, free_behind, root_bucket}
use Rattle.files_at_rest.proofs.PageLemmas.{is_right, may_behind, says, stands_at}

-- ---- numbers that fit

all_zero : (n : ℕ) → AllByRecursion (λ (k : ℕ). k < 2 ^ 32) (replicate n 0)
all_zero zero = tt
all_zero (suc n) = (omega arith, all_zero n)

free_small : (pages page : ℕ) → page < MAX_PAGES → free_behind pages page < 2 ^ 32
free_small pages page small = at (page + 1 == pages)
  where
    at : (b : Bool) → (if b then 0 else page + 1) < 2 ^ 32
    at true = omega arith
    at false = omega arith

header_is : (pages : ℕ) → LEAST_PAGES ≤ pages → pages ≤ MAX_PAGES → IsHeader (file_header pages)
header_is pages least most = record {
  depth = omega arith;
  least = least;
  most = most;
  numbers = record {
    pages = omega arith;
    first_free = free_small pages ROOT_PAGE (omega arith);
    local_depths = refl;
    counts = (omega arith, all_zero (LOCAL_DEPTHS - 1));
  };
  lacks = λ depth from to. absurd (omega (arith, from, to));
}

first_page : IsDirectory (slice_set (replicate PAGE_ENTRIES 0) 0 ROOT_PAGE)
first_page = record {
  number = length-set (replicate PAGE_ENTRIES 0) 0 ROOT_PAGE ∙ length-replicate {A = ℕ} PAGE_ENTRIES 0;
  entries = (omega arith, all_zero (PAGE_ENTRIES - 1));
}

other_page : IsDirectory (replicate PAGE_ENTRIES 0)
other_page = record { number = length-replicate {A = ℕ} PAGE_ENTRIES 0; entries = all_zero PAGE_ENTRIES }

entries_are : (page : ℕ) → IsDirectory (entries_on page)
entries_are page = at (page == FIRST_DIRECTORY_PAGE)
  where
    at : (b : Bool) →
        IsDirectory (if b then slice_set (replicate PAGE_ENTRIES 0) 0 ROOT_PAGE else replicate PAGE_ENTRIES 0)
    at true = first_page
    at false = other_page

answered : (fault : Option HeaderFault) (x y : Header) → header.answer fault y ≡ Ok x → y ≡ x
answered None x y e = cc
answered (Some reason) x y e = absurd cc

-- ---- page by page

module _ (pages : ℕ) (rs : List Pair) (content : List (List ℕ)) (it : IsFile pages rs content) where
  page_is : (n : ℕ) → n < pages → payload_on content n ≡ file_page pages rs n
  page_is n within = it.payload n within

  within_root : ROOT_PAGE < pages
  within_root = let least = it.least in omega arith

  as_many : length content ≡ pages
  as_many = it.as_many

  header_read : header.reading (payload_on content 0) ≡ Ok (file_header pages)
  header_read =
      spelled_reads (file_header pages) (payload_on content 0) (record {
        in_range = header_is pages it.least it.most;
        spelled = page_is 0 (omega (arith, within_root));
      })

  pub header_says : header_on content ≡ file_header pages
  unfolding header_on
  header_says =
      answered (header.fault_of (payload_on content 0)) (file_header pages) (header.header_at (payload_on content 0))
      header_read

  pub root_spelled : Spells (kinds.Bucket (root_bucket rs)) (payload_on content ROOT_PAGE)
  root_spelled = record { in_range = it.bucket; spelled = page_is ROOT_PAGE within_root }

  low_spelled : (n : ℕ) → FIRST_DIRECTORY_PAGE ≤ n → n < ROOT_PAGE →
      Spells (kinds.Directory (entries_on n)) (payload_on content n)
  low_spelled n behind low =
      let first : (n == 0) ≡ false = ne_eqb n 0 (λ none. omega (arith, none, behind)) in
      let other : (n == ROOT_PAGE) ≡ false = ne_eqb n ROOT_PAGE (λ root. omega (arith, root, low)) in
      let below : nat_lt n ROOT_PAGE ≡ true = lt-ltb n ROOT_PAGE low in
      record {
        in_range = entries_are n;
        spelled = page_is n (omega (arith, low, within_root)) ∙ rw (first, other, below) refl;
      }

  -- entry 0 of the first is the root page
  pub first_says : said_on content FIRST_DIRECTORY_PAGE
      ≡ kinds.Directory (slice_set (replicate PAGE_ENTRIES 0) 0 ROOT_PAGE)
  first_says =
      says content FIRST_DIRECTORY_PAGE (kinds.Directory (entries_on FIRST_DIRECTORY_PAGE))
      (low_spelled FIRST_DIRECTORY_PAGE (omega arith) (omega arith))

  free_spelled : (n : ℕ) → ROOT_PAGE < n → n < pages → Spells (kinds.Free (free_behind pages n)) (payload_on content n)
  free_spelled n behind within =
      let first : (n == 0) ≡ false = ne_eqb n 0 (λ none. omega (arith, none, behind)) in
      let other : (n == ROOT_PAGE) ≡ false = ne_eqb n ROOT_PAGE (λ root. omega (arith, root, behind)) in
      let high : nat_lt n ROOT_PAGE ≡ false = le-ltb n ROOT_PAGE (omega (arith, behind)) in
      let most = it.most in
      record {
        in_range = free_small pages n (omega (arith, within, most));
        spelled = page_is n within ∙ rw (first, other, high) refl;
      }

  inside : (n : ℕ) → n < pages → n < length content
  inside n within = omega (arith, within, as_many)

  right_page : (n : ℕ) → FIRST_DIRECTORY_PAGE ≤ n → n < pages → IsRightPage content n
  right_page n behind within = elim (cases_lt n ROOT_PAGE) [
    | inl low ↦
        is_right content n (kinds.Directory (entries_on n)) (low_spelled n behind low) (it.sealed n within)
        (may_below n (kinds.Directory (entries_on n)) true low refl)
    | inr high ↦ elim (cases_eq n ROOT_PAGE) [
      | inl root ↦ subst (IsRightPage content) (sym root)
          (is_right content ROOT_PAGE (kinds.Bucket (root_bucket rs)) root_spelled (it.sealed ROOT_PAGE within_root)
          (may_behind ROOT_PAGE (kinds.Bucket (root_bucket rs)) (omega arith) refl))
      | inr other ↦
          is_right content n (kinds.Free (free_behind pages n))
          (free_spelled n (omega (arith, high, other)) within) (it.sealed n within)
          (may_behind n (kinds.Free (free_behind pages n)) high refl)
    ]
  ]

  pub has_pages : HasPages content
  has_pages = record {
    header = record {
      sealed = it.sealed 0 (omega (arith, within_root));
      read = header_read ∙ ap (λ (h : Header). Ok h) (sym header_says);
      in_range = subst IsHeader (sym header_says) (header_is pages it.least it.most);
      spelled = page_is 0 (omega (arith, within_root)) ∙ ap header_bytes (sym header_says);
      as_many = ap (λ (h : Header). h.pages) header_says ∙ sym as_many;
    };
    pages = λ n behind within. right_page n behind (omega (arith, within, as_many));
  }

  pub root_at : page_at (file_of content) ROOT_PAGE ≡ kinds.Bucket (root_bucket rs)
  root_at = stands_at content ROOT_PAGE (kinds.Bucket (root_bucket rs)) root_spelled (omega arith)
      (inside ROOT_PAGE within_root)

  pub free_at : (n : ℕ) → ROOT_PAGE < n → n < pages → page_at (file_of content) n ≡ kinds.Free (free_behind pages n)
  free_at n behind within =
      stands_at content n (kinds.Free (free_behind pages n)) (free_spelled n behind within) (omega (arith, behind))
      (inside n within)
