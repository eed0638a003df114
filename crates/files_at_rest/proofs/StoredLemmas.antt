-- What the pages of a device say, and what their payloads spell in a pool, is one file.
use Rattle.std.proofs.Common.{ℕ, ◌≡◌, ◌<◌, ◌≤◌, ◌+◌, ◌*◌, ◌/◌, ◌%◌, ◌^◌, nat_lt, true, List, [], length, take, slice_index_or, refl, sym, ap, subst, ◌∙◌, inl, inr, arith}
use Rattle.std.specs.List.{flat_map}
use Rattle.std.specs.Prelude.{slice_index}
use Rattle.std.proofs.Math.ListN.{get_or-eq_default, get_or-map}
use Rattle.std.proofs.lemmas.Bool.{cases_lt, lt-ltb}
use Rattle.std.proofs.lemmas.List.{get_or-take, length-map, length-take-le}
use Rattle.std.proofs.lemmas.List.Concat.{get_or-flat_map}
use Rattle.std.proofs.lemmas.Nat.{div-add-mod'}
use Rattle.page_device.specs.Sealed.{payload_of}
use Rattle.buffer_pool.specs.Pool.{payloads_of}
use Rattle.directory.specs.declared.layout.TheConstants.{DIRECTORY_PAGES, FIRST_DIRECTORY_PAGE, GREATEST_DEPTH, LEAST_PAGES, PAGE_ENTRIES, ROOT_PAGE}
use Rattle.directory.specs.Entries.{page_of, slot_of}
use Rattle.directory.specs.Pages.{IsDirectoryPage, entries_at}
use Rattle.directory.specs.Reading.{header_at}
use Rattle.bucket_page.specs.declared.page.PageKind.{PageKind}
use Rattle.bucket_page.specs.declared.page.PageKind.TheVariants as kinds
use Rattle.bucket_page.specs.Reading.{page_in}
use Rattle.bucket_page.specs.Spelling.{Spells}
use Rattle.hash_file.specs.Store.{Store, bucket_of, entry_at, is_bucket, page_at}
use Rattle.record_file.specs.file_pages.Files.{SpellsFile, entry_on, image, kind_on, store_of}
unfoldable use Rattle.record_file.specs.file_pages.Files.{entries_of as listed_entries}
use Rattle.record_file.proofs.of_file_pages.StoreLemmas.{entry_is, header_is, layout_is, length-listed, listed_at, page_is, pages_are}
use Rattle.file_walk.specs.Files.{directory_entries, entries_in, entries_on, file_layout, file_of, header_on, payload_on, said_by, said_on}
use Rattle.file_walk.proofs.Today.{pages_at, pages_length}
use Rattle.file_walk.proofs.SoundLemmas.{pieces_length}
use Rattle.files_at_rest.proofs.PageLemmas.{directory_length, directory_of, directory_page, page_low, page_past, said_is, says}
use Rattle.files_at_rest.proofs.OpenedSameLemmas.{SaysTheSame}

at_most : {m n : ℕ} → m ≡ n → m ≤ n
at_most same = omega (arith, same)

-- an image is the payload of its page
pub image_is : (content : List (List ℕ)) (n : ℕ) → image (payloads_of content) n ≡ payload_on content n
image_is content n = get_or-map payload_of content n []

pub images_are : (content : List (List ℕ)) → length (payloads_of content) ≡ length content
images_are content = length-map content payload_of

-- the header is that of page 0
pub header_same : (content : List (List ℕ)) → header_at (image (payloads_of content) 0) ≡ header_on content
unfolding header_on
header_same content = ap header_at (image_is content 0)

-- the file that the pool has, with the header and the layout of that of the pages
abbrev pub shown : List (List ℕ) → Store
shown content = record (file_of content) {
  entries = (store_of (payloads_of content)).entries;
  pages = (store_of (payloads_of content)).pages;
}

pub store_is : (content : List (List ℕ)) → store_of (payloads_of content) ≡ shown content
store_is content =
    let laid_out : (store_of (payloads_of content)).layout ≡ file_layout = layout_is (payloads_of content) in
    let headed : (store_of (payloads_of content)).header ≡ header_on content =
    header_is (payloads_of content) ∙ header_same content in
    λ i. record {
      layout = laid_out i;
      header = headed i;
      entries = (store_of (payloads_of content)).entries;
      pages = (store_of (payloads_of content)).pages;
    }

module _ (content : List (List ℕ)) (file : SpellsFile (payloads_of content)) where
  pub long : ROOT_PAGE < length content
  long = let more = file.least in let many = images_are content in omega (arith, more, many)

  least : LEAST_PAGES ≤ length content
  least = omega (arith, long)

  -- ---- the directory

  pub spells_directory : (n : ℕ) → FIRST_DIRECTORY_PAGE ≤ n → n ≤ DIRECTORY_PAGES →
      Spells (kinds.Directory (entries_at (payload_on content n))) (payload_on content n)
  spells_directory n behind within =
      let it = subst IsDirectoryPage (image_is content n) (file.directory n behind within) in
      record { in_range = it.in_range; spelled = it.spelled }

  -- the entries of a page of the directory are those that its payload spells
  entries_said : (n : ℕ) → FIRST_DIRECTORY_PAGE ≤ n → n ≤ DIRECTORY_PAGES →
      directory_entries (said_on content n) ≡ entries_at (payload_on content n)
  entries_said n behind within =
      ap directory_entries (says content n (kinds.Directory (entries_at (payload_on content n)))
      (spells_directory n behind within))

  abbrev pieces : List ℕ → List ℕ
  pieces page = directory_entries (said_by page)

  piece_is : (j : ℕ) → j < DIRECTORY_PAGES →
      pieces (slice_index_or (directory_of content) j []) ≡ entries_at (payload_on content (FIRST_DIRECTORY_PAGE + j))
  piece_is j few = ap pieces (directory_page content j few)
      ∙ entries_said (FIRST_DIRECTORY_PAGE + j) (omega arith) (omega (arith, few))

  piece_length : (j : ℕ) → j < DIRECTORY_PAGES → length (pieces (slice_index_or (directory_of content) j []))
      ≡ PAGE_ENTRIES
  piece_length j few = ap length (piece_is j few)
      ∙ (spells_directory (FIRST_DIRECTORY_PAGE + j) (omega arith) (omega (arith, few))).in_range.number

  before_length : (j : ℕ) → j < DIRECTORY_PAGES → length (flat_map pieces (take j (directory_of content)))
      ≡ j * PAGE_ENTRIES
  before_length j few =
      let size : length (take j (directory_of content)) ≡ j =
      length-take-le j (directory_of content) (omega (arith, few, directory_length content least)) in
      pieces_length pieces PAGE_ENTRIES (take j (directory_of content)) (λ k within.
      let earlier : k < j = subst (λ m. k < m) size within in
      ap (λ page. length (pieces page)) (get_or-take j (directory_of content) k [] earlier)
      ∙ piece_length k (omega (arith, earlier, few)))
      ∙ ap (λ m. m * PAGE_ENTRIES) size

  -- so the entry at a place is that in its slot of its page
  entry_said : (i : ℕ) → i < 2 ^ GREATEST_DEPTH →
      slice_index_or (entries_on content) i 0 ≡ slice_index (entries_at (payload_on content (page_of i))) (slot_of i)
  unfolding entries_in
  entry_said i small =
      let j : ℕ = i / PAGE_ENTRIES in
      let slot : ℕ = i % PAGE_ENTRIES in
      let few : j < DIRECTORY_PAGES = omega (arith, small) in
      let there : j < length (directory_of content) =
      subst (λ k. j < k) (sym (directory_length content least)) few in
      let before : length (flat_map pieces (take j (directory_of content))) ≡ j * PAGE_ENTRIES = before_length j few in
      let place : length (flat_map pieces (take j (directory_of content))) + slot ≡ i =
      omega (arith, before, div-add-mod' i PAGE_ENTRIES) in
      let inside : slot < length (pieces (slice_index_or (directory_of content) j [])) =
      subst (λ k. slot < k) (sym (piece_length j few)) (omega arith) in
      sym (ap (λ k. slice_index_or (flat_map pieces (directory_of content)) k 0) place)
      ∙ get_or-flat_map pieces (directory_of content) j slot [] 0 there inside
      ∙ ap (λ (es : List ℕ). slice_index_or es slot 0) (piece_is j few)

  entry_same : (i : ℕ) → i < 2 ^ GREATEST_DEPTH →
      entry_at (store_of (payloads_of content)) i ≡ entry_at (file_of content) i
  entry_same i small =
      entry_is (payloads_of content) i small
      ∙ ap (λ page. slice_index (entries_at page) (slot_of i)) (image_is content (page_of i)) ∙ sym (entry_said i small)

  -- ---- pages

  page_same : (n : ℕ) → ROOT_PAGE ≤ n → page_at (store_of (payloads_of content)) n ≡ page_at (file_of content) n
  page_same n behind = elim (cases_lt n (length content)) [
    | inl within ↦
        page_is (payloads_of content) n behind (subst (λ k. n < k) (sym (images_are content)) within)
        ∙ ap page_in (image_is content n) ∙ sym (said_is content n)
        ∙ sym (pages_at content n (kinds.Free 0) behind within)
    | inr past ↦
        get_or-eq_default (store_of (payloads_of content)).pages (kinds.Free 0)
        (subst (λ k. k ≤ n) (sym (pages_are (payloads_of content) ∙ images_are content)) past)
        ∙ sym (page_past content n (omega (arith, long)) past)
  ]

  -- those below the root are of the directory, and of the file they are one that has no bucket
  page_low_too : (n : ℕ) → n < ROOT_PAGE → page_at (store_of (payloads_of content)) n ≡ kinds.Free 0
  unfolding store_of
  page_low_too n low =
      let images : List (List ℕ) = payloads_of content in
      let below : nat_lt n ROOT_PAGE ≡ true = lt-ltb n ROOT_PAGE low in
      let is : kind_on images n ≡ kinds.Free 0 = rw below refl in
      listed_at (length images) n (kind_on images) (kinds.Free 0) (omega (arith, low, file.least)) ∙ is

  told_same : {X : Type 0} (f : PageKind → X) → f (kinds.Free 0) ≡ f (kinds.Directory []) → (n : ℕ) →
      f (page_at (store_of (payloads_of content)) n) ≡ f (page_at (file_of content) n)
  told_same f same n = elim (cases_lt n ROOT_PAGE) [
    | inl low ↦ ap f (page_low_too n low) ∙ same ∙ sym (ap f (page_low content n low))
    | inr behind ↦ ap f (page_same n behind)
  ]

  pub room : 2 ^ GREATEST_DEPTH ≤ length (store_of (payloads_of content)).entries
  unfolding store_of listed_entries
  room = at_most (sym (length-listed (2 ^ GREATEST_DEPTH) (entry_on (payloads_of content))))

  pub says_same : SaysTheSame (file_of content) (shown content).entries (shown content).pages
  says_same = record {
    entries = entry_same;
    many = pages_are (payloads_of content) ∙ images_are content ∙ sym (pages_length content (omega (arith, long)));
    buckets = told_same bucket_of refl;
    live = told_same is_bucket refl;
    pages = page_same;
  }
