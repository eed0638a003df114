-- A right structure makes up a sound file.
use Rattle.std.proofs.Common.{ℕ, zero, suc, ◌≡◌, ◌+◌, ◌*◌, ◌<◌, ◌≤◌, ◌^◌, ◌==◌, nat_lt, Bool, true, false, if◌then◌else◌, List, [], ◌∷◌, ◌++◌, length, take, drop, replicate, slice_index_or, Option, Some, None, refl, sym, ap, subst, ◌∙◌, inl, lit≤, lit<, add-zero, zero-add, map, arith}
use Rattle.file_walk.proofs.Names.{BUCKET, Bucket, Contains, DIRECTORY, FIRST_DIRECTORY_PAGE, HasLayout, IsChain, IsPlaced, IsSoundFile, IsSoundOn, Malformed, PAGE_ENTRIES, PageKind, Quiet, RecordKey, TOMBSTONE, append-nil, bucket_at, chain_is, entries_area, entries_at, entries_of, flat_map, flat_map-cons, four_at, get_or-drop, get_or-replicate, get_or-take, get_or_append_left, has_bucket, is_bucket, length-append, length-drop, length-replicate, length-take-le, nat_tests, numbers_of, partition_tiles, payload_of, quiet_exact, range_at, sound_by, times, zero-mul}
use Rattle.bucket_page.specs.declared.page.PageKind.TheVariants as kinds
use Rattle.bucket_page.specs.Reading as reading
use Rattle.file_walk.specs.Files.{page_on, said_by, said_on, entries_in, pages_in, file_in}
use Rattle.file_walk.specs.Files as files
use Rattle.file_walk.specs.Laws.{IsQuietFile}
use Rattle.file_walk.specs.Order.{AreRightIn, IsRightPageIn, is_directory, may_stand_in, after_reading}
use Rattle.file_walk.specs.Structure.{HasPagesIn, IsRightStructureIn}
use Rattle.file_walk.proofs.PagesLemmas.{pages_length}
use Rattle.directory.specs.declared.layout.Layout.{Layout}
use Rattle.directory.specs.Layouts.{IsLayout, least_pages}

-- ---- directory pages have all their entries

numbers_length : (n : ℕ) (bytes : List ℕ) → length (numbers_of n bytes) ≡ n
numbers_length zero bytes = refl
numbers_length (suc n) bytes = ap suc (numbers_length n (drop 4 bytes)) ∙ refl

entries_length : (bytes : List ℕ) → length (entries_of bytes) ≡ PAGE_ENTRIES
unfolding entries_of
entries_length bytes = numbers_length PAGE_ENTRIES bytes

-- a page by its first byte
by_kind : (a b c : Bool) (bucket : Bucket) (es : List ℕ) (link : ℕ) →
    is_directory (if a then kinds.Bucket bucket else if b then kinds.Directory es
    else if c then kinds.Tombstone link else kinds.Free link) ≡ true →
    files.directory_entries (if a then kinds.Bucket bucket else if b then kinds.Directory es
    else if c then kinds.Tombstone link else kinds.Free link) ≡ es
by_kind true b c bucket es link e = absurd cc
by_kind false true c bucket es link e = refl
by_kind false false true bucket es link e = absurd cc
by_kind false false false bucket es link e = absurd cc

said_length : (page : List ℕ) → is_directory (said_by page) ≡ true
    → length (files.directory_entries (said_by page)) ≡ PAGE_ENTRIES
unfolding said_by
said_length page e =
    let bytes : List ℕ = payload_of page in
    ap length (by_kind (reading.kind_at bytes == BUCKET) (reading.kind_at bytes == DIRECTORY)
    (reading.kind_at bytes == TOMBSTONE) (reading.bucket_in bytes) (entries_at bytes) (four_at 4 bytes) e)
    ∙ entries_length (entries_area bytes)

-- a right page below the root is one of the directory
stands : (fault : Option Malformed) (b : Bool) → after_reading fault b ≡ None → b ≡ true
stands None true e = refl
stands None false e = absurd cc
stands (Some reason) b e = absurd cc

-- so many pages of so many entries each
pub pieces_length : (f : List ℕ → List ℕ) (k : ℕ) (pages : List (List ℕ)) →
    ((i : ℕ) → i < length pages → length (f (slice_index_or pages i [])) ≡ k)
    → length (flat_map f pages) ≡ length pages * k
pieces_length f k [] each = sym (zero-mul k)
pieces_length f k (page ∷ pages) each =
    let head : length (f page) ≡ k = each 0 (omega arith) in
    let rest : length (flat_map f pages) ≡ length pages * k =
    pieces_length f k pages (λ i within. each (suc i) (omega arith)) in
    ap length (flat_map-cons f page pages) ∙ length-append (f page) (flat_map f pages) ∙ omega (arith, head, rest)

module _ (l : Layout) (laid : IsLayout l) where
  pub right_directory : (content : List (List ℕ)) (n : ℕ) → n < l.root_page → IsRightPageIn l content n →
      is_directory (said_on content n) ≡ true
  right_directory content n below right =
      let low : nat_lt n l.root_page ≡ true = grind (arith, nat_tests) in
      let stood : may_stand_in l n (said_on content n) ≡ true =
      stands _ (may_stand_in l n (said_on content n)) right.formed in
      rw low at stood

  directory_length : (content : List (List ℕ)) → least_pages l ≤ length content →
      AreRightIn l content FIRST_DIRECTORY_PAGE (length content)
      → length (entries_in l content) ≡ l.directory_pages * PAGE_ENTRIES
  unfolding entries_in
  directory_length content long right =
      pieces_length (λ (page : List ℕ). files.directory_entries (said_by page)) PAGE_ENTRIES
      (take l.directory_pages (drop FIRST_DIRECTORY_PAGE content)) each
      ∙ ap (λ n. n * PAGE_ENTRIES) number
    where
      number : length (take l.directory_pages (drop FIRST_DIRECTORY_PAGE content)) ≡ l.directory_pages
      number = length-take-le l.directory_pages (drop FIRST_DIRECTORY_PAGE content)
          (rw length-drop (omega (arith, long, laid.root)))

      each : (i : ℕ) → i < length (take l.directory_pages (drop FIRST_DIRECTORY_PAGE content)) →
          length (files.directory_entries (said_by
          (slice_index_or (take l.directory_pages (drop FIRST_DIRECTORY_PAGE content)) i [])))
          ≡ PAGE_ENTRIES
      each i within =
          let few : i < l.directory_pages = subst (λ n. i < n) number within in
          let place : slice_index_or (take l.directory_pages (drop FIRST_DIRECTORY_PAGE content)) i []
          ≡ page_on content (FIRST_DIRECTORY_PAGE + i) =
          get_or-take l.directory_pages (drop FIRST_DIRECTORY_PAGE content) i [] few
          ∙ get_or-drop FIRST_DIRECTORY_PAGE content i [] in
          let below : FIRST_DIRECTORY_PAGE + i < l.root_page = omega (arith, few, laid.root) in
          let within : FIRST_DIRECTORY_PAGE + i < length content = omega (arith, few, long, laid.root) in
          ap (λ page. length (files.directory_entries (said_by page))) place
          ∙ said_length (page_on content (FIRST_DIRECTORY_PAGE + i))
          (right_directory content (FIRST_DIRECTORY_PAGE + i) below
          (right (FIRST_DIRECTORY_PAGE + i) (omega arith) within))

  no_bucket_at_0 : (content : List (List ℕ)) → has_bucket (file_in l content) 0 ≡ false
  unfolding pages_in
  no_bucket_at_0 content =
      let d : PageKind = kinds.Directory [] in
      let positive : 0 < l.root_page = omega (arith, laid.root) in
      let some : 0 < length (replicate l.root_page d) = subst (λ n. 0 < n)
      (sym (length-replicate l.root_page d)) positive in
      ap is_bucket (get_or_append_left (replicate l.root_page d) (map said_by (drop l.root_page content))
      (kinds.Free 0) 0
      some
      ∙ get_or-replicate l.root_page 0 d (kinds.Free 0) positive)

  layout_of : (content : List (List ℕ)) → HasPagesIn l content → HasLayout (file_in l content)
  layout_of content p =
      let h = p.header in
      let long : least_pages l ≤ length content = subst (λ n. least_pages l ≤ n) h.as_many h.in_range.least in
      record {
        root = omega (arith, laid.root);
        greatest = omega (arith, laid.depth);
        depth = h.in_range.depth;
        entries = subst (λ n. 2 ^ l.greatest_depth ≤ n) (sym (directory_length content long p.pages))
            (omega (arith, laid.room));
        counts = omega (arith, laid.depth, h.in_range.numbers.local_depths);
        pages = pages_length l laid content (omega (arith, long)) ∙ sym h.as_many;
        header = no_bucket_at_0 content;
      }

  module _ (hash : RecordKey → ℕ) (content : List (List ℕ)) (ns : List ℕ) (r : IsRightStructureIn l content ns)
      (placed : (n : ℕ) → Contains ns n → IsPlaced hash (bucket_at (file_in l content) n)) where
    chained : IsChain (file_in l content) ns
    chained = record {
      linked = r.chain.linked;
      tiled = partition_tiles (range_at (file_in l content)) ns r.chain.partition;
      buckets = r.chain.buckets;
      shallow = r.index.shallow;
    }

    sound_on : IsSoundOn hash (file_in l content) Quiet ns
    sound_on = record {
      layout = layout_of content r.pages;
      chained = chained;
      placed = placed;
      spares = r.spares.0;
      spared = r.spares.1.spared;
      roles = λ n. ap (λ (xs : List ℕ). times n (ns ++ xs)) (append-nil r.spares.0) ∙ r.spares.1.roles n;
      entries = λ i small. inl (r.index.entries i small);
      counts = λ depth small. add-zero _ ∙ r.index.counts depth small ∙ sym (zero-add _);
      phase = tt;
    }

    pub structure_sound : IsQuietFile hash (file_in l content) ns
    structure_sound =
        let sound : IsSoundFile hash (file_in l content) Quiet = sound_by hash (file_in l content) Quiet ns sound_on in
        record {
          chained = chain_is (file_in l content) ns (layout_of content r.pages) chained;
          sound = sound;
          exact = quiet_exact hash (file_in l content) sound;
        }
