-- A new file has a right structure.
use Rattle.std.proofs.Common.{ℕ, zero, suc, ◌≡◌, ◌+◌, ◌-◌, ◌<◌, ◌≤◌, ◌^◌, ◌==◌, nat_lt, Bool, true, false, List, [], ◌∷◌, ◌++◌, length, replicate, slice_set, slice_index_or, if◌then◌else◌, refl, sym, ap, subst, ◌∙◌, inl, inr, lit≤, lit<, arith}
use Rattle.bucket_page.specs.declared.page.PageKind.TheVariants as kinds
use Rattle.hash_file.specs.Chain.{chain}
use Rattle.file_walk.specs.Files.{directory_entries, entries_in, file_of, said_by}
use Rattle.files_at_rest.proofs.Names.{Contains, Covers, GREATEST_DEPTH, HasLayout, Header, IsFile, IsNew, IsPlaced, IsRightChain, IsRightStructure, IsSoundFile, LEAST_PAGES, LOCAL_DEPTHS, PageKind, Pair, Quiet, ROOT_PAGE, RecordKey, Store, append-nil, bucket_of, cases_eq, contains_head, entry_at, eq-eqb, flat_map, flat_map-cons, follower, free_behind, get_or-replicate, get_or_append_left, is_bucket, le-ltb, length-replicate, lt-ltb, ne_eqb, new_sound, page_at, pages_length, range_at, range_of, root_bucket, tiles_partition, times}
use Rattle.files_at_rest.proofs.AloneLemmas.{alone}
use Rattle.files_at_rest.proofs.NewLemmas.{first_says, free_at, has_pages, header_says, root_at}
use Rattle.files_at_rest.proofs.PageLemmas.{directory_length, directory_of, directory_page, page_low}

-- the first of what several lists are made into
first_made : (f : List ℕ → List ℕ) (xs : List (List ℕ)) → 0 < length xs → 0 < length (f (slice_index_or xs 0 [])) →
    slice_index_or (flat_map f xs) 0 0 ≡ slice_index_or (f (slice_index_or xs 0 [])) 0 0
first_made f [] some there = absurd (omega (arith, some))
first_made f (x ∷ xs) some there =
    ap (λ ns. slice_index_or ns 0 0) (flat_map-cons f x xs) ∙ get_or_append_left (f x) (flat_map f xs) 0 0 there

-- one bucket, of local depth 0
zero_at : (n i : ℕ) → ◌≡◌ {A = ℕ} (slice_index_or (replicate n 0) i 0) 0
zero_at zero i = refl
zero_at (suc n) zero = refl
zero_at (suc n) (suc i) = zero_at n i

one_counted : (depth : ℕ) →
    ◌≡◌ {A = ℕ} (slice_index_or (slice_set (replicate LOCAL_DEPTHS 0) 0 1) depth 0) (if 0 == depth then 1 else 0)
one_counted zero = refl
one_counted (suc depth) =
    zero_at (LOCAL_DEPTHS - 1) depth
    ∙ sym (ap (λ (b : Bool). if b then 1 else 0) (ne_eqb 0 (suc depth) (λ same. omega (arith, same))))

module _ (hash : RecordKey → ℕ) (pages : ℕ) (rs : List Pair) (content : List (List ℕ)) (it : IsFile pages rs content)
  where
    long : LEAST_PAGES ≤ length content
    long = let many = it.as_many in let least = it.least in omega (arith, many, least)

    -- entry 0 is the root page
    first_entry : entry_at (file_of content) 0 ≡ ROOT_PAGE
    unfolding entries_in
    first_entry =
        let f : List ℕ → List ℕ = λ page. directory_entries (said_by page) in
        let first = ap f (directory_page content 0 (omega arith))
        ∙ ap directory_entries (first_says pages rs content it) in
        first_made f (directory_of content) (subst (λ n. 0 < n) (sym (directory_length content long)) (lit< tt))
        (subst (λ (es : List ℕ). 0 < length es) (sym first) (lit< tt))
        ∙ ap (λ (es : List ℕ). slice_index_or es 0 0) first

    -- no statement but that of the first entry reads entries
    abbrev s : Store
    s = record (file_of content) { entries = replicate (2 ^ GREATEST_DEPTH) ROOT_PAGE }

    pages_are : length s.pages ≡ pages
    pages_are = let many = it.as_many in pages_length content (omega (arith, long)) ∙ many

    layout : HasLayout s
    layout = record {
      root = lit≤ tt;
      greatest = lit≤ tt;
      depth = subst (λ (h : Header). h.depth ≤ GREATEST_DEPTH) (sym (header_says pages rs content it)) (omega arith);
      entries = subst (λ n. 2 ^ GREATEST_DEPTH ≤ n) (sym (length-replicate (2 ^ GREATEST_DEPTH) ROOT_PAGE))
          (omega arith);
      counts = subst (λ (h : Header). suc GREATEST_DEPTH ≤ length h.counts) (sym (header_says pages rs content it))
          (lit≤ tt);
      pages = pages_are ∙ sym (ap (λ (h : Header). h.pages) (header_says pages rs content it));
      header = ap is_bucket (page_low content 0 (lit< tt));
    }

    follows : (n : ℕ) → n < pages → free_behind pages n ≡ follower s n
    follows n within = elim (cases_eq (n + 1) pages) [
      | inl last ↦ (
          let end : nat_lt (suc n) (length s.pages) ≡ false =
          le-ltb (suc n) (length s.pages) (omega (arith, last, pages_are)) in
          rw (eq-eqb (n + 1) pages last, end) refl)
      | inr more ↦ (
          let on : nat_lt (suc n) (length s.pages) ≡ true =
          lt-ltb (suc n) (length s.pages) (omega (arith, more, within, pages_are)) in
          rw (ne_eqb (n + 1) pages more, on) (omega arith))
    ]

    root_is : page_at s ROOT_PAGE ≡ kinds.Bucket (root_bucket rs)
    root_is = root_at pages rs content it

    new : IsNew hash s
    new = record {
      layout = layout;
      within = let least = it.least in omega (arith, least, pages_are);
      root = root_is
          ∙ ap (λ ps. kinds.Bucket (root_bucket ps)) (sym (ap (λ (p : PageKind). (bucket_of p).records) root_is));
      placed = subst (λ (p : PageKind). IsPlaced hash (bucket_of p)) (sym root_is)
          (record { within = λ i d w. omega arith; ascends = it.bucket.order });
      depth = ap (λ (h : Header). h.depth) (header_says pages rs content it);
      entry = get_or-replicate (2 ^ GREATEST_DEPTH) 0 ROOT_PAGE 0 (lit< tt);
      first_free = ap (λ (h : Header). h.first_free) (header_says pages rs content it)
          ∙ follows ROOT_PAGE (let least = it.least in omega (arith, least));
      free = λ n behind within.
          free_at pages rs content it n behind (omega (arith, within, pages_are))
          ∙ ap (λ k. kinds.Free k) (follows n (omega (arith, within, pages_are)));
      counts = λ depth small.
          ap (λ (h : Header). slice_index_or h.counts depth 0) (header_says pages rs content it) ∙ one_counted depth;
    }

    sound : IsSoundFile hash s Quiet
    sound = (new_sound hash s new).sound

    chain_right : IsRightChain (file_of content) (chain s)
    chain_right = record {
      linked = sound.chained.linked;
      partition = tiles_partition (range_at s) (chain s) sound.chained.tiled;
      buckets = sound.chained.buckets;
    }

    chain_is : chain s ≡ ROOT_PAGE ∷ []
    chain_is =
        alone (file_of content) (chain s) (lit< tt) (ap (λ (p : PageKind). range_of (bucket_of p)) root_is) chain_right

    entry : (i : ℕ) → i < 2 ^ s.header.depth →
        Contains (chain s) (entry_at (file_of content) i) × Covers (range_at s (entry_at (file_of content) i)) i
    entry i small =
        let few = rw new.depth at small in
        let zeroth : 0 ≡ i = omega (arith, few) in
        subst (λ j. Contains (chain s) (entry_at (file_of content) j)
        × Covers (range_at s (entry_at (file_of content) j)) j) zeroth (
          subst (Contains (chain s)) (sym first_entry)
              (subst (λ (ns : List ℕ). Contains ns ROOT_PAGE) (sym chain_is) (contains_head ROOT_PAGE [])),
          subst (λ n. Covers (range_at s n) 0) (sym first_entry)
              (subst (λ (p : PageKind). Covers (range_of (bucket_of p)) 0) (sym root_is) refl),
        )

    structure_on : IsRightStructure content (chain s)
    structure_on = record {
      pages = has_pages pages rs content it;
      chain = chain_right;
      spares = (
        sound.spares,
        record {
          spared = record { linked = sound.spared.linked; free = sound.spared.free };
          roles = λ n.
              sym (ap (λ (xs : List ℕ). times n (chain s ++ xs)) (append-nil sound.spares)) ∙ sound.roles n;
        },
      );
      index = record {
        shallow = sound.chained.shallow;
        entries = entry;
        counts = λ depth small. let counted = sound.counts depth small in omega (arith, counted);
      };
    }

    pub new_structure : IsRightStructure content (ROOT_PAGE ∷ [])
    new_structure = subst (IsRightStructure content) chain_is structure_on
