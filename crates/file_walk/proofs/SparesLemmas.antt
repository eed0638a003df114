-- The list of free pages is walked: marks, what each page adds, and what is wrong where the walk stops.
use Rattle.std.proofs.Common.{ℕ, ◌≡◌, ◌≢◌, ◌+◌, ◌<◌, ◌≤◌, ◌==◌, nat_lt, Bool, true, false, if◌then◌else◌, List, [], ◌∷◌, ◌++◌, length, take, drop, slice_index_or, slice_set, refl, sym, ap, subst, ◌∙◌, inl, inr, zero, suc, add-zero, lit≤, get_or-set_same, get_or-set_other, arith}
use Rattle.std.specs.List.{Contains, sum_by}
use Rattle.std.proofs.lemmas.Bool.Decides.{nat_tests}
use Rattle.std.proofs.lemmas.List.{append_assoc, append-nil, take-append-drop, take_more, get_or_past}
use Rattle.std.proofs.lemmas.List.Elements.{Contains-append_cases, All-contains_itself}
use Rattle.std.proofs.lemmas.List.Sums.{sum_by-set}
use Rattle.std.proofs.Math.ListN.{length-set}
use Rattle.std.proofs.Math.Seq.{drop-cons}
use Rattle.directory.specs.Links.{Links}
use Rattle.directory.proofs.MemberLaws.{contains_cases, contains_none, contains_head}
use Rattle.directory.proofs.PartitionLaws.{partition_tiles}
use Rattle.directory.specs.declared.pseudokey.TheConstants.{POSITIONS}
use Rattle.directory.specs.Ranges.{stop_of}
use Rattle.directory.specs.Tiles.{Tiles}
use Rattle.directory.proofs.PositionLaws.{width_positive}
use Rattle.directory.proofs.TileLaws.{tiles_within}
use Rattle.directory.proofs.WalkLaws.{links_join}
use Rattle.bucket_page.specs.declared.page.PageKind.TheVariants as kinds
use Rattle.hash_file.specs.Store.{Store, is_bucket, has_bucket, range_at, next_at, IsFreePage}
use Rattle.hash_file.specs.Chain.{times}
use Rattle.hash_file.specs.Sound.{is_numbered}
use Rattle.hash_file.proofs.Lists.{times_one, times_other, times_append, times_member, times_stands}
use Rattle.file_walk.specs.Outlines.{IsFreeAt, IsOutlined}
use Rattle.file_walk.specs.Walks.{IsRightChain, AreMarked, HasRoomFor, AreSparesSoFar, HasRightSpares, IsNotFree}

-- ---- marks

-- a set mark changes one place
mark_at : (marks : List Bool) (n m : ℕ) (b : Bool) → (m == n) ≡ b → n < length marks →
    slice_index_or (slice_set marks n true) m false ≡ (if b then true else slice_index_or marks m false)
mark_at marks n m true e within =
    let same : m ≡ n = grind (arith, nat_tests) in
    ap (λ k. slice_index_or (slice_set marks n true) k false) same ∙ get_or-set_same marks n true false within
mark_at marks n m false e within =
    let other : m ≢ n = grind (arith, nat_tests) in get_or-set_other marks n m true false other

times_last : (n m : ℕ) (b : Bool) → (m == n) ≡ b → times m (n ∷ []) ≡ (if b then 1 else 0)
times_last n m true e = let same : n ≡ m = grind (arith, nat_tests) in ap (λ k. times m (k ∷ [])) same ∙ times_one m
times_last n m false e = let other : n ≢ m = grind (arith, nat_tests) in times_other n m other

module _ (pages : ℕ) (ns : List ℕ) (marks : List Bool) (a : AreMarked pages ns marks) where
  -- a page that is not marked stands nowhere
  pub marked_not : (n : ℕ) → slice_index_or marks n false ≡ false → times n ns ≡ 0
  marked_not n e = a.marked n ∙ ap (λ (b : Bool). if b then 1 else 0) e

  pub marked_is : (n : ℕ) → slice_index_or marks n false ≡ true → times n ns ≡ 1
  marked_is n e = a.marked n ∙ ap (λ (b : Bool). if b then 1 else 0) e

  pub marked_once : (n : ℕ) → times n ns ≤ 1
  marked_once n = subst (λ k. k ≤ 1) (sym (a.marked n)) (one_or_none (slice_index_or marks n false))
    where
      one_or_none : (b : Bool) → (if b then 1 else 0) ≤ 1
      one_or_none true = lit≤ tt
      one_or_none false = lit≤ tt

  -- one page more is marked, which was not
  pub marked_more : (n : ℕ) → n < pages → slice_index_or marks n false ≡ false →
      AreMarked pages (ns ++ n ∷ []) (slice_set marks n true)
  marked_more n within fresh = record {
    number = length-set marks n true ∙ a.number;
    marked = λ m. times_append m ns (n ∷ []) ∙ by_place m (m == n) refl;
  }
    where
      long : n < length marks
      long = subst (λ k. n < k) (sym a.number) within

      by_place : (m : ℕ) (b : Bool) → (m == n) ≡ b →
          times m ns + times m (n ∷ []) ≡ (if slice_index_or (slice_set marks n true) m false then 1 else 0)
      by_place m true e =
          let same : m ≡ n = grind (arith, nat_tests) in
          ap (λ k. times m ns + k) (times_last n m true e)
          ∙ ap (λ k. k + 1) (ap (λ k. times k ns) same ∙ marked_not n fresh)
          ∙ sym (ap (λ (b : Bool). if b then 1 else 0) (mark_at marks n m true e long))
      by_place m false e =
          ap (λ k. times m ns + k) (times_last n m false e) ∙ add-zero (times m ns) ∙ a.marked m
          ∙ sym (ap (λ (b : Bool). if b then 1 else 0) (mark_at marks n m false e long))

-- how many pages are not marked
abbrev pub unmarked : List Bool → ℕ
unmarked marks = sum_by (λ (b : Bool). if b then 0 else 1) marks

pub unmarked_falls : (marks : List Bool) (n : ℕ) → n < length marks → slice_index_or marks n false ≡ false →
    unmarked (slice_set marks n true) < unmarked marks
unmarked_falls marks n within e =
    let weight : Bool → ℕ = λ b. if b then 0 else 1 in
    let changed = sum_by-set weight marks n true false within in
    let was : weight (slice_index_or marks n false) ≡ 1 = ap weight e in
    let total : unmarked (slice_set marks n true) + weight (slice_index_or marks n false) ≡ unmarked marks + 0 =
    changed in
    omega arith

-- the free list so far is right, and marked
pub record AreWalked (s : Store) (ns : List ℕ) (marks : List Bool) (page : ℕ) : Type 0 where
  pub spares : List ℕ
  pub right : AreSparesSoFar s ns spares page
  pub marked : AreMarked (length s.pages) (ns ++ spares) marks

-- ---- the chain

-- a page of the file has a bucket, and a page that has one is a page of the file
within_file : (s : Store) (n : ℕ) (b : Bool) → nat_lt n (length s.pages) ≡ b → has_bucket s n ≡ true
    → n < length s.pages
within_file s n true e live = grind (arith, nat_tests)
within_file s n false e live =
    let past : length s.pages ≤ n = grind (arith, nat_tests) in
    let none : has_bucket s n ≡ false = ap is_bucket (get_or_past s.pages n (kinds.Free 0) past) in
    absurd cc

module _ (s : Store) where
  once_in : (xs : List ℕ) (a b n : ℕ) → Tiles (range_at s) a xs b → times n xs ≤ 1
  once_in [] a b n t = lit≤ tt
  once_in (x ∷ xs) a b n t = by_head (once_in xs (stop_of (range_at s x)) b n t.1) (x == n) refl
    where
      behind : Contains xs x → ⊥
      behind on =
          let w = tiles_within (range_at s) xs (stop_of (range_at s x)) b x t.1 on in
          let from = w.from in let wide = width_positive (range_at s x).depth in omega arith

      none : (k : ℕ) → times x xs ≡ k → times x xs ≡ 0
      none zero e = e
      none (suc k) e = absurd (behind (times_stands x xs k e))

      by_head : times n xs ≤ 1 → (h : Bool) → (x == n) ≡ h → (if x == n then 1 else 0) + times n xs ≤ 1
      by_head rest true e =
          let same : x ≡ n = grind (arith, nat_tests) in
          let last : times n xs ≡ 0 = ap (λ m. times m xs) (sym same) ∙ none (times x xs) refl in
          rw (e, last) (lit≤ tt)
      by_head rest false e = rw e (omega arith)

  pub chain_room : (ns : List ℕ) → IsRightChain s ns → HasRoomFor (length s.pages) ns
  chain_room ns c = record {
    within = λ n on. within_file s n (nat_lt n (length s.pages)) refl (c.buckets n on);
    once = λ n. once_in ns 0 POSITIONS n (partition_tiles (range_at s) ns c.partition);
  }

-- ---- the pages of the chain are marked

module _ (pages : ℕ) (ns : List ℕ) (marks : List Bool) (room : HasRoomFor pages ns) (k : ℕ) (within : k < length ns)
    (a : AreMarked pages (take k ns) marks) where
  pub place_within : slice_index_or ns k 0 < length marks
  place_within =
      subst (λ m. slice_index_or ns k 0 < m) (sym a.number) (room.within _ (All-contains_itself ns k 0 within))

  pub place_marked : AreMarked pages (take (k + 1) ns) (slice_set marks (slice_index_or ns k 0) true)
  place_marked =
      subst (λ ms. AreMarked pages ms (slice_set marks (slice_index_or ns k 0) true)) (sym (take_more ns k 0 within))
      (marked_more pages (take k ns) marks a (slice_index_or ns k 0)
      (room.within _ (All-contains_itself ns k 0 within))
      (not_yet (slice_index_or marks (slice_index_or ns k 0) false) refl))
    where
      here : ℕ
      here = slice_index_or ns k 0

      parts : times (slice_index_or ns k 0) ns
          ≡ times (slice_index_or ns k 0) (take k ns)
          + times (slice_index_or ns k 0) (slice_index_or ns k 0 ∷ drop (suc k) ns)
      parts =
          ap (times (slice_index_or ns k 0)) (sym (take-append-drop k ns)
          ∙ ap (λ xs. take k ns ++ xs) (drop-cons ns k 0 within))
          ∙ times_append (slice_index_or ns k 0) (take k ns) (slice_index_or ns k 0 ∷ drop (suc k) ns)

      not_yet : (b : Bool) → slice_index_or marks (slice_index_or ns k 0) false ≡ b →
          slice_index_or marks (slice_index_or ns k 0) false ≡ false
      not_yet false e = e
      not_yet true e =
          let stood : times (slice_index_or ns k 0) (take k ns) ≡ 1 = marked_is pages (take k ns) marks a _ e in
          let stands = times_member (slice_index_or ns k 0) (slice_index_or ns k 0 ∷ drop (suc k) ns)
          (contains_head (slice_index_or ns k 0) (drop (suc k) ns)) in
          let again = stands.1 in
          let few = room.once (slice_index_or ns k 0) in
          let whole = parts in
          absurd (omega arith)

-- ---- the free list

module _ (s : Store) (ns : List ℕ) (marks : List Bool) where
  pub walk_begun : AreMarked (length s.pages) ns marks → AreWalked s ns marks s.header.first_free
  walk_begun a = record {
    spares = [];
    right = record {
      linked = refl;
      free = λ n on. absurd (contains_none n on);
      once = λ n. subst (λ xs. times n xs ≤ 1) (sym (append-nil ns)) (marked_once (length s.pages) ns marks a n);
    };
    marked = subst (λ xs. AreMarked (length s.pages) xs marks) (sym (append-nil ns)) a;
  }

  pub walk_goes_on : (page next : ℕ) → AreWalked s ns marks page → page ≢ 0 → IsFreeAt s page next →
      slice_index_or marks page false ≡ false → AreWalked s ns (slice_set marks page true) next
  walk_goes_on page next w begun f fresh =
      let grown = subst (λ xs. AreMarked (length s.pages) xs (slice_set marks page true))
      (append_assoc ns w.spares (page ∷ []))
      (marked_more (length s.pages) (ns ++ w.spares) marks w.marked page f.within fresh) in
      record {
        spares = w.spares ++ page ∷ [];
        right = record {
          linked = links_join (next_at s) w.spares (page ∷ []) s.header.first_free page next w.right.linked
              (refl, sym f.next_is);
          free = λ n on. elim (Contains-append_cases w.spares (page ∷ []) n on) [
            | inl was ↦ w.right.free n was
            | inr now ↦ elim (contains_cases page n [] now) [
              | inl same ↦ subst (λ m. IsFreePage s m × (m < length s.pages) × (m ≢ 0)) same (f.free, f.within, begun)
              | inr none ↦ absurd (contains_none n none)
            ]
          ];
          once = marked_once (length s.pages) (ns ++ (w.spares ++ page ∷ [])) (slice_set marks page true) grown;
        };
        marked = grown;
      }

  pub walk_not_free : (page : ℕ) → AreWalked s ns marks page → page ≢ 0 →
      (IsFreePage s page × (page < length s.pages) → ⊥) → IsNotFree s ns page
  walk_not_free page w begun other = record { so_far = w.spares; right = w.right; goes_on = begun; wrong = inl other }

  pub walk_met : (page : ℕ) → AreWalked s ns marks page → page ≢ 0 → slice_index_or marks page false ≡ true →
      IsNotFree s ns page
  walk_met page w begun met = record {
    so_far = w.spares;
    right = w.right;
    goes_on = begun;
    wrong = inr (let one = marked_is (length s.pages) (ns ++ w.spares) marks w.marked page met in omega arith);
  }

  -- all pages from the root on have a role
  pub walk_whole : (page : ℕ) → IsOutlined s → IsRightChain s ns → AreWalked s ns marks page → page ≡ 0 →
      ((n : ℕ) → s.layout.root ≤ n → n < length s.pages → slice_index_or marks n false ≡ true) → HasRightSpares s ns
  walk_whole page o c w ended all = (
    w.spares,
    record {
      spared = record {
        linked = subst (Links (next_at s) s.header.first_free w.spares) ended w.right.linked;
        free = λ n on. (w.right.free n on).0;
      };
      roles = λ n. by_number n (is_numbered s n) refl;
    },
  )
    where
      -- a page that stands on either has a number
      numbered : (n : ℕ) → Contains (ns ++ w.spares) n → (s.layout.root ≤ n) × (n < length s.pages)
      numbered n on = elim (Contains-append_cases ns w.spares n on) [
        | inl live ↦ (
          above n (nat_lt n s.layout.root) refl (λ low. let bucket = c.buckets n live in
              let none : has_bucket s n ≡ false = ap is_bucket (o.low n low) in absurd cc),
          (chain_room s ns c).within n live,
        )
        | inr spare ↦ (
          above n (nat_lt n s.layout.root) refl (λ low.
              let free = (w.right.free n spare).0 in let page = o.low n low in absurd cc),
          (w.right.free n spare).1,
        )
      ]
        where
          above : (n : ℕ) (b : Bool) → nat_lt n s.layout.root ≡ b → (n < s.layout.root → ⊥) → s.layout.root ≤ n
          above n true e no_low = absurd (no_low (grind (arith, nat_tests)))
          above n false e no_low = grind (arith, nat_tests)

      by_number : (n : ℕ) (b : Bool) → is_numbered s n ≡ b → times n (ns ++ w.spares) ≡ (if b then 1 else 0)
      by_number n true e =
          marked_is (length s.pages) (ns ++ w.spares) marks w.marked n
          (all n (grind (arith, nat_tests)) (grind (arith, nat_tests)))
      by_number n false e = none (times n (ns ++ w.spares)) refl
        where
          none : (k : ℕ) → times n (ns ++ w.spares) ≡ k → times n (ns ++ w.spares) ≡ 0
          none zero is = is
          none (suc k) is =
              let on = numbered n (times_stands n (ns ++ w.spares) k is) in
              let low = on.0 in let high = on.1 in
              let number : is_numbered s n ≡ true = grind (arith, nat_tests) in
              absurd cc

-- ---- marks that are read

default_is_one : (marks : List Bool) (n : ℕ) (d e : Bool) → n < length marks →
    slice_index_or marks n d ≡ slice_index_or marks n e
default_is_one [] n d e within = absurd (omega arith)
default_is_one (b ∷ marks) zero d e within = refl
default_is_one (b ∷ marks) (suc n) d e within = default_is_one marks n d e (omega arith)

-- the mark that was read
pub mark_read : (marks : List Bool) (n : ℕ) (x b : Bool) → n < length marks → x ≡ slice_index_or marks n x → x ≡ b →
    slice_index_or marks n false ≡ b
mark_read marks n x b within is e = default_is_one marks n false x within ∙ sym is ∙ e

-- all marks so far are set, and this one
pub marks_more : (marks : List Bool) (root n : ℕ) →
    ((m : ℕ) → root ≤ m → m < n → slice_index_or marks m false ≡ true) → slice_index_or marks n false ≡ true →
    (m : ℕ) → root ≤ m → m < n + 1 → slice_index_or marks m false ≡ true
marks_more marks root n before here m behind within = by_place (nat_lt m n) refl
  where
    by_place : (b : Bool) → nat_lt m n ≡ b → slice_index_or marks m false ≡ true
    by_place true e = before m behind (grind (arith, nat_tests))
    by_place false e =
        let same : m ≡ n = grind (arith, nat_tests) in ap (λ k. slice_index_or marks k false) same ∙ here
