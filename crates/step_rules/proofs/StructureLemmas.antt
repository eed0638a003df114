-- Facts of the structure are told by all of the file but its records.
use Rattle.std.proofs.Common.{◌≡◌, ℕ, zero, suc, ◌+◌, ◌-◌, ◌^◌, List, [], ◌∷◌, Bool, if◌then◌else◌, refl, sym, ap, ◌∙◌, subst, inl, inr}
use Rattle.std.specs.List.{Contains}
use Rattle.directory.specs.declared.range.Range.{Range}
use Rattle.directory.specs.Positions.{position_of}
use Rattle.directory.specs.Ranges.{start_of, Covers}
use Rattle.directory.specs.Tiles.{begun}
use Rattle.directory.specs.Links.{met_from}
use Rattle.directory.proofs.CountLaws.{begun_same}
use Rattle.bucket_page.specs.declared.page.PageKind.{PageKind}
use Rattle.bucket_page.specs.declared.page.PageKind.TheVariants as kinds
use Rattle.hash_file.specs.Store.{Store, is_bucket, bucket_of, range_of, page_at, entry_at, has_bucket, range_at, next_at}
use Rattle.hash_file.specs.Chain.{chain}
use Rattle.hash_file.specs.Change.{Change, aside}
use Rattle.hash_file.specs.Search.{reach, PageLeads, distance_on, distance}
use Rattle.step_rules.specs.World.{World}
use Rattle.step_rules.specs.Structure.{bare, KeepsStructure, Structural, InPhase, HasDepth, HasFirstFree, HasCount, Names, Copied, Retargeted, Shaped, OnChain, BucketOf, Near, IsSo}

-- a page says of the structure what it says without its records
is_bucket-bare : (p : PageKind) → is_bucket (bare p) ≡ is_bucket p
is_bucket-bare (kinds.Bucket b) = refl
is_bucket-bare (kinds.Directory es) = refl
is_bucket-bare (kinds.Tombstone link) = refl
is_bucket-bare (kinds.Free link) = refl

range_of-bare : (p : PageKind) → range_of (bucket_of (bare p)) ≡ range_of (bucket_of p)
range_of-bare (kinds.Bucket b) = refl
range_of-bare (kinds.Directory es) = refl
range_of-bare (kinds.Tombstone link) = refl
range_of-bare (kinds.Free link) = refl

next-bare : (p : PageKind) → (bucket_of (bare p)).next ≡ (bucket_of p).next
next-bare (kinds.Bucket b) = refl
next-bare (kinds.Directory es) = refl
next-bare (kinds.Tombstone link) = refl
next-bare (kinds.Free link) = refl

-- what is met by next links alone
met_from-same : (live live' : ℕ → Bool) (next next' : ℕ → ℕ) (fuel n : ℕ) → ((m : ℕ) → live' m ≡ live m) →
    ((m : ℕ) → next' m ≡ next m) → met_from live' next' fuel n ≡ met_from live next fuel n
met_from-same live live' next next' zero n lives nexts = refl
met_from-same live live' next next' (suc fuel) n lives nexts =
    ap (λ (b : Bool). if b then n ∷ met_from live' next' fuel (next' n) else []) (lives n)
    ∙ ap (λ (rest : List ℕ). if live n then n ∷ rest else [])
    (ap (met_from live' next' fuel) (nexts n) ∙ met_from-same live live' next next' fuel (next n) lives nexts)

-- pages that differ in records alone have one chain
pub chain-same : (s : Store) (pages : List PageKind) →
    ((n : ℕ) → bare (page_at (record s { pages = pages }) n) ≡ bare (page_at s n)) →
    chain (record s { pages = pages }) ≡ chain s
unfolding chain
chain-same s pages same =
    let t : Store = record s { pages = pages } in
    met_from-same (has_bucket s) (has_bucket t) (next_at s) (next_at t) (2 ^ s.layout.greatest) s.layout.root
    (λ n. sym (is_bucket-bare (page_at t n)) ∙ ap is_bucket (same n) ∙ is_bucket-bare (page_at s n))
    (λ n. sym (next-bare (page_at t n)) ∙ ap (λ (p : PageKind). (bucket_of p).next) (same n) ∙ next-bare (page_at s n))

abbrev distance_by : ℕ → ℕ → Bool → ℕ
distance_by there here b = there - here + (if b then 0 else 1)

module _ (old new : World) (keeps : KeepsStructure old new) where
  pub has_bucket-kept : (n : ℕ) → has_bucket new.store n ≡ has_bucket old.store n
  has_bucket-kept n =
      sym (is_bucket-bare (page_at new.store n)) ∙ ap is_bucket (keeps.pages n) ∙ is_bucket-bare (page_at old.store n)

  pub range_at-kept : (n : ℕ) → range_at new.store n ≡ range_at old.store n
  range_at-kept n =
      sym (range_of-bare (page_at new.store n)) ∙ ap (λ (p : PageKind). range_of (bucket_of p)) (keeps.pages n)
      ∙ range_of-bare (page_at old.store n)

  pub next_at-kept : (n : ℕ) → next_at new.store n ≡ next_at old.store n
  next_at-kept n =
      sym (next-bare (page_at new.store n)) ∙ ap (λ (p : PageKind). (bucket_of p).next) (keeps.pages n)
      ∙ next-bare (page_at old.store n)

  reach-kept : (n : ℕ) → reach new.store n ≡ reach old.store n
  reach-kept n =
      let further : Range = range_at new.store (next_at new.store n) in
      ap (λ (b : Bool). if b then start_of (range_at new.store n) else start_of further) (has_bucket-kept n)
      ∙ ap (λ (r : Range). if has_bucket old.store n then start_of r else start_of further) (range_at-kept n)
      ∙ ap (λ (r : Range). if has_bucket old.store n then start_of (range_at old.store n) else start_of r)
      (ap (range_at new.store) (next_at-kept n) ∙ range_at-kept (next_at old.store n))

  begun-kept : (ns : List ℕ) (p : ℕ) → begun (range_at new.store) ns p ≡ begun (range_at old.store) ns p
  begun-kept ns p = begun_same (range_at old.store) (range_at new.store) ns p (λ n on. ap start_of (range_at-kept n))

  pub PageLeads-kept : (n k : ℕ) → PageLeads old.store old.change n k → PageLeads new.store new.change n k
  PageLeads-kept n k leads = record {
    stands = elim leads.stands [
      | inl on ↦ inl (subst (λ (ns : List ℕ). Contains ns n) (sym keeps.chain) on)
      | inr off ↦ inr (subst (λ (c : Change). Contains (aside c) n) (sym keeps.change) off)
    ];
    reaches = rw (reach-kept n) leads.reaches;
  }

  distance-kept : (n k : ℕ) → distance new.store n k ≡ distance old.store n k
  distance-kept n k =
      let last : ℕ = if has_bucket new.store n then 0 else 1 in
      let there : ℕ = begun (range_at old.store) (chain old.store) (position_of k) in
      ap (λ (ns : List ℕ). distance_on new.store ns n k) keeps.chain
      ∙ ap (λ (m : ℕ). m - begun (range_at new.store) (chain old.store) (reach new.store n) + last)
      (begun-kept (chain old.store) (position_of k))
      ∙ ap (λ (p : ℕ). there - begun (range_at new.store) (chain old.store) p + last) (reach-kept n)
      ∙ ap (λ (m : ℕ). there - m + last) (begun-kept (chain old.store) (reach old.store n))
      ∙ ap (λ (b : Bool). distance_by there (begun (range_at old.store) (chain old.store) (reach old.store n)) b)
      (has_bucket-kept n)

  depth-kept : new.store.header.depth ≡ old.store.header.depth
  depth-kept = ap (λ h. h.depth) keeps.header

  entry-kept : (i : ℕ) → entry_at new.store i ≡ entry_at old.store i
  entry-kept i = rw keeps.entries refl

  pub IsSo-kept : (fact : Structural) → IsSo old fact → IsSo new fact
  IsSo-kept (InPhase change) so = keeps.change ∙ so
  IsSo-kept (HasDepth depth) so = depth-kept ∙ so
  IsSo-kept (HasFirstFree page) so = ap (λ h. h.first_free) keeps.header ∙ so
  IsSo-kept (HasCount depth count) so = rw keeps.header so
  IsSo-kept (Names entry page) so = entry-kept entry ∙ so
  IsSo-kept (Copied page) so = rw (keeps.header, keeps.entries) so
  IsSo-kept (Retargeted range n page) so = rw (keeps.header, keeps.entries) so
  IsSo-kept (Shaped page range next) so = record {
    is_bucket = has_bucket-kept page ∙ so.is_bucket;
    range_is = range_at-kept page ∙ so.range_is;
    next_is = next_at-kept page ∙ so.next_is;
  }
  IsSo-kept (OnChain page) so = subst (λ (ns : List ℕ). Contains ns page) (sym keeps.chain) so
  IsSo-kept (BucketOf pseudokey page) so = (
    subst (λ (ns : List ℕ). Contains ns page) (sym keeps.chain) so.0,
    subst (λ (r : Range). Covers r pseudokey) (sym (range_at-kept page)) so.1,
  )
  IsSo-kept (Near page pseudokey) so = record {
    leads = PageLeads-kept page pseudokey so.leads;
    near = rw (distance-kept page pseudokey) so.near;
  }
