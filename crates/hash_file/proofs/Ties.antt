-- The words of a reader and the working forms are the same.
use Rattle.std.proofs.Common.{ℕ, zero, suc, ◌≡◌, ◌≢◌, ◌+◌, ◌≤◌, ◌↔◌, List, [], ◌∷◌, ◌++◌, length, arith, refl, inl, inr}
use Rattle.std.specs.List.{Contains, All, AllPairs}
use Rattle.std.proofs.lemmas.Bool.{le-leb, lt-ltb, eq-eqb}
use Rattle.std.proofs.lemmas.List.Elements.{All-contains_itself, Contains-append_cases}
use Rattle.std.proofs.lemmas.List.Kept.{AllPairs-cons}
use Rattle.directory.specs.declared.pseudokey.TheConstants.{POSITIONS}
use Rattle.directory.specs.Positions.{position_of}
use Rattle.directory.specs.Ranges.{start_of, stop_of}
use Rattle.directory.specs.Tiles.{Tiles}
use Rattle.directory.proofs.MemberLaws.{contains_cases, contains_between}
use Rattle.directory.proofs.PartitionLaws.{partition_tiles, tiles_partition}
use Rattle.directory.proofs.RangeLaws.{range_has_start}
use Rattle.directory.proofs.TileLaws.{tiles_within, tiles_cut}
use Rattle.bucket_page.specs.declared.record_key.RecordKey.{RecordKey}
use Rattle.hash_file.specs.Store.{Store, range_at, entry_at}
use Rattle.hash_file.specs.Chain.{chain, IsChain, IsBucketOf, times}
use Rattle.hash_file.specs.Change.{Change, Quiet, owned}
use Rattle.hash_file.specs.Search.{PageLeads}
use Rattle.hash_file.specs.Sound.{IsSoundFile, IsExact, HasEntry, IsFreeList}
use Rattle.hash_file.specs.Words.{IsWellFormed, HasOneRole, IsOneOf, First, Second, Third, StandsAtOrBefore}
use Rattle.hash_file.proofs.Chains.{has_position, bucket_found}
use Rattle.hash_file.proofs.Lists.{times_member, times_stands}
use Rattle.hash_file.proofs.Roles.{uncounted, thrice, few, numbered}

pub chain_well_formed : (s : Store) → IsChain s (chain s) ↔ IsWellFormed s
chain_well_formed s = (
  λ h. record {
    ends = h.linked;
    buckets = h.buckets;
    partition = tiles_partition (range_at s) (chain s) h.tiled;
    shallow = h.shallow;
  },
  λ w. record {
    linked = w.ends;
    tiled = partition_tiles (range_at s) (chain s) w.partition;
    buckets = w.buckets;
    shallow = w.shallow;
  },
)

pub quiet_exact : (hash : RecordKey → ℕ) (s : Store) → IsSoundFile hash s Quiet → IsExact s
quiet_exact hash s h = record {
  entries = λ i within. named i (h.entries i within);
  counts = λ depth within. omega (arith, h.counts depth within);
}
  where
    named : (i : ℕ) → HasEntry s Quiet (chain s) i → IsBucketOf s i (entry_at s i)
    named i (inl b) = b
    named i (inr off) = absurd off

-- ---- leading is standing before

pub leading_is_before : (hash : RecordKey → ℕ) (s : Store) (c : Change) (n k : ℕ) → IsSoundFile hash s c →
    Contains (chain s) n → PageLeads s c n k ↔ StandsAtOrBefore s n k
leading_is_before hash s c n k h on = (
  λ l. let low = rw (h.chained.buckets n on) at l.reaches in before low (contains_between (chain s) n on)
      (bucket_found s (chain s) k h.chained),
  λ (front, back, m, same, c, b). record {
    stands = inl on;
    reaches = rw (h.chained.buckets n on) (low front back m same c b);
  },
)
  where
    before : start_of (range_at s n) ≤ position_of k →
        (front : List ℕ) × (back : List ℕ) × (chain s ≡ front ++ n ∷ back) → (m : ℕ) × IsBucketOf s k m →
        StandsAtOrBefore s n k
    before low (front, back, same) (m, b) =
        let has = has_position s (chain s) k m h.chained b in
        let tiled : Tiles (range_at s) 0 (front ++ n ∷ back) POSITIONS = rw same at h.chained.tiled in
        let cut = tiles_cut (range_at s) front n back 0 POSITIONS tiled in
        let stands : Contains (front ++ n ∷ back) m = rw same at b.0 in
        elim (Contains-append_cases front (n ∷ back) m stands) [
          | inl early ↦ absurd (
              let w = tiles_within (range_at s) front 0 (start_of (range_at s n)) m cut.before early in
              omega (arith, w.to, has.1, low))
          | inr late ↦ (front, back, m, same, late, b)
        ]

    low : (front back : List ℕ) (m : ℕ) → chain s ≡ front ++ n ∷ back → Contains (n ∷ back) m → IsBucketOf s k m →
        start_of (range_at s n) ≤ position_of k
    low front back m same c b =
        let has = has_position s (chain s) k m h.chained b in
        let tiled : Tiles (range_at s) 0 (front ++ n ∷ back) POSITIONS = rw same at h.chained.tiled in
        let cut = tiles_cut (range_at s) front n back 0 POSITIONS tiled in
        elim (contains_cases n m back c) [
          | inl is ↦ (let has' = rw (← is) at has in has'.0)
          | inr d ↦ (
              let w = tiles_within (range_at s) back (stop_of (range_at s n)) POSITIONS m cut.after d in
              omega (arith, w.from, has.0, (range_has_start (range_at s n)).1))
        ]

-- ---- one role a page

-- a page that stands on a list at most once
once : (ns : List ℕ) → ((n : ℕ) → times n ns ≤ 1) → AllPairs (λ (m n : ℕ). m ≢ n) ns
once [] few = λ i j d before within. absurd (omega arith)
once (n ∷ ns) few = AllPairs-cons (λ (m k : ℕ). m ≢ k) n ns apart (once ns (λ k. omega (arith, few k)))
  where
    again : (k : ℕ) × (times n ns ≡ suc k) → ⊥
    again (k, is) =
        let twice = rw (eq-eqb n n refl) at (few n) in
        omega (arith, twice, is)

    apart : All (λ (k : ℕ). n ≢ k) ns
    apart i d within same = again (times_member n ns (rw same (All-contains_itself ns i d within)))

-- a page that stands on them once stands on one
one_of : (n : ℕ) (xs ys zs : List ℕ) (a b c : ℕ) → times n xs ≡ a → times n ys ≡ b → times n zs ≡ c →
    a + (b + c) ≡ 1 → IsOneOf (Contains xs n) (Contains ys n) (Contains zs n)
one_of n xs ys zs (suc a) zero zero is_a is_b is_c sum =
    First (times_stands n xs a is_a) (uncounted n ys is_b) (uncounted n zs is_c)
one_of n xs ys zs zero (suc b) zero is_a is_b is_c sum =
    Second (times_stands n ys b is_b) (uncounted n xs is_a) (uncounted n zs is_c)
one_of n xs ys zs zero zero (suc c) is_a is_b is_c sum =
    Third (times_stands n zs c is_c) (uncounted n xs is_a) (uncounted n ys is_b)
one_of n xs ys zs zero zero zero is_a is_b is_c sum = absurd (omega (arith, sum))
one_of n xs ys zs (suc a) (suc b) c is_a is_b is_c sum = absurd (omega (arith, sum))
one_of n xs ys zs (suc a) zero (suc c) is_a is_b is_c sum = absurd (omega (arith, sum))
one_of n xs ys zs zero (suc b) (suc c) is_a is_b is_c sum = absurd (omega (arith, sum))

pub roles_are_one : (hash : RecordKey → ℕ) (s : Store) (c : Change) → IsSoundFile hash s c →
    (spares : List ℕ) × IsFreeList s spares × HasOneRole s c spares
roles_are_one hash s c h = (
  h.spares,
  h.spared,
  record {
    each = λ n low high.
        let sum = thrice n (chain s) h.spares (owned c) in
        let is = rw (le-leb s.layout.root n low, lt-ltb n (length s.pages) high) at (h.roles n) in
        one_of n (chain s) h.spares (owned c) (times n (chain s)) (times n h.spares) (times n (owned c)) refl refl refl
        (omega (arith, sum, is));
    only = numbered hash s c (chain s) h;
    chain_once = once (chain s) (λ n. omega (arith, few hash s c (chain s) h n));
    spares_once = once h.spares (λ n. omega (arith, few hash s c (chain s) h n));
  },
)
