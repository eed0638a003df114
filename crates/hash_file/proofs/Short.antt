-- The chain is no longer than there are pages for it, and no way is longer than the chain.
use Rattle.std.proofs.Common.{ℕ, zero, suc, ◌≡◌, ◌+◌, ◌-◌, ◌<◌, ◌≤◌, ◌==◌, cond, if◌then◌else◌, Bool, true, false, List, [], ◌∷◌, length, arith, inl, inr}
use Rattle.std.specs.List.{Contains}
use Rattle.std.proofs.lemmas.Bool.{cases_eq, eq-eqb, le-leb}
use Rattle.directory.specs.declared.pseudokey.TheConstants.{POSITIONS}
use Rattle.directory.specs.declared.range.Range.{Range}
use Rattle.directory.specs.Positions.{position_of}
use Rattle.directory.specs.Tiles.{Tiles, begun}
use Rattle.directory.proofs.CountLaws.{begun_one}
use Rattle.directory.proofs.MemberLaws.{contains_head, contains_tail}
use Rattle.bucket_page.specs.declared.record_key.RecordKey.{RecordKey}
use Rattle.hash_file.specs.Store.{Store, has_bucket, range_at}
use Rattle.hash_file.specs.Chain.{chain, times}
use Rattle.hash_file.specs.Change.{Change}
use Rattle.hash_file.specs.Search.{reach, distance}
use Rattle.hash_file.specs.Sound.{IsSoundFile}
use Rattle.hash_file.specs.Words.{HasShortWays}
use Rattle.hash_file.proofs.Roles.{few, numbered}

-- how often numbers from a root on stand on a list, so many of them
abbrev times_in : ℕ → ℕ → List ℕ → ℕ
times_in root zero ns = 0
times_in root (suc m) ns = times_in root m ns + times (root + m) ns

few_in : (root m : ℕ) (ns : List ℕ) → ((n : ℕ) → times n ns ≤ 1) → times_in root m ns ≤ m
few_in root zero ns once = omega arith
few_in root (suc m) ns once = omega (arith, few_in root m ns once, once (root + m))

no_less : (root m n : ℕ) (ns : List ℕ) → times_in root m ns ≤ times_in root m (n ∷ ns)
no_less root zero n ns = omega arith
no_less root (suc m) n ns =
    let first : ℕ = cond (n == root + m) 1 0 in
    let more : times (root + m) ns ≤ first + times (root + m) ns = omega arith in
    omega (arith, no_less root m n ns, more)

one_more : (root m n : ℕ) (ns : List ℕ) → root ≤ n → n < root + m → suc (times_in root m ns) ≤ times_in root m (n ∷ ns)
one_more root zero n ns low high = absurd (omega (arith, low, high))
one_more root (suc m) n ns low high = elim (cases_eq n (root + m)) [
  | inl here ↦
      let counted : times (root + m) (n ∷ ns) ≡ suc (times (root + m) ns) =
      rw (eq-eqb n (root + m) here) (omega arith) in
      omega (arith, no_less root m n ns, counted)
  | inr other ↦
      let first : ℕ = cond (n == root + m) 1 0 in
      let more : times (root + m) ns ≤ first + times (root + m) ns = omega arith in
      omega (arith, one_more root m n ns low (omega (arith, high, other)), more)
]

long_in : (root m : ℕ) (ns : List ℕ) → ((n : ℕ) → Contains ns n → (root ≤ n) × (n < root + m)) →
    length ns ≤ times_in root m ns
long_in root m [] within = omega arith
long_in root m (n ∷ ns) within =
    let here = within n (contains_head n ns) in
    omega (
      arith,
      one_more root m n ns here.0 here.1,
      long_in root m ns (λ k c. within k (contains_tail n k ns c)),
    )

-- ---- ways

begun_few : (range : ℕ → Range) (ns : List ℕ) (p : ℕ) → begun range ns p ≤ length ns
begun_few range [] p = omega arith
begun_few range (n ∷ ns) p = omega (arith, begun_few range ns p, begun_one range n p)

-- the first one has begun
begun_some : (range : ℕ → Range) (ns : List ℕ) (p : ℕ) → Tiles range 0 ns POSITIONS → 1 ≤ begun range ns p
begun_some range [] p t = absurd (omega (arith, t))
begun_some range (n ∷ ns) p t = rw (t.0.begins, le-leb 0 p (omega arith)) (omega arith)

last_hop : (b : Bool) → (if b then 0 else 1) ≤ 1
last_hop true = omega arith
last_hop false = omega arith

module _ (hash : RecordKey → ℕ) (s : Store) (c : Change) (h : IsSoundFile hash s c) where
  abbrev rooms : ℕ
  rooms = length s.pages - s.layout.root

  in_file : (n : ℕ) → Contains (chain s) n → (s.layout.root ≤ n) × (n < s.layout.root + rooms)
  in_file n stands =
      let both = numbered hash s c (chain s) h n (inl stands) in (both.0, omega (arith, both.0, both.1))

  short : length (chain s) ≤ rooms
  short = omega (
    arith,
    long_in s.layout.root rooms (chain s) in_file,
    few_in s.layout.root rooms (chain s) (λ n. omega (arith, few hash s c (chain s) h n)),
  )

  way : (n k : ℕ) → distance s n k ≤ length (chain s)
  way n k =
      let most = begun_few (range_at s) (chain s) (position_of k) in
      let least = begun_some (range_at s) (chain s) (reach s n) h.chained.tiled in
      let some = begun_some (range_at s) (chain s) (position_of k) h.chained.tiled in
      let last : ℕ = if has_bucket s n then 0 else 1 in
      let few_hops : begun (range_at s) (chain s) (position_of k) - begun (range_at s) (chain s) (reach s n) + last
      ≤ length (chain s) = omega (arith, most, least, some, last_hop (has_bucket s n)) in
      few_hops

pub ways_are_short : (hash : RecordKey → ℕ) (s : Store) (c : Change) → IsSoundFile hash s c → HasShortWays s
ways_are_short hash s c h = record { short = short hash s c h; ways = way hash s c h }
