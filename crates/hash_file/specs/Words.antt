-- A sound file in plain words, beside the working forms.
use Rattle.std.specs.Prelude.{ℕ, ◌≡◌, ◌≢◌, ◌<◌, ◌≤◌, ◌-◌, ◌⊎◌, ◌↔◌, true, Some, List, ◌∷◌, ◌++◌, length}
use Rattle.std.specs.List.{AllPairs, Contains}
use Rattle.directory.specs.declared.range.Range.{Range}
use Rattle.directory.specs.Ranges.{Covers}
use Rattle.directory.specs.Links.{Links}
use Rattle.directory.specs.Partition.{IsPartition}
use Rattle.bucket_page.specs.declared.record_key.RecordKey.{RecordKey}
use Rattle.bucket_page.specs.Records.{Pair, pair}
use Rattle.hash_file.specs.Store.{Store, has_bucket, bucket_at, range_at, records_at, next_at}
use Rattle.hash_file.specs.Chain.{chain, contents, pairs, IsChain, IsBucketOf}
use Rattle.hash_file.specs.Change.{Change, Quiet, Absorbed, Buried, Drained, owned}
use Rattle.hash_file.specs.Search.{PageLeads, distance}
use Rattle.hash_file.specs.Sound.{HasLayout, IsFreeList, IsSoundFile, IsExact}

-- the live buckets, from the root on, end; patterns ascend in bit-reversed order, and each pseudokey is in the range
-- of exactly one; none is deeper than the directory
pub record IsWellFormed (s : Store) : Type 0 where
  pub ends : Links (next_at s) s.layout.root (chain s) 0
  pub buckets : (n : ℕ) → Contains (chain s) n → has_bucket s n ≡ true
  pub partition : IsPartition (range_at s) (chain s)
  pub shallow : (n : ℕ) → Contains (chain s) n → (bucket_at s n).depth ≤ s.header.depth

abbrev pub ChainIsWellFormed : Type 0
ChainIsWellFormed = (s : Store) → IsChain s (chain s) ↔ IsWellFormed s

-- pages that a chain is made of are all that is met from the root on
abbrev pub ChainIsMet : Type 0
ChainIsMet = (s : Store) (ns : List ℕ) → HasLayout s → IsChain s ns → chain s ≡ ns

-- exactly one of three
pub data IsOneOf (A B C : Type 0) : Type 0 where
  First : A → (B → ⊥) → (C → ⊥) → IsOneOf A B C
  Second : B → (A → ⊥) → (C → ⊥) → IsOneOf A B C
  Third : C → (A → ⊥) → (B → ⊥) → IsOneOf A B C

-- each page from the root on is live, free or owned by the change, and exactly one of these; and only such are
pub record HasOneRole (s : Store) (c : Change) (spares : List ℕ) : Type 0 where
  pub each : (n : ℕ) → s.layout.root ≤ n → n < length s.pages →
      IsOneOf (Contains (chain s) n) (Contains spares n) (Contains (owned c) n)
  pub only : (n : ℕ) → Contains (chain s) n ⊎ (Contains spares n ⊎ Contains (owned c) n) →
      (s.layout.root ≤ n) × (n < length s.pages)
  -- neither the chain nor the free list meets a page twice
  pub chain_once : AllPairs (λ (m n : ℕ). m ≢ n) (chain s)
  pub spares_once : AllPairs (λ (m n : ℕ). m ≢ n) spares

abbrev pub RolesAreOne : Type 0
RolesAreOne = (hash : RecordKey → ℕ) (s : Store) (c : Change) → IsSoundFile hash s c →
    (spares : List ℕ) × IsFreeList s spares × HasOneRole s c spares

abbrev pub QuietIsExact : Type 0
QuietIsExact = (hash : RecordKey → ℕ) (s : Store) → IsSoundFile hash s Quiet → IsExact s

-- no two records of the file have one key, and the value at a key is that of its record
pub record HasContents (s : Store) : Type 0 where
  pub distinct : AllPairs (λ (p q : Pair). p.key ≢ q.key) (pairs s)
  pub pairs : (key : RecordKey) (value : List ℕ) →
      (contents s key ≡ Some value) ↔ Contains (pairs s) (pair key value)

abbrev pub ContentsArePairs : Type 0
ContentsArePairs = (hash : RecordKey → ℕ) (s : Store) (c : Change) → IsSoundFile hash s c → HasContents s

-- the bucket of a pseudokey is page n of the chain, or stands behind it
abbrev pub StandsAtOrBefore : Store → ℕ → ℕ → Type 0
StandsAtOrBefore s n k = (front : List ℕ) × (back : List ℕ) × (m : ℕ) ×
    (chain s ≡ front ++ n ∷ back) × Contains (n ∷ back) m × IsBucketOf s k m

abbrev pub LeadingIsStandingBefore : Type 0
LeadingIsStandingBefore = (hash : RecordKey → ℕ) (s : Store) (c : Change) (n k : ℕ) → IsSoundFile hash s c →
    Contains (chain s) n → PageLeads s c n k ↔ StandsAtOrBefore s n k

-- all that is well formed of a file
pub record IsWellFormedFile (hash : RecordKey → ℕ) (s : Store) (c : Change) : Type 0 where
  -- the live buckets end, ascend in bit-reversed order, have each pseudokey in the range of exactly one, and none is
  -- deeper than the directory
  pub chained : IsWellFormed s
  -- the free list ends, and its pages are free
  pub spares : List ℕ
  pub spared : IsFreeList s spares
  -- each page from the root on is live, or on the free list, or owned by the change: one of these, and once
  pub roles : HasOneRole s c spares
  -- each record stands in the bucket whose range has its key's pseudokey
  pub placed : (n : ℕ) (p : Pair) → Contains (chain s) n → Contains (records_at s n) p →
      Covers (range_at s n) (hash p.key)
  -- no two records have one key
  pub distinct : AllPairs (λ (p q : Pair). p.key ≢ q.key) (pairs s)

abbrev pub FilesAreWellFormed : Type 0
FilesAreWellFormed = (hash : RecordKey → ℕ) (s : Store) (c : Change) → IsSoundFile hash s c → IsWellFormedFile hash s c

-- the bucket of a pseudokey stands on the chain behind page n
abbrev pub StandsBehind : Store → ℕ → ℕ → Type 0
StandsBehind s n k = (front : List ℕ) × (back : List ℕ) × (m : ℕ) ×
    (chain s ≡ front ++ n ∷ back) × Contains back m × IsBucketOf s k m

-- the right page of a merge leads to what is in its own range or behind the left one, and from its tombstone on to all
-- that the left page leads to
pub record RightPageLeads (hash : RecordKey → ℕ) (s : Store) (left right : ℕ) : Type 0 where
  pub absorbed : (whole : Range) (k : ℕ) → IsSoundFile hash s (Absorbed left right whole) →
      PageLeads s (Absorbed left right whole) right k ↔ (Covers (range_at s right) k ⊎ StandsBehind s left k)
  pub buried : (whole : Range) (k : ℕ) → IsSoundFile hash s (Buried left right whole) →
      PageLeads s (Buried left right whole) right k ↔ PageLeads s (Buried left right whole) left k
  pub drained : (k : ℕ) → IsSoundFile hash s (Drained left right) →
      PageLeads s (Drained left right) right k ↔ PageLeads s (Drained left right) left k

abbrev pub RightPagesLead : Type 0
RightPagesLead = (hash : RecordKey → ℕ) (s : Store) (left right : ℕ) → RightPageLeads hash s left right

-- the chain is no longer than there are pages from the root on, and no way is longer than the chain
pub record HasShortWays (s : Store) : Type 0 where
  pub short : length (chain s) ≤ length s.pages - s.layout.root
  pub ways : (n k : ℕ) → distance s n k ≤ length (chain s)

abbrev pub WaysAreShort : Type 0
WaysAreShort = (hash : RecordKey → ℕ) (s : Store) (c : Change) → IsSoundFile hash s c → HasShortWays s
