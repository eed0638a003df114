-- What makes a file sound in each phase of a structure change, and when its directory is exact.
use Rattle.std.specs.Prelude.{ℕ, suc, ◌≡◌, ◌<◌, ◌≤◌, ◌+◌, ◌^◌, ◌⊎◌, nat_le, nat_lt, Bool, ◌&&◌, false, List, ◌++◌, length, if◌then◌else◌}
use Rattle.std.specs.List.{Contains}
use Rattle.directory.specs.declared.pseudokey.TheConstants.{PSEUDOKEY_BITS}
use Rattle.directory.specs.Links.{Links}
use Rattle.bucket_page.specs.declared.record_key.RecordKey.{RecordKey}
use Rattle.hash_file.specs.Store.{Store, entry_at, count_at, has_bucket, bucket_at, next_at, IsFreePage}
use Rattle.hash_file.specs.Chain.{chain, IsChain, IsBucketOn, IsBucketOf, IsPlaced, times, number_on}
use Rattle.hash_file.specs.Change.{Change, owned, TakesDetour, gained, lost}
use Rattle.hash_file.specs.Phases.{HasPhase}

-- there is room for the deepest directory, and for each count and page
pub record HasLayout (s : Store) : Type 0 where
  pub root : 1 ≤ s.layout.root
  pub greatest : s.layout.greatest ≤ PSEUDOKEY_BITS
  pub depth : s.header.depth ≤ s.layout.greatest
  pub entries : 2 ^ s.layout.greatest ≤ length s.entries
  pub counts : suc s.layout.greatest ≤ length s.header.counts
  pub pages : length s.pages ≡ s.header.pages
  -- page 0 is the header's, so a next link 0 ends the chain
  pub header : has_bucket s 0 ≡ false

-- these pages are free, and follow one another from the first free page to the end
pub record IsFreeList (s : Store) (spares : List ℕ) : Type 0 where
  pub linked : Links (next_at s) s.header.first_free spares 0
  pub free : (n : ℕ) → Contains spares n → IsFreePage s n

-- the pages from the root on
abbrev pub is_numbered : Store → ℕ → Bool
is_numbered s n = nat_le s.layout.root n && nat_lt n (length s.pages)

-- entry i names the bucket of i, or a page that leads there
abbrev pub HasEntry : Store → Change → List ℕ → ℕ → Type 0
HasEntry s c ns i = IsBucketOn s ns i (entry_at s i) ⊎ TakesDetour c i (entry_at s i)

-- a file is sound where this list is its chain
pub record IsSoundOn (hash : RecordKey → ℕ) (s : Store) (c : Change) (ns : List ℕ) : Type 0 where
  pub layout : HasLayout s
  -- the chain is in order, and each pseudokey has one bucket
  pub chained : IsChain s ns
  -- each record stands where it is looked for
  pub placed : (n : ℕ) → Contains ns n → IsPlaced hash (bucket_at s n)
  -- the pages on the free list
  pub spares : List ℕ
  pub spared : IsFreeList s spares
  -- each page from the root on is live, or on the free list, or owned by the change: one of these, and once
  pub roles : (n : ℕ) → times n (ns ++ (spares ++ owned c)) ≡ (if is_numbered s n then 1 else 0)
  -- each entry of the directory leads to its bucket, in one hop at most
  pub entries : (i : ℕ) → i < 2 ^ s.header.depth → HasEntry s c ns i
  -- the counts are those of the chain, but for what the change still owes
  pub counts : (depth : ℕ) → depth ≤ s.layout.greatest →
      count_at s depth + gained c depth ≡ lost c depth + number_on s ns depth
  -- what the change has done so far
  pub phase : HasPhase hash s ns c

-- a file is sound in this phase of a structure change
abbrev pub IsSoundFile : (RecordKey → ℕ) → Store → Change → Type 0
IsSoundFile hash s c = IsSoundOn hash s c (chain s)

-- the directory is exact: each entry is the bucket of its index, each count the number of buckets of its depth
pub record IsExact (s : Store) : Type 0 where
  pub entries : (i : ℕ) → i < 2 ^ s.header.depth → IsBucketOf s i (entry_at s i)
  pub counts : (depth : ℕ) → depth ≤ s.layout.greatest → count_at s depth ≡ number_on s (chain s) depth
