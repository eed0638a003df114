-- The chain, the list of free pages and the directory: when each is right, and where the first wrong thing stands.
-- Each is tested on a file of which the pages are right (Fagin, Nievergelt, Pippenger and Strong 1979).
use Rattle.std.specs.Prelude.{ℕ, ◌≡◌, ◌≢◌, ◌<◌, ◌≤◌, ◌^◌, ◌⊎◌, Bool, true, false, slice_index_or, List, ◌++◌, length, if◌then◌else◌}
use Rattle.std.specs.List.{Contains}
use Rattle.directory.specs.declared.pseudokey.TheConstants.{POSITIONS}
use Rattle.directory.specs.Links.{Links}
use Rattle.directory.specs.Partition.{IsPartition}
use Rattle.directory.specs.Tiles.{IsTileAt, Tiles}
use Rattle.hash_file.specs.Store.{Store, entry_at, count_at, has_bucket, bucket_at, range_at, next_at, IsFreePage}
use Rattle.hash_file.specs.Chain.{IsBucketOn, times, number_on}
use Rattle.hash_file.specs.Sound.{IsFreeList, is_numbered}
use Rattle.file_walk.specs.declared.fault.StructureFault.{StructureFault}
use Rattle.file_walk.specs.declared.fault.StructureFault.TheVariants as faults

-- ---- 3: the chain

-- these pages are buckets that follow one another from the root to the end; their ranges ascend in bit-reversed order,
-- and each pseudokey is in exactly one
pub record IsRightChain (s : Store) (ns : List ℕ) : Type 0 where
  pub linked : Links (next_at s) s.layout.root ns 0
  pub partition : IsPartition (range_at s) ns
  pub buckets : (n : ℕ) → Contains ns n → has_bucket s n ≡ true

-- these pages are a chain so far, up to a position and the page that is to come
pub record IsChainSoFar (s : Store) (ns : List ℕ) (reached expected : ℕ) : Type 0 where
  pub linked : Links (next_at s) s.layout.root ns expected
  pub tiled : Tiles (range_at s) 0 ns reached
  pub buckets : (n : ℕ) → Contains ns n → has_bucket s n ≡ true

-- page n is a bucket whose range begins at this position
pub record ContinuesAt (s : Store) (n reached : ℕ) : Type 0 where
  pub live : has_bucket s n ≡ true
  pub tile : IsTileAt (range_at s n) reached

-- the chain has come to its end: all positions are reached, and no page is to come
pub record EndsAt (n reached : ℕ) : Type 0 where
  pub all : reached ≡ POSITIONS
  pub last : n ≡ 0

-- the chain so far is right, and neither goes on with page n nor ends there
pub record BreaksAt (s : Store) (n : ℕ) : Type 0 where
  pub so_far : List ℕ
  pub reached : ℕ
  pub right : IsChainSoFar s so_far reached n
  pub goes_on : ContinuesAt s n reached → ⊥
  pub ends : EndsAt n reached → ⊥

-- ---- 4: the free pages

-- these pages are the list of free pages, and each page from the root on is on the chain or on this list, and once
pub record AreRightSpares (s : Store) (ns spares : List ℕ) : Type 0 where
  pub spared : IsFreeList s spares
  pub roles : (n : ℕ) → times n (ns ++ spares) ≡ (if is_numbered s n then 1 else 0)

-- the free list so far
pub record AreSparesSoFar (s : Store) (ns spares : List ℕ) (expected : ℕ) : Type 0 where
  pub linked : Links (next_at s) s.header.first_free spares expected
  pub free : (n : ℕ) → Contains spares n → IsFreePage s n × (n < length s.pages) × (n ≢ 0)
  pub once : (n : ℕ) → times n (ns ++ spares) ≤ 1

-- the free list so far is right, and page n, which is to come, is no free page or was met
pub record IsNotFree (s : Store) (ns : List ℕ) (n : ℕ) : Type 0 where
  pub so_far : List ℕ
  pub right : AreSparesSoFar s ns so_far n
  pub goes_on : n ≢ 0
  pub wrong : (IsFreePage s n × (n < length s.pages) → ⊥) ⊎ (1 ≤ times n (ns ++ so_far))

-- the free list is right, and page n is neither on it nor on the chain
pub record IsLost (s : Store) (ns : List ℕ) (n : ℕ) : Type 0 where
  pub spares : List ℕ
  pub right : AreSparesSoFar s ns spares 0
  pub numbered : is_numbered s n ≡ true
  pub nowhere : times n (ns ++ spares) ≡ 0

-- ---- 5: the directory

abbrev pub AreShallow : Store → List ℕ → Type 0
AreShallow s ns = (n : ℕ) → Contains ns n → (bucket_at s n).depth ≤ s.header.depth

abbrev pub AreEntriesRight : Store → List ℕ → Type 0
AreEntriesRight s ns = (i : ℕ) → i < 2 ^ s.header.depth → IsBucketOn s ns i (entry_at s i)

abbrev pub AreCountsRight : Store → List ℕ → Type 0
AreCountsRight s ns = (depth : ℕ) → depth ≤ s.layout.greatest → count_at s depth ≡ number_on s ns depth

-- no bucket is deeper than the directory, each entry is the bucket of its index, each count the number of buckets
pub record IsRightDirectory (s : Store) (ns : List ℕ) : Type 0 where
  pub shallow : AreShallow s ns
  pub entries : AreEntriesRight s ns
  pub counts : AreCountsRight s ns

-- ---- what each may find

abbrev pub IsChainFault : Store → StructureFault → Type 0
IsChainFault s (faults.ChainBroken page) = BreaksAt s page
IsChainFault s fault = ⊥

abbrev pub IsSparesFault : Store → List ℕ → StructureFault → Type 0
IsSparesFault s ns (faults.NotFree page) = IsNotFree s ns page
IsSparesFault s ns (faults.PageLost page) = IsLost s ns page
IsSparesFault s ns fault = ⊥

abbrev pub IsDirectoryFault : Store → List ℕ → StructureFault → Type 0
IsDirectoryFault s ns (faults.TooDeep page) = Contains ns page × (s.header.depth < (bucket_at s page).depth)
IsDirectoryFault s ns (faults.WrongEntry entry) =
    (entry < 2 ^ s.header.depth) × (IsBucketOn s ns entry (entry_at s entry) → ⊥)
IsDirectoryFault s ns (faults.WrongCount depth) =
    (depth ≤ s.layout.greatest) × (count_at s depth ≢ number_on s ns depth)
IsDirectoryFault s ns fault = ⊥

-- ---- marks

-- each of these is the number of a page of the file, and stands here once
pub record HasRoomFor (pages : ℕ) (ns : List ℕ) : Type 0 where
  pub within : (n : ℕ) → Contains ns n → n < pages
  pub once : (n : ℕ) → times n ns ≤ 1

-- a page is marked where it stands on the list, and it stands there once
pub record AreMarked (pages : ℕ) (ns : List ℕ) (marks : List Bool) : Type 0 where
  pub number : length marks ≡ pages
  pub marked : (n : ℕ) → times n ns ≡ (if slice_index_or marks n false then 1 else 0)

abbrev pub HasRightSpares : Store → List ℕ → Type 0
HasRightSpares s ns = (spares : List ℕ) × AreRightSpares s ns spares
