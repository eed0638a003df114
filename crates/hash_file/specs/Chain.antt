-- The chain of live buckets, and what the file holds.
use Rattle.std.specs.Prelude.{ℕ, ◌≡◌, ◌≤◌, ◌+◌, ◌^◌, ◌==◌, Bool, true, List, [], ◌∷◌, Option, if◌then◌else◌}
use Rattle.std.specs.List.{All, Contains, flat_map}
use Rattle.directory.specs.declared.pseudokey.TheConstants.{POSITIONS}
use Rattle.directory.specs.Ranges.{Covers}
use Rattle.directory.specs.Tiles.{Tiles}
use Rattle.directory.specs.Links.{Links, met_from}
use Rattle.bucket_page.specs.declared.record_key.RecordKey.{RecordKey}
use Rattle.bucket_page.specs.Bucket.{Bucket}
use Rattle.bucket_page.specs.Records.{Pair, ascend, lookup}
use Rattle.hash_file.specs.Store.{Store, has_bucket, bucket_at, range_of, range_at, records_at, next_at}

-- the pages met from the root on by next links, up to the first that is no bucket; unfoldable, since its fuel is
-- never counted down: a list that `IsChain` says is the chain is it
unfoldable pub chain : Store → List ℕ
chain s = met_from (has_bucket s) (next_at s) (2 ^ s.layout.greatest) s.layout.root

-- these pages are buckets that follow one another from the root to the end, and share out all pseudokeys in
-- bit-reversed order; none is deeper than the directory
pub record IsChain (s : Store) (ns : List ℕ) : Type 0 where
  pub linked : Links (next_at s) s.layout.root ns 0
  pub tiled : Tiles (range_at s) 0 ns POSITIONS
  pub buckets : (n : ℕ) → Contains ns n → has_bucket s n ≡ true
  pub shallow : (n : ℕ) → Contains ns n → (bucket_at s n).depth ≤ s.header.depth

-- page n is on the list, and its range has the pseudokey
abbrev pub IsBucketOn : Store → List ℕ → ℕ → ℕ → Type 0
IsBucketOn s ns k n = Contains ns n × Covers (range_at s n) k

-- page n is the live bucket of a pseudokey
abbrev pub IsBucketOf : Store → ℕ → ℕ → Type 0
IsBucketOf s k n = IsBucketOn s (chain s) k n

-- each record stands in the bucket of its pseudokey, and keys ascend
pub record IsPlaced (hash : RecordKey → ℕ) (b : Bucket) : Type 0 where
  pub within : All (λ (p : Pair). Covers (range_of b) (hash p.key)) b.records
  pub ascends : ascend b.records ≡ true

-- the records of these pages, one page behind the other
abbrev pub pairs_on : Store → List ℕ → List Pair
pairs_on s ns = flat_map (records_at s) ns

-- the records that the file holds
abbrev pub pairs : Store → List Pair
pairs s = pairs_on s (chain s)

-- the value that the file holds at a key, none where it has no record of it
abbrev pub contents : Store → RecordKey → Option (List ℕ)
contents s key = lookup key (pairs s)

-- ---- counting

-- how many items of a list pass a test
abbrev pub how_many : {X : Type 0} → (X → Bool) → List X → ℕ
how_many test [] = 0
how_many test (x ∷ xs) = (if test x then 1 else 0) + how_many test xs

-- how often a page stands on a list
abbrev pub times : ℕ → List ℕ → ℕ
times n ns = how_many (λ (m : ℕ). m == n) ns

-- how many of these pages have a bucket of a local depth
abbrev pub number_on : Store → List ℕ → ℕ → ℕ
number_on s ns depth = how_many (λ (n : ℕ). (bucket_at s n).depth == depth) ns
