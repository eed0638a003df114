-- What the pages of a file mean: from the root page on they spell buckets, and the records of these are just those of
-- one lawful system. Who reads a file with another program needs no more. docs/FORMAT.md, "Pages", "Records".
use Rattle.std.specs.Prelude.{ℕ, ◌≡◌, ◌≢◌, ◌≤◌, false, List, [], ◌∷◌}
use Rattle.std.specs.List.{AllPairs, flat_map}
use Rattle.page_device.specs.Sealed.{IsSealed, payload_of}
use Rattle.directory.specs.declared.layout.TheConstants.{ROOT_PAGE}
use Rattle.bucket_page.specs.Bucket.{Bucket}
use Rattle.bucket_page.specs.Records.{Pair, lookup}
use Rattle.bucket_page.specs.Spelling.{IsBucket, bucket_bytes}
use Rattle.file_check.specs.Whole.{HasJust}
use Rattle.file_walk.specs.Files.{page_on}
use Rattle.queue_model.specs.Lawful.{IsLawful}
use Rattle.queue_model.specs.State.{State}

-- page n, the root page or one behind it, is sealed, and its payload spells this bucket
pub record HasBucket (content : List (List ℕ)) (n : ℕ) (b : Bucket) : Type 0 where
  pub behind : ROOT_PAGE ≤ n
  pub sealed : IsSealed n (page_on content n)
  pub in_range : IsBucket b
  pub spelled : payload_of (page_on content n) ≡ bucket_bytes b

-- these buckets stand on pages that follow one another from page n on, by the next links; the last one's is 0
abbrev pub AreChained : List (List ℕ) → ℕ → List Bucket → Type 0
AreChained content n [] = n ≡ 0
AreChained content n (b ∷ bs) = HasBucket content n b × AreChained content b.next bs

-- the records of buckets, one bucket behind the other
abbrev pub records_of : List Bucket → List Pair
records_of bs = flat_map (λ (b : Bucket). b.records) bs

-- these pages spell just the records of this system, each once; it is lawful and not stopped
pub record SpellsSystem (content : List (List ℕ)) (s : State) : Type 0 where
  pub buckets : List Bucket
  pub chained : AreChained content ROOT_PAGE buckets
  pub once : AllPairs (λ (p q : Pair). p.key ≢ q.key) (records_of buckets)
  pub lawful : IsLawful s
  pub running : s.stopped ≡ false
  pub just : HasJust (λ key. lookup key (records_of buckets)) s
