-- What stands on the pages of a structure change in each of its phases. Here `ns` is the chain.
use Rattle.std.specs.Prelude.{ℕ, ◌≡◌, ◌<◌, true, List}
use Rattle.std.specs.List.{Contains}
use Rattle.directory.specs.declared.range.Range.{Range}
use Rattle.directory.specs.Ranges.{Covers, AreHalvesOf, upper_half_of}
use Rattle.bucket_page.specs.declared.record_key.RecordKey.{RecordKey}
use Rattle.bucket_page.specs.declared.page.PageKind.TheVariants as kinds
use Rattle.bucket_page.specs.Dividing.{upper_half}
use Rattle.bucket_page.specs.Records.{lookup}
use Rattle.hash_file.specs.Store.{Store, page_at, has_bucket, bucket_at, range_at, records_at, next_at, IsFreePage}
use Rattle.hash_file.specs.Change.{Change, Quiet, Taken, Filled, Linked, Absorbed, Buried, Drained, Freed}

pub record IsFilled (hash : RecordKey → ℕ) (s : Store) (ns : List ℕ) (old new : ℕ) : Type 0 where
  pub old_on : Contains ns old
  -- the directory tells the halves apart
  pub shallow : (bucket_at s old).depth < s.header.depth
  pub upper : page_at s new ≡ kinds.Bucket (upper_half hash (bucket_at s old))

pub record IsLinked (s : Store) (ns : List ℕ) (old new : ℕ) (whole : Range) : Type 0 where
  pub old_on : Contains ns old
  pub new_on : Contains ns new
  pub next : next_at s old ≡ new
  pub halves : AreHalvesOf whole (range_at s old) (range_at s new)

pub record IsAbsorbed (hash : RecordKey → ℕ) (s : Store) (ns : List ℕ) (left right : ℕ) (whole : Range) : Type 0 where
  pub left_on : Contains ns left
  pub shallow : whole.depth < s.header.depth
  pub joined : range_at s left ≡ whole
  pub stands : has_bucket s right ≡ true
  pub upper : range_at s right ≡ upper_half_of whole
  -- the right page still leads on as the left one does
  pub next : next_at s right ≡ next_at s left
  -- and answers for its own half as the left one does
  pub same : (key : RecordKey) → Covers (upper_half_of whole) (hash key) →
      lookup key (records_at s right) ≡ lookup key (records_at s left)

pub record IsBuried (s : Store) (ns : List ℕ) (left right : ℕ) (whole : Range) : Type 0 where
  pub left_on : Contains ns left
  pub shallow : whole.depth < s.header.depth
  pub joined : range_at s left ≡ whole
  pub tombstone : page_at s right ≡ kinds.Tombstone left

pub record IsDrained (s : Store) (ns : List ℕ) (left right : ℕ) : Type 0 where
  pub left_on : Contains ns left
  pub tombstone : page_at s right ≡ kinds.Tombstone left

abbrev pub HasPhase : (RecordKey → ℕ) → Store → List ℕ → Change → Type 0
HasPhase hash s ns Quiet = Unit {0}
HasPhase hash s ns (Taken new) = IsFreePage s new
HasPhase hash s ns (Filled old new) = IsFilled hash s ns old new
HasPhase hash s ns (Linked old new whole) = IsLinked s ns old new whole
HasPhase hash s ns (Absorbed left right whole) = IsAbsorbed hash s ns left right whole
HasPhase hash s ns (Buried left right whole) = IsBuried s ns left right whole
HasPhase hash s ns (Drained left right) = IsDrained s ns left right
HasPhase hash s ns (Freed right) = page_at s right ≡ kinds.Free s.header.first_free
