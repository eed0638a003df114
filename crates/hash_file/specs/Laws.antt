-- What each change keeps, and where it leads the structure change under way. Each is the contract of a function of
-- src/laws.rt, or is listed in the README as owed.
use Rattle.std.specs.Prelude.{ℕ, ◌≡◌, ◌≢◌, ◌<◌, ◌+◌, ◌^◌}
use Rattle.std.specs.List.{Contains}
use Rattle.directory.specs.declared.range.Range.{Range}
use Rattle.directory.specs.Ranges.{Covers, AreHalvesOf, upper_half_of}
use Rattle.bucket_page.specs.declared.record_key.RecordKey.{RecordKey}
use Rattle.hash_file.specs.Store.{Store, entry_at, count_at, bucket_at, range_at, records_at}
use Rattle.hash_file.specs.Chain.{chain, IsBucketOf}
use Rattle.hash_file.specs.Change.{Change, Quiet, Taken, Filled, Linked, Absorbed, Buried, Drained, Freed, busy}
use Rattle.hash_file.specs.Search.{PageLeads}
use Rattle.hash_file.specs.Sound.{IsSoundFile}
use Rattle.hash_file.specs.Changes.{RecordWrite, MayWrite, key_of, write_record, take_page, copy_directory, raise_depth, write_new, write_old, retarget, set_counts, split_counts, merge_counts, write_left, write_tombstone, write_free, link_free, lower_depth}
use Rattle.hash_file.specs.Kept.{KeepsContents, KeepsLeading, ChangesRecord, HasShapeOf, KeepsFile}

-- ---- a record

pub record KeepsOtherRecords (hash : RecordKey → ℕ) (old : Store) (c : Change) (new : Store) (w : RecordWrite) : Type
    0 where
  pub sound : IsSoundFile hash new c
  pub contents : ChangesRecord w old new
  pub leads : KeepsLeading old c new c
  -- and all that changes of any page is its records
  pub shapes : (n : ℕ) → HasShapeOf old new n
  pub chain : chain new ≡ chain old

-- a record is written in the bucket of its key, of which no phase speaks
abbrev pub WriteRecordIsOneRecord : Type 0
WriteRecordIsOneRecord = (hash : RecordKey → ℕ) (s : Store) (c : Change) (n : ℕ) (w : RecordWrite)
    → IsSoundFile hash s c →
    IsBucketOf s (hash (key_of w)) n → (Contains (busy c) n → ⊥) → MayWrite w (records_at s n) →
    KeepsOtherRecords hash s c (write_record n w s) w

-- ---- a split

abbrev pub TakePageKeeps : Type 0
TakePageKeeps = (hash : RecordKey → ℕ) (s : Store) → IsSoundFile hash s Quiet → s.header.first_free ≢ 0 →
    KeepsFile hash s Quiet (take_page s) (Taken s.header.first_free)

abbrev pub CopyDirectoryKeeps : Type 0
CopyDirectoryKeeps = (hash : RecordKey → ℕ) (s : Store) (new page : ℕ) → IsSoundFile hash s (Taken new) →
    KeepsFile hash s (Taken new) (copy_directory page s) (Taken new)

-- the upper half of the doubled directory is the lower half again
abbrev pub IsCopied : Store → Type 0
IsCopied s = (i : ℕ) → i < 2 ^ s.header.depth → entry_at s (i + 2 ^ s.header.depth) ≡ entry_at s i

abbrev pub RaiseDepthKeeps : Type 0
RaiseDepthKeeps = (hash : RecordKey → ℕ) (s : Store) (new : ℕ) → IsSoundFile hash s (Taken new) →
    s.header.depth < s.layout.greatest → IsCopied s → KeepsFile hash s (Taken new) (raise_depth s) (Taken new)

abbrev pub WriteNewKeeps : Type 0
WriteNewKeeps = (hash : RecordKey → ℕ) (s : Store) (old new : ℕ) → IsSoundFile hash s (Taken new) →
    Contains (chain s) old → (bucket_at s old).depth < s.header.depth →
    KeepsFile hash s (Taken new) (write_new hash old new s) (Filled old new)

abbrev pub WriteOldKeeps : Type 0
WriteOldKeeps = (hash : RecordKey → ℕ) (s : Store) (old new : ℕ) → IsSoundFile hash s (Filled old new) →
    KeepsFile hash s (Filled old new) (write_old hash old new s) (Linked old new (range_at s old))

abbrev pub RetargetKeepsSplit : Type 0
RetargetKeepsSplit = (hash : RecordKey → ℕ) (s : Store) (old new : ℕ) (whole : Range) (page : ℕ) →
    IsSoundFile hash s (Linked old new whole) →
    KeepsFile hash s (Linked old new whole) (retarget page (upper_half_of whole) new s) (Linked old new whole)

-- each entry of the range names this page
abbrev pub IsRetargeted : Range → ℕ → Store → Type 0
IsRetargeted r n s = (i : ℕ) → i < 2 ^ s.header.depth → Covers r i → entry_at s i ≡ n

abbrev pub SetCountsKeepsSplit : Type 0
SetCountsKeepsSplit = (hash : RecordKey → ℕ) (s : Store) (old new : ℕ) (whole : Range) →
    IsSoundFile hash s (Linked old new whole) → IsRetargeted (upper_half_of whole) new s →
    KeepsFile hash s (Linked old new whole) (set_counts (split_counts whole.depth s.header.counts) s) Quiet

-- ---- a merge

abbrev pub WriteLeftKeeps : Type 0
WriteLeftKeeps = (hash : RecordKey → ℕ) (s : Store) (left right : ℕ) (whole : Range) → IsSoundFile hash s Quiet →
    Contains (chain s) left → Contains (chain s) right → AreHalvesOf whole (range_at s left) (range_at s right) →
    KeepsFile hash s Quiet (write_left left right s) (Absorbed left right whole)

abbrev pub WriteTombstoneKeeps : Type 0
WriteTombstoneKeeps = (hash : RecordKey → ℕ) (s : Store) (left right : ℕ) (whole : Range) →
    IsSoundFile hash s (Absorbed left right whole) →
    KeepsFile hash s (Absorbed left right whole) (write_tombstone left right s) (Buried left right whole)

abbrev pub RetargetKeepsMerge : Type 0
RetargetKeepsMerge = (hash : RecordKey → ℕ) (s : Store) (left right : ℕ) (whole : Range) (page : ℕ) →
    IsSoundFile hash s (Buried left right whole) →
    KeepsFile hash s (Buried left right whole) (retarget page (upper_half_of whole) left s) (Buried left right whole)

abbrev pub SetCountsKeepsMerge : Type 0
SetCountsKeepsMerge = (hash : RecordKey → ℕ) (s : Store) (left right : ℕ) (whole : Range) →
    IsSoundFile hash s (Buried left right whole) → IsRetargeted (upper_half_of whole) left s →
    KeepsFile hash s (Buried left right whole) (set_counts (merge_counts whole.depth s.header.counts) s)
    (Drained left right)

-- the right page alone leads nowhere any more
pub record FreesPage (hash : RecordKey → ℕ) (old : Store) (c : Change) (new : Store) (right : ℕ) : Type 0 where
  pub sound : IsSoundFile hash new (Freed right)
  pub contents : KeepsContents old new
  pub leads : (n k : ℕ) → n ≢ right → PageLeads old c n k → PageLeads new (Freed right) n k

abbrev pub WriteFreeKeeps : Type 0
WriteFreeKeeps = (hash : RecordKey → ℕ) (s : Store) (left right : ℕ) → IsSoundFile hash s (Drained left right) →
    FreesPage hash s (Drained left right) (write_free right s) right

abbrev pub LinkFreeKeeps : Type 0
LinkFreeKeeps = (hash : RecordKey → ℕ) (s : Store) (right : ℕ) → IsSoundFile hash s (Freed right) →
    KeepsFile hash s (Freed right) (link_free right s) Quiet

abbrev pub LowerDepthKeeps : Type 0
LowerDepthKeeps = (hash : RecordKey → ℕ) (s : Store) → IsSoundFile hash s Quiet → 0 < s.header.depth →
    count_at s s.header.depth ≡ 0 → KeepsFile hash s Quiet (lower_depth s) Quiet
