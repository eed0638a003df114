-- The kinds of step that write a page, each the one that docs/STEPS.md names, "The kinds of step".
use Rattle.std.specs.Prelude.{ℕ, ◌≡◌, ◌≢◌, ◌<◌, ◌≤◌, ◌+◌, ◌⊎◌, length, Some, IsSome}
use Rattle.std.specs.List.{Contains}
use Rattle.directory.specs.declared.range.Range.{Range}
use Rattle.directory.specs.Ranges.{AreHalvesOf, upper_half_of}
use Rattle.bucket_page.specs.declared.layout.TheConstants.{ROOM_BYTES}
use Rattle.bucket_page.specs.declared.record_key.RecordKey.{RecordKey}
use Rattle.bucket_page.specs.Bucket.{Bucket}
use Rattle.bucket_page.specs.Records.{lookup}
use Rattle.bucket_page.specs.Changes.{HasValueOf}
use Rattle.page_locks.specs.declared.lock.LockKind.TheVariants.{Exclusive}
use Rattle.page_locks.specs.declared.lock.LockName.TheVariants.{Directory, Page}
use Rattle.page_locks.specs.Table.{held}
use Rattle.page_locks.specs.Writers.{IsWriter}
use Rattle.hash_file.specs.Store.{Store, bucket_at, count_at, range_at, records_at}
use Rattle.hash_file.specs.Chain.{chain, IsBucketOf}
use Rattle.hash_file.specs.Change.{Change, Quiet, Taken, Filled, Linked, Absorbed, Buried, Drained, Freed}
use Rattle.hash_file.specs.Changes.{RecordWrite, Put, Replace, Remove, MayWrite, key_of, write_record, take_page, copy_directory, raise_depth, write_new, write_old, retarget, set_counts, split_counts, merge_counts, write_left, write_tombstone, write_free, link_free, lower_depth}
use Rattle.hash_file.specs.Laws.{IsCopied, IsRetargeted}
use Rattle.step_rules.specs.declared.kind.TheConstants.{MERGED_BYTES}
use Rattle.step_rules.specs.World.{World, with_store, gone_on, guard_of}
use Rattle.step_rules.specs.Structure.{IsCopiedBefore, IsRetargetedBefore, HasUpperEntry, HasEntryOf, target_of}
use Rattle.step_rules.specs.Pages.{used_of, used_on, size_of}

-- what is put has room, what is replaced keeps its length, and what is removed is there
abbrev pub Suits : RecordWrite → Bucket → Type 0
Suits (Put p) b = used_of b + size_of p ≤ ROOM_BYTES
Suits (Replace p) b = HasValueOf (length p.value) p.key b.records
Suits (Remove key) b = IsSome (lookup key b.records)

-- one record is written in the bucket of its key, under the page's lock and the record's own; who may write the
-- directory does so only between its changes
pub record WritesRecord (hash : RecordKey → ℕ) (seat : ℕ) (old new : World) : Type 0 where
  pub page : ℕ
  pub write : RecordWrite
  pub page_owned : IsWriter old.locks seat (Page page)
  pub record_owned : held old.locks seat (guard_of (key_of write)) ≡ Some Exclusive
  pub between : IsWriter old.locks seat Directory → old.change ≡ Quiet
  pub home : IsBucketOf old.store (hash (key_of write)) page
  pub may : MayWrite write (records_at old.store page)
  pub suits : Suits write (bucket_at old.store page)
  pub is : new ≡ with_store (write_record page write old.store) old

-- the seat that may write the directory makes the file another, and takes the change under way on to phase d
pub record Restructures (seat : ℕ) (c : Change) (s : Store) (d : Change) (old new : World) : Type 0 where
  pub leader : IsWriter old.locks seat Directory
  pub phase : old.change ≡ c
  pub is : new ≡ gone_on s d old

-- ---- a split

pub record TakesPage (seat : ℕ) (old new : World) : Type 0 where
  pub some_free : old.store.header.first_free ≢ 0
  pub changes : Restructures seat Quiet (take_page old.store) (Taken old.store.header.first_free) old new

-- pages of the directory go in ascending order
pub record CopiesDirectory (seat : ℕ) (old new : World) : Type 0 where
  pub taken : ℕ
  pub page : ℕ
  pub upper : HasUpperEntry old.store page
  pub before : IsCopiedBefore old.store page
  pub changes : Restructures seat (Taken taken) (copy_directory page old.store) (Taken taken) old new

pub record RaisesDepth (seat : ℕ) (old new : World) : Type 0 where
  pub taken : ℕ
  pub room : old.store.header.depth < old.store.layout.greatest
  pub copied : IsCopied old.store
  pub changes : Restructures seat (Taken taken) (raise_depth old.store) (Taken taken) old new

pub record WritesNew (hash : RecordKey → ℕ) (seat : ℕ) (old new : World) : Type 0 where
  pub split : ℕ
  pub taken : ℕ
  pub owned : IsWriter old.locks seat (Page split)
  pub on_chain : Contains (chain old.store) split
  pub shallow : (bucket_at old.store split).depth < old.store.header.depth
  pub changes : Restructures seat (Taken taken) (write_new hash split taken old.store) (Filled split taken) old new

pub record WritesOld (hash : RecordKey → ℕ) (seat : ℕ) (old new : World) : Type 0 where
  pub split : ℕ
  pub filled : ℕ
  pub owned : IsWriter old.locks seat (Page split)
  pub changes : Restructures seat (Filled split filled) (write_old hash split filled old.store)
      (Linked split filled (range_at old.store split)) old new

-- ---- a split or a merge

-- the upper range gets the new bucket in a split, the left one in a merge; pages go in ascending order
pub record Retargets (seat : ℕ) (old new : World) : Type 0 where
  pub lower : ℕ
  pub upper : ℕ
  pub page : ℕ
  pub whole : Range
  pub entry : HasEntryOf old.store (upper_half_of whole) page
  pub before : IsRetargetedBefore old.store (upper_half_of whole) (target_of old.change) page
  pub changes : Restructures seat (Linked lower upper whole)
      (retarget page (upper_half_of whole) upper old.store) (Linked lower upper whole) old new
      ⊎ Restructures seat (Buried lower upper whole)
      (retarget page (upper_half_of whole) lower old.store) (Buried lower upper whole) old new

pub record CountsSplit (lower upper : ℕ) (whole : Range) (seat : ℕ) (old new : World) : Type 0 where
  pub retargeted : IsRetargeted (upper_half_of whole) upper old.store
  pub changes : Restructures seat (Linked lower upper whole)
      (set_counts (split_counts whole.depth old.store.header.counts) old.store) Quiet old new

pub record CountsMerge (lower upper : ℕ) (whole : Range) (seat : ℕ) (old new : World) : Type 0 where
  pub retargeted : IsRetargeted (upper_half_of whole) lower old.store
  pub changes : Restructures seat (Buried lower upper whole)
      (set_counts (merge_counts whole.depth old.store.header.counts) old.store) (Drained lower upper) old new

pub record SetsCounts (seat : ℕ) (old new : World) : Type 0 where
  pub lower : ℕ
  pub upper : ℕ
  pub whole : Range
  pub sets : CountsSplit lower upper whole seat old new ⊎ CountsMerge lower upper whole seat old new

-- ---- a merge

pub record WritesLeft (seat : ℕ) (old new : World) : Type 0 where
  pub left : ℕ
  pub right : ℕ
  pub whole : Range
  pub left_owned : IsWriter old.locks seat (Page left)
  pub right_owned : IsWriter old.locks seat (Page right)
  pub left_on : Contains (chain old.store) left
  pub right_on : Contains (chain old.store) right
  pub halves : AreHalvesOf whole (range_at old.store left) (range_at old.store right)
  pub small : used_on old.store left + used_on old.store right ≤ MERGED_BYTES
  pub changes : Restructures seat Quiet (write_left left right old.store) (Absorbed left right whole) old new

pub record WritesTombstone (seat : ℕ) (old new : World) : Type 0 where
  pub left : ℕ
  pub right : ℕ
  pub whole : Range
  pub owned : IsWriter old.locks seat (Page right)
  pub changes : Restructures seat (Absorbed left right whole) (write_tombstone left right old.store)
      (Buried left right whole) old new

-- from here on nobody else is in the directory, and at WriteFree nobody else on the page
pub record WritesFree (seat : ℕ) (old new : World) : Type 0 where
  pub left : ℕ
  pub right : ℕ
  pub alone : held old.locks seat Directory ≡ Some Exclusive
  pub drained : held old.locks seat (Page right) ≡ Some Exclusive
  pub changes : Restructures seat (Drained left right) (write_free right old.store) (Freed right) old new

pub record LinksFree (seat : ℕ) (old new : World) : Type 0 where
  pub right : ℕ
  pub alone : held old.locks seat Directory ≡ Some Exclusive
  pub changes : Restructures seat (Freed right) (link_free right old.store) Quiet old new

pub record LowersDepth (seat : ℕ) (old new : World) : Type 0 where
  pub alone : held old.locks seat Directory ≡ Some Exclusive
  pub deep : 0 < old.store.header.depth
  pub unused : count_at old.store old.store.header.depth ≡ 0
  pub changes : Restructures seat Quiet (lower_depth old.store) Quiet old new
