-- One schedule, worked by hand, in which each of the 21 kinds of step comes: a bucket is split beside a search that
-- stands on it, a record is put and another removed, and the two halves are merged again. Keys are numbers, and a key's
-- pseudokey is its number.
use Rattle.std.specs.Prelude.{ℕ, ◌≡◌, List, [], ◌∷◌, ◌++◌, map, replicate, take, Some, None}
use Rattle.std.specs.List.{Contains}
use Rattle.directory.specs.Ranges.{whole_range, upper_half_of}
use Rattle.bucket_page.specs.declared.page.PageKind.TheVariants as kinds
use Rattle.bucket_page.specs.Bucket.{bucket}
use Rattle.bucket_page.specs.Records.{Pair, pair}
use Rattle.page_locks.specs.declared.lock.Lock.{Lock}
use Rattle.page_locks.specs.declared.lock.LockKind.TheVariants.{Read, Selective, Exclusive}
use Rattle.page_locks.specs.declared.lock.LockKind.{LockKind}
use Rattle.page_locks.specs.declared.lock.LockName.TheVariants.{Queue, Directory, Page}
use Rattle.page_locks.specs.Locks.{lock_of}
use Rattle.hash_file.specs.Store.{Store}
use Rattle.hash_file.specs.Change.{Change, Quiet}
use Rattle.hash_file.specs.Changes.{Put, Remove, write_record, take_page, copy_directory, raise_depth, write_new, write_old, retarget, set_counts, split_counts, merge_counts, write_left, write_tombstone, write_free, link_free, lower_depth}
use Rattle.hash_file.specs.Examples.{number_of, key, numbers_at}
use Rattle.step_rules.specs.declared.kind.Kind.{Kind}
use Rattle.step_rules.specs.declared.kind.Kind.TheVariants as steps
use Rattle.step_rules.specs.World.{World}
use Rattle.step_rules.specs.Turns.{ForLock, HopFrom, ToExclusive, Turn, no_ask, asks}
use Rattle.step_rules.specs.Laws.{Move, LeadAlong}

-- ---- the file

abbrev pub record_of : ℕ → ℕ → Pair
record_of n bytes = pair (key n) (replicate bytes 0)

-- four pages from the root on; the one bucket holds records of 1,000 and 3,000 bytes
abbrev pub first : Store
first = record {
  layout = record { root = 257; greatest = 3 };
  header = record { depth = 0; pages = 261; first_free = 258; counts = 1 ∷ 0 ∷ 0 ∷ 0 ∷ [] };
  entries = 257 ∷ replicate 7 0;
  pages = replicate 257 (kinds.Free 0)
      ++ kinds.Bucket (bucket 0 0 0 (record_of 0 1000 ∷ record_of 1 3000 ∷ []))
      ∷ kinds.Free 259 ∷ kinds.Free 260 ∷ kinds.Free 0 ∷ [];
}

-- a record of 200 bytes, for which there is no room
abbrev pub third : Pair
third = record_of 3 200

abbrev pub taken : Store
taken = take_page first

abbrev pub copied : Store
copied = copy_directory 1 taken

abbrev pub raised : Store
raised = raise_depth copied

abbrev pub filled : Store
filled = write_new number_of 257 258 raised

abbrev pub linked : Store
linked = write_old number_of 257 258 filled

abbrev pub retargeted : Store
retargeted = retarget 1 (upper_half_of whole_range) 258 linked

abbrev pub split : Store
split = set_counts (split_counts 0 retargeted.header.counts) retargeted

abbrev pub with_third : Store
with_third = write_record 258 (Put third) split

abbrev pub without_first : Store
without_first = write_record 258 (Remove (key 1)) with_third

abbrev pub absorbed : Store
absorbed = write_left 257 258 without_first

abbrev pub buried : Store
buried = write_tombstone 257 258 absorbed

abbrev pub named : Store
named = retarget 1 (upper_half_of whole_range) 257 buried

abbrev pub drained : Store
drained = set_counts (merge_counts 0 named.header.counts) named

abbrev pub freed : Store
freed = write_free 258 drained

abbrev pub merged : Store
merged = link_free 258 freed

abbrev pub halved : Store
halved = lower_depth merged

-- ---- the world: a file, the locks of seats 1 and 2, and a phase

abbrev pub world : Store → List Lock → List Lock → Change → World
world s one two change = record { store = s; locks = one ∷ two ∷ []; change = change }

-- the queue that seat 1 holds throughout, and what it has besides
abbrev pub beside_queue : List Lock → List Lock
beside_queue locks = lock_of (Queue 0) Exclusive ∷ locks

abbrev pub in_directory : LockKind → List Lock
in_directory kind = lock_of Directory kind ∷ []

abbrev pub on_page : ℕ → LockKind → List Lock
on_page page kind = lock_of (Page page) kind ∷ []

-- ---- the schedule

abbrev pub insert : Turn
insert = record { ask = None; write = Some (Put third) }

abbrev pub delete : Turn
delete = record { ask = None; write = Some (Remove (key 1)) }

abbrev pub move : ℕ → Turn → Kind → Move
move seat turn kind = record { seat = seat; turn = turn; kind = kind }

abbrev pub schedule : List Move
schedule =
    move 2 (asks (ForLock Directory Read)) steps.Grant
    ∷ move 2 no_ask steps.ReadDepth
    ∷ move 2 no_ask steps.ReadEntry
    ∷ move 2 (asks (ForLock (Page 257) Read)) steps.Grant
    ∷ move 2 no_ask steps.Release
    ∷ move 1 (asks (ForLock (Queue 0) Exclusive)) steps.Grant
    ∷ move 1 (asks (ForLock Directory Selective)) steps.Grant
    ∷ move 1 (asks (ForLock (Page 257) Selective)) steps.Grant
    ∷ move 1 no_ask steps.Look
    ∷ move 1 insert steps.TakePage
    ∷ move 1 insert steps.CopyDirectory
    ∷ move 1 insert steps.RaiseDepth
    ∷ move 1 insert steps.WriteNew
    ∷ move 1 insert steps.WriteOld
    ∷ move 2 (asks (HopFrom 257 1)) steps.Hop
    ∷ move 1 insert steps.Retarget
    ∷ move 1 insert steps.SetCounts
    ∷ move 2 no_ask steps.Release
    ∷ move 1 (asks (HopFrom 257 3)) steps.Hop
    ∷ move 1 insert steps.WriteRecord
    ∷ move 1 no_ask steps.Decide
    ∷ move 1 delete steps.WriteRecord
    ∷ move 1 no_ask steps.Release
    ∷ move 1 (asks (ForLock (Page 257) Selective)) steps.Grant
    ∷ move 1 (asks (ForLock (Page 258) Selective)) steps.Grant
    ∷ move 1 delete steps.WriteLeft
    ∷ move 1 delete steps.Tombstone
    ∷ move 1 delete steps.Retarget
    ∷ move 1 delete steps.SetCounts
    ∷ move 1 no_ask steps.Release
    ∷ move 1 no_ask steps.Release
    ∷ move 1 (asks ToExclusive) steps.Convert
    ∷ move 1 (asks (ForLock (Page 258) Exclusive)) steps.Grant
    ∷ move 1 delete steps.WriteFree
    ∷ move 1 delete steps.LinkFree
    ∷ move 1 delete steps.LowerDepth
    ∷ move 1 no_ask steps.Release
    ∷ move 1 no_ask steps.Release
    ∷ move 1 no_ask steps.Release ∷ []

abbrev pub start : World
start = world first [] [] Quiet

abbrev pub finish : World
finish = world halved [] [] Quiet

pub record AllKindsCome : Type 0 where
  -- each turn is allowed in the world that the ones before it made
  pub allowed : LeadAlong number_of schedule start finish
  -- and every kind is among them
  pub each : (kind : Kind) → Contains (map (λ (m : Move). m.kind) schedule) kind
  -- the split parted the records, and the merge joined them
  pub lower : numbers_at with_third 257 ≡ 0 ∷ []
  pub upper : numbers_at with_third 258 ≡ 1 ∷ 3 ∷ []
  pub entries : take 2 split.entries ≡ 257 ∷ 258 ∷ []
  pub left : numbers_at halved 257 ≡ 0 ∷ 3 ∷ []
  pub depth : halved.header.depth ≡ 0
  pub counts : halved.header.counts ≡ 1 ∷ 0 ∷ 0 ∷ 0 ∷ []
  pub free : halved.header.first_free ≡ 258
