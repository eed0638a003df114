-- Which locks of the file a call holds at each of its places: the directory's, in which kind, and those of the pages of
-- the access under way. docs/STEPS.md, "Locks", "Insert, Replace, Delete".
use Rattle.std.specs.Prelude.{ℕ, ◌≡◌, [], Option, Some, None}
use Rattle.page_locks.specs.Locks.{kind_of}
use Rattle.page_locks.specs.declared.lock.LockKind.{LockKind}
use Rattle.page_locks.specs.declared.lock.LockKind.TheVariants.{Read, Selective, Exclusive}
use Rattle.page_locks.specs.declared.lock.LockName.TheVariants.{Directory, Page}
use Rattle.call_writes.specs.record_file.Deletes.{part}
use Rattle.call_writes.specs.record_file.declared.bucket_access.BucketStage.{BucketStage}
use Rattle.call_writes.specs.record_file.declared.bucket_access.BucketStage.TheVariants as stages
use Rattle.call_writes.specs.record_file.declared.insert.InsertStage.{InsertStage}
use Rattle.call_writes.specs.record_file.declared.insert.InsertStage.TheVariants as tries
use Rattle.call_writes.specs.record_file.declared.operation.RecordOperation.{RecordOperation}
use Rattle.call_writes.specs.record_file.declared.operation.RecordOperation.TheVariants as operations
use Rattle.call_writes.specs.record_file.declared.second_place.SecondPlace.{SecondPlace}
use Rattle.call_writes.specs.record_file.declared.second_place.SecondPlace.TheVariants as second
use Rattle.call_writes.specs.record_file.split_merge.declared.merge_place.MergePlace.{MergePlace}
use Rattle.call_writes.specs.record_file.split_merge.declared.merge_place.MergePlace.TheVariants as merge
use Rattle.call_writes.specs.record_file.stale_search.declared.place.ApproachPlace.{ApproachPlace}
use Rattle.call_writes.specs.record_file.stale_search.declared.place.ApproachPlace.TheVariants as approach
use Rattle.call_writes.specs.record_file.stale_search.declared.place.SearchPlace.{SearchPlace}
use Rattle.call_writes.specs.record_file.stale_search.declared.place.SearchPlace.TheVariants as search_at
use Rattle.call_writes.specs.record_file.AccessWords.{HasNoFileLock}
use Rattle.xsi_calls.specs.Machine.{CallView, access_under_way, call_locks}
use Rattle.call_writes.specs.Views.{locks_under}
use Rattle.call_writes.specs.WriteWords.{AccessView}

-- ---- the directory

-- a search holds it to read, until it has locked its page
abbrev pub search_directory : SearchPlace → Option LockKind
search_directory search_at.ReadDepth = Some Read
search_directory (search_at.ReadEntry depth) = Some Read
search_directory (search_at.GrantPage n) = Some Read
search_directory (search_at.ReleaseDirectory n) = Some Read
search_directory place = None

abbrev pub bucket_directory : BucketStage → SearchPlace → Option LockKind
bucket_directory stages.Searching place = search_directory place
bucket_directory stage place = None

-- who may change the structure holds it Selective
abbrev pub approach_directory : ApproachPlace → Option LockKind
approach_directory approach.GrantDirectory = None
approach_directory place = Some Selective

-- a second try, up to its end
abbrev pub second_directory : SecondPlace → Option LockKind
second_directory (second.Approaching a) = approach_directory a.place
second_directory (second.Ended tried) = None
second_directory place = Some Selective

-- a merge, from its Convert on Exclusive
abbrev pub merge_directory : MergePlace → ApproachPlace → Option LockKind
merge_directory merge.Approaching a = approach_directory a
merge_directory (merge.GrantAlone j) a = Some Exclusive
merge_directory (merge.WriteFree j) a = Some Exclusive
merge_directory (merge.LinkFree page) a = Some Exclusive
merge_directory (merge.LowerDepth page) a = Some Exclusive
merge_directory (merge.ReleaseAlone depth count) a = Some Exclusive
merge_directory merge.Done a = None
merge_directory place a = Some Selective

abbrev pub insert_directory : InsertStage → Option LockKind
insert_directory (tries.First t said) = bucket_directory t.stage t.search.place
insert_directory (tries.Second t) = second_directory t.place

abbrev pub operation_directory : RecordOperation → Option LockKind
operation_directory (operations.Find f) = bucket_directory f.stage f.search.place
operation_directory (operations.Insert i) = insert_directory i.stage
operation_directory (operations.Replace r) = bucket_directory r.stage r.search.place
operation_directory (operations.Delete d) =
    part d.removal.stage (bucket_directory d.removal.stage d.removal.search.place) None
    (merge_directory d.merge.place d.merge.approach.place)

-- who is at no access holds none
abbrev pub directory_under : Option AccessView → Option LockKind
directory_under None = None
directory_under (Some a) = operation_directory a.operation

-- ---- the pages

-- those of the access under way, as it says at each of its places, and none without one
abbrev pub page_under : Option AccessView → ℕ → Option LockKind
page_under access n = kind_of (locks_under access []) (Page n)

-- ---- the law

-- a call holds of the file exactly what its place asks for
pub record HoldsOfFile (m : CallView) : Type 0 where
  pub directory : kind_of (call_locks m) Directory ≡ directory_under (access_under_way m)
  pub pages : (n : ℕ) → kind_of (call_locks m) (Page n) ≡ page_under (access_under_way m) n

-- as its names are no locks of the file
abbrev pub HoldTheirFileLocks : Type 0
HoldTheirFileLocks = (m : CallView) → HasNoFileLock m.undecided.questions.names → HoldsOfFile m
