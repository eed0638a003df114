-- A find, and a write, that are made in one go: their states. docs/STEPS.md, "Search".
use Rattle.std.specs.Prelude.{ℕ, ◌≡◌, List, [], ◌∷◌, ◌++◌, length, Option, Some, None, ⊤}
use Rattle.std.specs.Option.{option_map}
use Rattle.bucket_page.specs.Records.{lookup}
use Rattle.hash_file.specs.Store.{records_at}
use Rattle.record_file.specs.file_pages.declared.fault.FileFault.{FileFault}
use Rattle.record_file.specs.BucketRuns.{bucket_at, bucket_found, bucket_written}
use Rattle.record_file.specs.stale_search.SearchRuns.{At, HasNoLock, at, standing, way_to}
use Rattle.record_file.specs.stale_search.declared.place.SearchPlace.{SearchPlace}
use Rattle.record_file.specs.step_rules.Runs.{MovesAlong, Stop, stop, stops_in}
use Rattle.record_file.specs.step_rules.declared.kind.Kind.TheVariants as kinds
use Rattle.record_file.specs.OperationWords.{BucketView, RecordKey, PoolState, Table, Progress, RecordOperation, Find, Insert, Replace, Delete, store_of}
use Rattle.record_file.specs.BucketAccesses.{ended_in}
use Rattle.record_file.specs.Deletes.{IsRemoval}
use Rattle.record_file.specs.Inserts.{IsTry}
use Rattle.record_file.specs.declared.bucket_access.Deed.{Deed}
use Rattle.record_file.specs.declared.bucket_access.Deed.TheVariants as deeds
use Rattle.record_file.specs.declared.insert.InsertStage.{InsertStage}
use Rattle.record_file.specs.declared.insert.InsertStage.TheVariants.{First, Second}
use Rattle.record_file.specs.declared.tried.Tried.TheVariants.{IsPut}
use Rattle.record_file.specs.OperationSteps.{MakesOperation}
use Rattle.record_file.specs.Operations.{operation_key, operation_locks}

-- a step, at whatever pseudokeys, and whatever bytes are lent to it
abbrev pub OperationStep : ℕ → Progress FileFault → (old new : At RecordOperation) → Type 0
OperationStep seat did old new = (hash : RecordKey → ℕ) (bytes : List ℕ) →
    MakesOperation hash seat bytes did old.machine new.machine old.pool new.pool old.locks new.locks

abbrev pub IsFind : RecordOperation → Type 0
IsFind (Find f) = ⊤
IsFind o = ⊥

-- an insert whose first try searches, and is at this place; of a second one this is not asked
abbrev pub stage_at : SearchPlace → InsertStage → InsertStage
stage_at place (First t said) = First (bucket_at place t) said
stage_at place (Second t) = Second t

-- one whose search is at this place
abbrev pub operation_at : SearchPlace → RecordOperation → RecordOperation
operation_at place (Find f) = Find (bucket_at place f)
operation_at place (Insert i) = Insert (record i { stage = stage_at place i.stage })
operation_at place (Replace r) = Replace (bucket_at place r)
operation_at place (Delete d) = Delete (record d { removal = bucket_at place d.removal })

-- a find that has found, and given the page back
abbrev pub operation_done : ℕ → Option ℕ → RecordOperation → RecordOperation
operation_done page found (Find f) = Find (bucket_found page found f)
operation_done page found o = o

-- its states from where it has not begun, up to where its page answers
abbrev pub operation_way : ℕ → (page : ℕ) → Option ℕ → At RecordOperation → List (Stop (At RecordOperation))
operation_way seat page found old =
    stops_in
    (λ (place : SearchPlace). standing operation_locks seat old.pool old.locks (operation_at place old.machine))
    (way_to (store_of old.pool.images).header.depth page found)

-- and of a find, up to where it has given that page back
abbrev pub operation_stops : ℕ → (page : ℕ) → Option ℕ → At RecordOperation → List (Stop (At RecordOperation))
operation_stops seat page found old = operation_way seat page found old
    ++ stop kinds.Release (at (operation_done page found old.machine) old.pool old.locks) ∷ []

-- ---- a write

-- what is done at its record, in its first try of an insert
abbrev pub deed_of : RecordOperation → Deed
deed_of (Find f) = deeds.Find
deed_of (Insert i) = deeds.Put
deed_of (Replace r) = deeds.Replace
deed_of (Delete d) = deeds.Remove

-- an insert whose first try has put the record, and is this by now; of a second one this is not asked
abbrev pub stage_put : (BucketView → BucketView) → InsertStage → InsertStage
stage_put now (First t said) = First (now t) (Some IsPut)
stage_put now (Second t) = Second t

-- a write whose record is written, and whose access within a bucket is this by now
abbrev pub operation_put : (BucketView → BucketView) → RecordOperation → RecordOperation
operation_put now (Find f) = Find f
operation_put now (Insert i) = Insert (record i { stage = stage_put now i.stage })
operation_put now (Replace r) = Replace (now r)
operation_put now (Delete d) = Delete (record d { removal = now d.removal })

-- a write that has written the page that answered, and one that has given it back
abbrev pub operation_written : ℕ → (found : Option ℕ) → RecordOperation → RecordOperation
operation_written page found o = operation_put (bucket_written page found) o

abbrev pub operation_through : ℕ → (found : Option ℕ) → RecordOperation → RecordOperation
operation_through page found o = operation_put (bucket_found page found) o

-- the removal of a delete has not ended; of others this is not asked
abbrev pub IsBeforeMerge : RecordOperation → Type 0
IsBeforeMerge (Delete d) = ended_in d.removal.stage ≡ None
IsBeforeMerge o = ⊤

-- the access within a bucket by which a write goes to its page
abbrev pub IsBucketOf : BucketView → RecordOperation → Type 0
IsBucketOf b (Find f) = ⊥
IsBucketOf b (Insert i) = IsTry b i
IsBucketOf b (Replace r) = r ≡ b
IsBucketOf b (Delete d) = IsRemoval b d

-- the page has no record of the key of an insert; of others this is not asked
abbrev pub LacksKey : Option ℕ → RecordOperation → Type 0
LacksKey found (Insert i) = found ≡ None
LacksKey found o = ⊤

-- a write, which has no lock, goes straight to the page that answers, by these of its steps
pub record GoesToPage (seat page : ℕ) (found : Option ℕ) (o : RecordOperation) (pool : PoolState) (locks : Table)
    : Type 0 where
  pub bare : HasNoLock (operation_locks o)
  pub moves : MovesAlong (OperationStep seat) (at o pool locks) (operation_way seat page found (at o pool locks))

-- the page has of the key a value of this length, or none
abbrev pub HoldsLength : (page : ℕ) → Option ℕ → RecordOperation → PoolState → Type 0
HoldsLength page found o pool =
    found ≡ option_map length (lookup (operation_key o) (records_at (store_of pool.images) page))

-- it does where the page has what it then answers, and of the key of an insert nothing
abbrev pub OperationHeads : (seat page : ℕ) → RecordOperation → PoolState → Table → Type 0
OperationHeads seat page o pool locks = (found : Option ℕ) → HoldsLength page found o pool → LacksKey found o →
    GoesToPage seat page found o pool locks
