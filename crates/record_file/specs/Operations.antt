-- What an operation on a record is about, holds, knows and asks for: each as the machine of its kind says.
-- docs/STEPS.md, "Search" and "Insert, Replace, Delete".
use Rattle.std.specs.Prelude.{ℕ, ◌≡◌, Bool, true, false, List, [], Option, Some, None, IsSome, ⊤, unwrap_or}
use Rattle.record_file.specs.split_merge.declared.merge_place.MergePlace.TheVariants.{Approaching}
use Rattle.record_file.specs.stale_search.declared.place.ApproachPlace.TheVariants.{GrantDirectory as ToDirectory}
use Rattle.record_file.specs.Deletes.{IsOver as IsDeleteOver}
use Rattle.record_file.specs.BucketAccesses.{is_on_way, has_searched as bucket_has_searched}
use Rattle.record_file.specs.declared.bucket_access.Deed.TheVariants as deeds
use Rattle.record_file.specs.Inserts.{searches_in, IsOver as IsInsertOver}
use Rattle.record_file.specs.declared.insert.InsertStage.TheVariants.{First}
use Rattle.record_file.specs.OperationWords.{RecordKey, Lock, Store, contents, Known, Turn, Owns, IsFrontAt, SuitsKind, begun_access, bucket_facts, bucket_left, bucket_locks, bucket_turn, found_of, has_ended, with_front, delete_facts, delete_left, delete_locks, delete_turn, Tried, IsLent, insert_facts, insert_left, insert_locks, insert_turn, said_of, RecordOperation, Find, Insert, Replace, Delete}

-- ---- its beginning

abbrev pub begun_find : RecordKey → ℕ → RecordOperation
begun_find key k = Find (begun_access deeds.Find key k)

abbrev pub begun_insert : RecordKey → ℕ → RecordOperation
begun_insert key k =
    Insert (record { key = key; pseudokey = k; stage = First (begun_access deeds.Put key k) None })

abbrev pub begun_replace : RecordKey → ℕ → RecordOperation
begun_replace key k = Replace (begun_access deeds.Replace key k)

abbrev pub begun_delete : RecordKey → ℕ → RecordOperation
begun_delete key k = Delete (record {
  removal = begun_access deeds.Remove key k;
  merge = record {
    key = key;
    approach = record { pseudokey = k; place = ToDirectory };
    place = Approaching;
  };
})

-- ---- what it is about

abbrev pub operation_key : RecordOperation → RecordKey
operation_key (Find f) = f.search.key
operation_key (Insert i) = i.key
operation_key (Replace r) = r.search.key
operation_key (Delete d) = d.removal.search.key

abbrev pub operation_pseudokey : RecordOperation → ℕ
operation_pseudokey (Find f) = f.search.pseudokey
operation_pseudokey (Insert i) = i.pseudokey
operation_pseudokey (Replace r) = r.search.pseudokey
operation_pseudokey (Delete d) = d.removal.search.pseudokey

-- the pseudokey is that of its key
abbrev pub IsKeyed : (RecordKey → ℕ) → RecordOperation → Type 0
IsKeyed hash o = hash (operation_key o) ≡ operation_pseudokey o

-- ---- what it asks of its caller

-- as many bytes may be lent to it: to an insert, in its second try, as many as at the end of its first; to a replace,
-- as to one whose search locks pages to write them
abbrev pub MayBeLent : ℕ → RecordOperation → Type 0
MayBeLent bytes (Insert i) = IsLent bytes i.stage
MayBeLent bytes (Replace r) = SuitsKind deeds.Replace r.search.kind
MayBeLent bytes o = ⊤

-- the bytes that a replace writes are no more than the value has
abbrev pub SuitsFile : Store → RecordOperation → List ℕ → Type 0
SuitsFile s (Replace r) bytes = IsFrontAt s r.search.key bytes
SuitsFile s o bytes = ⊤

-- the lock of a record that is to be written is held exclusively; a find writes none
abbrev pub OwnsWritten : List Lock → RecordOperation → Type 0
OwnsWritten before (Find f) = ⊤
OwnsWritten before o = Owns before (operation_key o)

-- ---- locks, facts and turns

-- its locks, behind those that the seat had before
abbrev pub operation_locks : RecordOperation → List Lock → List Lock
operation_locks (Find f) before = bucket_locks f before
operation_locks (Insert i) before = insert_locks i before
operation_locks (Replace r) before = bucket_locks r before
operation_locks (Delete d) before = delete_locks d before

abbrev pub operation_facts : RecordOperation → List Known
operation_facts (Find f) = bucket_facts deeds.Find f
operation_facts (Insert i) = insert_facts i
operation_facts (Replace r) = bucket_facts deeds.Replace r
operation_facts (Delete d) = delete_facts d

-- where these bytes are lent
abbrev pub operation_turn : RecordOperation → List ℕ → Store → Turn
operation_turn (Find f) bytes s = bucket_turn deeds.Find f bytes s
operation_turn (Insert i) bytes s = insert_turn i bytes
operation_turn (Replace r) bytes s = bucket_turn deeds.Replace r bytes s
operation_turn (Delete d) bytes s = delete_turn d

-- what its WriteRecord leaves at its key
abbrev pub operation_writes : RecordOperation → List ℕ → Store → Option (List ℕ)
operation_writes (Find f) bytes s = contents s f.search.key
operation_writes (Insert i) bytes s = Some bytes
operation_writes (Replace r) bytes s = Some (with_front bytes (unwrap_or (contents s r.search.key) []))
operation_writes (Delete d) bytes s = None

-- the steps that are left, if no other seat steps
abbrev pub operation_left : RecordOperation → Store → ℕ
operation_left (Find f) s = bucket_left deeds.Find f s
operation_left (Insert i) s = insert_left i s
operation_left (Replace r) s = bucket_left deeds.Replace r s
operation_left (Delete d) s = delete_left d s

-- ---- what it tells, and its end

-- the page that answered, and the length of the key's value
abbrev pub operation_found : RecordOperation → Option (ℕ × Option ℕ)
operation_found (Find f) = found_of f
operation_found (Insert i) = None
operation_found (Replace r) = found_of r
operation_found (Delete d) = found_of d.removal

-- its search was granted the directory, and no page has answered it; a merge makes none
abbrev pub operation_searches : RecordOperation → Bool
operation_searches (Find f) = is_on_way f.search.place
operation_searches (Insert i) = searches_in i.stage
operation_searches (Replace r) = is_on_way r.search.place
operation_searches (Delete d) = is_on_way d.removal.search.place

-- what an insert has come to
abbrev pub operation_tried : RecordOperation → Option Tried
operation_tried (Insert i) = said_of i.stage
operation_tried o = None

-- the search of a replace or a delete is behind it; of the others this is not asked
abbrev pub has_searched : RecordOperation → Bool
has_searched (Find f) = false
has_searched (Insert i) = false
has_searched (Replace r) = bucket_has_searched r.stage
has_searched (Delete d) = bucket_has_searched d.removal.stage

-- it gave all its locks back
abbrev pub HasEnded : RecordOperation → Type 0
HasEnded (Find f) = has_ended f.stage ≡ true
HasEnded (Insert i) = IsInsertOver i.stage
HasEnded (Replace r) = has_ended r.stage ≡ true
HasEnded (Delete d) = IsDeleteOver d.removal.stage d.merge.place

-- an insert that has ended came to something
abbrev pub TriedAtEnd : RecordOperation → Type 0
TriedAtEnd (Insert i) = IsInsertOver i.stage → IsSome (said_of i.stage)
TriedAtEnd o = ⊤

-- a page has answered a find that has ended
abbrev pub FoundAtEnd : RecordOperation → Type 0
FoundAtEnd (Find f) = IsSome (found_of f)
FoundAtEnd o = ⊤
