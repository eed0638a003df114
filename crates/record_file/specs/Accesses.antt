-- An access to one record: what it is for, holds, knows, asks for and tells.
-- docs/STEPS.md, "Calls".
use Rattle.std.specs.Prelude.{ℕ, ◌≡◌, ◌≤◌, Bool, true, false, not, ◌&&◌, List, [], length, Option, Some, None, IsSome, if◌then◌else◌, ⊤}
use Rattle.record_file.specs.declared.operation.RecordOperation.TheVariants as operations
use Rattle.record_file.specs.stale_search.declared.place.SearchPlace.{SearchPlace}
use Rattle.record_file.specs.stale_search.declared.place.SearchPlace.TheVariants.{GrantDirectory}
use Rattle.queue_records.specs.declared.layout.TheConstants.{MAX_VALUE_BYTES}
use Rattle.record_file.specs.AccessWords.{RecordKey, Lock, Store, with_front, Known, Turn, found_of, Tried, IsFull, RecordOperation, MayBeLent, TellsNone, has_searched, begun_delete, begun_find, begun_insert, begun_replace, operation_facts, operation_found, operation_key, operation_left, operation_locks, operation_pseudokey, operation_searches, operation_tried, operation_turn, Links, Record, SpellsRecord, HasSuch, relinked, key_of, value_of, Write, Replace, Relink, Delete}
use Rattle.record_file.specs.Purposes.{Purpose, ToFind, ToInsert, ToWrite, CanBeOn, KeepsLimits, aimed_at}

pub record AccessView : Type 0 where
  pub operation : RecordOperation
  -- those that it sets, where it relinks
  pub links : Option Links
  -- the value that was found, or the bytes that are written: a value, or its front with new links
  pub bytes : List ℕ
  -- whether its WriteRecord was made
  pub written : Bool

-- what is always so of an access
pub record IsAccess (key : RecordKey) (len : ℕ) (o : RecordOperation) : Type 0 where
  -- its operation is one on its key
  pub key_is : operation_key o ≡ key
  pub within : len ≤ MAX_VALUE_BYTES
  -- as many bytes may be lent to it
  pub lent : MayBeLent len o

-- ---- its beginning

abbrev pub begun : Purpose → ℕ → AccessView
begun (ToFind key) k = record { operation = begun_find key k; links = None; bytes = []; written = false }
begun (ToInsert r) k =
    record { operation = begun_insert (key_of r) k; links = None; bytes = value_of r; written = false }
begun (ToWrite (Replace r)) k =
    record { operation = begun_replace (key_of r) k; links = None; bytes = value_of r; written = false }
begun (ToWrite (Relink key links)) k =
    record { operation = begun_replace key k; links = Some links; bytes = []; written = false }
begun (ToWrite (Delete key)) k =
    record { operation = begun_delete key k; links = None; bytes = []; written = false }

-- ---- what it is about

abbrev pub access_key : AccessView → RecordKey
access_key a = operation_key a.operation

abbrev pub access_pseudokey : AccessView → ℕ
access_pseudokey a = operation_pseudokey a.operation

abbrev pub IsOfKind : Purpose → RecordOperation → Type 0
IsOfKind (ToFind key) (operations.Find f) = ⊤
IsOfKind (ToInsert r) (operations.Insert i) = ⊤
IsOfKind (ToWrite (Replace r)) (operations.Replace o) = ⊤
IsOfKind (ToWrite (Relink key links)) (operations.Replace o) = ⊤
IsOfKind (ToWrite (Delete key)) (operations.Delete d) = ⊤
IsOfKind p o = ⊥

abbrev pub links_of : Purpose → Option Links
links_of (ToWrite (Relink key links)) = Some links
links_of p = None

-- a value that is written whole is lent from the beginning on
abbrev pub HasValue : Purpose → List ℕ → Type 0
HasValue (ToInsert r) bytes = bytes ≡ value_of r
HasValue (ToWrite (Replace r)) bytes = bytes ≡ value_of r
HasValue p bytes = ⊤

-- it is for this
pub record Serves (p : Purpose) (a : AccessView) : Type 0 where
  pub kind : IsOfKind p a.operation
  pub key : access_key a ≡ aimed_at p
  pub links : a.links ≡ links_of p
  pub value : HasValue p a.bytes
  pub limits : KeepsLimits p

-- ---- locks, facts and turns

-- its locks, behind those that the seat had before
abbrev pub access_locks : AccessView → List Lock → List Lock
access_locks a before = operation_locks a.operation before

abbrev pub access_facts : AccessView → List Known
access_facts a = operation_facts a.operation

abbrev pub access_turn : AccessView → Store → Turn
access_turn a s = operation_turn a.operation a.bytes s

-- the steps that are left, if no other seat steps
abbrev pub access_left : AccessView → Store → ℕ
access_left a s = operation_left a.operation s

-- ---- its beginning is behind it

-- the directory was granted to the search
abbrev pub is_past_grant : SearchPlace → Bool
is_past_grant GrantDirectory = false
is_past_grant place = true

-- of others than finds this is not asked
abbrev pub set_out_in : RecordOperation → Bool
set_out_in (operations.Find f) = is_past_grant f.search.place
set_out_in o = true

-- the search of a find has begun
abbrev pub has_set_out : AccessView → Bool
has_set_out a = set_out_in a.operation

-- its search was granted the directory, and no page has answered it
abbrev pub access_searches : AccessView → Bool
access_searches a = operation_searches a.operation

-- that of the access under way, if there is one
abbrev pub searches_under : Option AccessView → Bool
searches_under None = false
searches_under (Some a) = access_searches a

-- ---- what it tells

-- of a find, the page that answered, and the length of the value there
abbrev pub answer_in : RecordOperation → Option (ℕ × Option ℕ)
answer_in (operations.Find f) = found_of f
answer_in o = None

abbrev pub access_answer : AccessView → Option (ℕ × Option ℕ)
access_answer a = answer_in a.operation

-- a value of this length stands at the key, and the record that it spells is this; or nothing stands there
abbrev pub IsRecordOf : Option ℕ → RecordKey → List ℕ → Option Record → Type 0
IsRecordOf None key bytes None = ⊤
IsRecordOf (Some len) key bytes (Some r) = SpellsRecord r key bytes
IsRecordOf len key bytes found = ⊥

abbrev pub IsToldIn : Option (ℕ × Option ℕ) → RecordKey → List ℕ → Option Record → Type 0
IsToldIn None key bytes found = ⊥
IsToldIn (Some at) key bytes found = IsRecordOf at.1 key bytes found

-- a find has found this
abbrev pub HasFound : AccessView → Option Record → Type 0
HasFound a found = IsToldIn (access_answer a) (access_key a) a.bytes found

abbrev pub is_full : Option Tried → Bool
is_full (Some IsFull) = true
is_full tried = false

-- an insert has found no room, and has written nothing
abbrev pub has_no_room : AccessView → Bool
has_no_room a = is_full (operation_tried a.operation) && not a.written

-- ---- what stands at its key allows what it is still to do

-- the front of the record's value with the links set in it
pub record IsFrontOf (links : Links) (bytes : List ℕ) (r : Record) : Type 0 where
  pub within : length bytes ≤ length (value_of r)
  pub made : with_front bytes (value_of r) ≡ value_of (relinked links r)

-- of a relink: until a page answers it lends no byte, and then the front
abbrev pub IsPrepared : Option (ℕ × Option ℕ) → Links → List ℕ → Option Record → Type 0
IsPrepared None links bytes found = bytes ≡ []
IsPrepared (Some at) links bytes found = (r : Record) → found ≡ Some r → IsFrontOf links bytes r

-- what stands there can be changed so, and what was prepared of it is right
abbrev pub FitsWrite : Write → AccessView → Option Record → Type 0
FitsWrite (Replace r) a found = CanBeOn (Replace r) found
FitsWrite (Relink key links) a found =
    HasSuch links found × IsPrepared (operation_found a.operation) links a.bytes found
FitsWrite (Delete key) a found = a.written ≡ false → IsSome found

-- it is still to write: its search goes on, and no page has told that nothing stands there
pub record IsToWrite (o : RecordOperation) : Type 0 where
  pub searches : has_searched o ≡ false
  pub told : TellsNone (operation_found o) → ⊥

pub record AllowsWrite (write : Write) (a : AccessView) (found : Option Record) : Type 0 where
  pub fits : FitsWrite write a found
  -- after its search it has written
  pub due : a.written ≡ false → IsToWrite a.operation

-- an insert that has written nothing came to nothing else than no room
abbrev pub CameTo : Option Tried → Bool → Type 0
CameTo None written = ⊤
CameTo (Some tried) written = written ≡ false → is_full (Some tried) ≡ true

pub record AllowsInsert (r : Record) (a : AccessView) (found : Option Record) : Type 0 where
  -- the record stands there where it was written, and nothing else does
  pub stands : found ≡ (if a.written then Some r else None)
  pub came_to : CameTo (operation_tried a.operation) a.written

abbrev pub Allows : Purpose → AccessView → Option Record → Type 0
Allows (ToFind key) a found = ⊤
Allows (ToInsert r) a found = AllowsInsert r a found
Allows (ToWrite write) a found = AllowsWrite write a found
