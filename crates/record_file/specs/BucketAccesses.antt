-- What an access within the bucket of a key holds, knows and asks for at each place, by its deed: a search, the
-- WriteRecord where the deed can be done, and the Release of the page. docs/STEPS.md, "Insert, Replace, Delete".
use Rattle.std.specs.Prelude.{ℕ, ◌≡◌, ◌≤◌, ◌+◌, ◌-◌, ◌&&◌, nat_le, Bool, true, false, List, [], ◌++◌, length, drop, Option, Some, None, IsSome, unwrap_or, ⊤}
use Rattle.std.specs.Option.{is_some}
use Rattle.bucket_page.specs.declared.layout.TheConstants.{RECORD_HEAD_BYTES, ROOM_BYTES}
use Rattle.step_rules.specs.declared.kind.TheConstants.{MERGED_BYTES}
use Rattle.split_merge.specs.stale_search.declared.place.SearchPlace.{SearchPlace}
use Rattle.split_merge.specs.stale_search.declared.place.SearchPlace.TheVariants.{Found, GrantDirectory}
use Rattle.split_merge.specs.stale_search.Searches.{ask_at}
use Rattle.record_file.specs.Words.{RecordKey, pair, contents, RecordWrite, Put, Replace, Remove, Lock, LockKind, Read, Selective, Store, Known, Ask, Turn, SearchView, search_locks, search_facts, found_at, steps_left, on_page}
use Rattle.record_file.specs.Writers.{Owns, seen_of}
use Rattle.record_file.specs.declared.bucket_access.BucketStage.{BucketStage}
use Rattle.record_file.specs.declared.bucket_access.BucketStage.TheVariants.{Searching, Written, Ended as HasEnded}
use Rattle.record_file.specs.declared.bucket_access.Deed.{Deed}
use Rattle.record_file.specs.declared.bucket_access.Deed.TheVariants as deeds

pub record BucketView : Type 0 where
  pub search : SearchView
  pub stage : BucketStage

-- ---- its stages

-- where it has ended, whether more is due behind it
abbrev pub ended_in : BucketStage → Option Bool
ended_in (HasEnded due) = Some due
ended_in stage = None

abbrev pub has_ended : BucketStage → Bool
has_ended stage = is_some (ended_in stage)

-- its search is behind it
abbrev pub has_searched : BucketStage → Bool
has_searched Searching = false
has_searched (Written n due) = true
has_searched (HasEnded due) = true

-- the page that answered, and the length of the key's value there
abbrev pub found_of : BucketView → Option (ℕ × Option ℕ)
found_of b = found_at b.search.place

-- its search was granted the directory, and no page has answered it
abbrev pub is_on_way : SearchPlace → Bool
is_on_way GrantDirectory = false
is_on_way (Found page found) = false
is_on_way place = true

-- what is always so of it
pub record IsBucketAccess (key : RecordKey) (search : SearchView) (stage : BucketStage) : Type 0 where
  pub key_is : search.key ≡ key
  -- a page has answered where its search is behind it
  pub answered : has_searched stage ≡ true → IsSome (found_at search.place)

-- ---- its deed

-- in which kind its search locks pages
abbrev pub kind_for : Deed → LockKind
kind_for deeds.Find = Read
kind_for deed = Selective

-- a deed that writes is done behind a search that locks pages Selective
abbrev pub SuitsKind : Deed → LockKind → Type 0
SuitsKind deeds.Find kind = ⊤
SuitsKind deed kind = kind ≡ Selective

abbrev pub begun_access : Deed → RecordKey → ℕ → BucketView
begun_access deed key k = record {
  search = record { key = key; pseudokey = k; kind = kind_for deed; place = GrantDirectory; hops = 0 };
  stage = Searching;
}

-- the value with these bytes at its front, as it was behind them
abbrev pub with_front : List ℕ → List ℕ → List ℕ
with_front front value = front ++ drop (length front) value

-- what it writes at the key, where these bytes are lent
abbrev pub write_of : Deed → RecordKey → List ℕ → Store → Option RecordWrite
write_of deeds.Find key bytes s = None
write_of deeds.Put key bytes s = Some (Put (pair key bytes))
write_of deeds.Replace key bytes s =
    Some (Replace (pair key (with_front bytes (unwrap_or (contents s key) []))))
write_of deeds.Remove key bytes s = Some (Remove key)

-- whether a value of so many bytes fits a bucket that has so many
abbrev pub has_room : (used bytes : ℕ) → Bool
has_room used bytes = nat_le bytes ROOM_BYTES
    && (nat_le used ROOM_BYTES && nat_le (used + (RECORD_HEAD_BYTES + bytes)) ROOM_BYTES)

-- whether a merge is due after the removal of a record with a value of so many bytes, from a bucket that had this depth
-- and so many bytes
abbrev pub is_due : (depth used bytes : ℕ) → Bool
is_due depth used bytes = nat_le 1 depth && nat_le (used - RECORD_HEAD_BYTES - bytes) MERGED_BYTES

-- ---- what it asks of its caller

-- the front is no longer than the value that the file holds
abbrev pub IsFrontAt : Store → RecordKey → List ℕ → Type 0
IsFrontAt s key front = (value : List ℕ) → contents s key ≡ Some value → length front ≤ length value

-- a replace: that the bytes are no more than the value has which the file holds at the key, and the pseudokey is
-- that of the key
abbrev pub SuitsFile : Deed → (RecordKey → ℕ) → Store → SearchView → List ℕ → Type 0
SuitsFile deeds.Replace hash s v bytes = (hash v.key ≡ v.pseudokey) × IsFrontAt s v.key bytes
SuitsFile deed hash s v bytes = ⊤

-- a deed that writes: that the pseudokey is that of the key, and the record's lock is among those that the seat had
-- before
abbrev pub OwnsWritten : Deed → (RecordKey → ℕ) → List Lock → SearchView → Type 0
OwnsWritten deeds.Find hash before v = ⊤
OwnsWritten deed hash before v = (hash v.key ≡ v.pseudokey) × Owns before v.key

-- ---- locks, facts and turns

-- its locks, behind those that the seat had before; two at most
abbrev pub locks_in : BucketStage → SearchView → List Lock → List Lock
locks_in Searching v before = search_locks v before
locks_in (Written n due) v before = on_page n v.kind before
locks_in (HasEnded due) v before = before

abbrev pub bucket_locks : BucketView → List Lock → List Lock
bucket_locks b before = locks_in b.stage b.search before

-- where it is to write, it knows also what it has seen of the page
abbrev pub seen_by : Deed → SearchView → List Known
seen_by deeds.Find v = search_facts v
seen_by deed v = seen_of v

abbrev pub facts_in : Deed → BucketStage → SearchView → List Known
facts_in deed Searching v = seen_by deed v
facts_in deed (Written n due) v = []
facts_in deed (HasEnded due) v = []

abbrev pub bucket_facts : Deed → BucketView → List Known
bucket_facts deed b = facts_in deed b.stage b.search

-- it asks for something while it searches
abbrev pub ask_in : BucketStage → SearchView → Option Ask
ask_in Searching v = ask_at v.place v.kind v.pseudokey
ask_in stage v = None

abbrev pub bucket_turn : Deed → BucketView → List ℕ → Store → Turn
bucket_turn deed b bytes s = record {
  ask = ask_in b.stage b.search;
  write = write_of deed b.search.key bytes s;
}

-- ---- the steps that are left, if no other seat steps

-- those behind the search: the WriteRecord, and the Release
abbrev pub steps_behind : Deed → ℕ
steps_behind deeds.Find = 1
steps_behind deed = 2

abbrev pub left_in : Deed → BucketStage → SearchView → Store → ℕ
left_in deed Searching v s = steps_left v s + steps_behind deed
left_in deed (Written n due) v s = 1
left_in deed (HasEnded due) v s = 0

abbrev pub bucket_left : Deed → BucketView → Store → ℕ
bucket_left deed b s = left_in deed b.stage b.search s
