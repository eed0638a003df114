-- One access to a record by the one seat of a file, on an honest device: begun, under way, ended.
-- docs/STEPS.md, "Insert, Replace, Delete".
use Rattle.std.specs.Prelude.{◌≡◌, ◌≢◌, ℕ, List, [], length, true, false, Option, Some, IsTrue}
use Rattle.bucket_page.specs.Records.{pair}
use Rattle.bucket_page.specs.declared.record_key.RecordKey.{RecordKey}
use Rattle.buffer_pool.specs.Pool.{PoolState}
use Rattle.file_pages.specs.Files.{IsFilePool, store_of}
use Rattle.hash_file.specs.Chain.{contents}
use Rattle.hash_file.specs.Change.{Change, Quiet}
use Rattle.hash_file.specs.Sound.{IsSoundFile}
use Rattle.page_locks.specs.Table.{Table}
use Rattle.queue_records.specs.Spelling.{key_of, value_of}
use Rattle.queue_records.specs.declared.record.Record.{Record}
use Rattle.record_file.specs.Accesses.{AccessView, Allows, Serves, access_facts, access_key, has_no_room}
use Rattle.record_file.specs.Operations.{IsKeyed}
use Rattle.record_file.specs.Purposes.{Purpose, ToInsert, StandsAt, aimed_at}
use Rattle.stale_search.specs.Steps.{Sees, world}
use Rattle.step_rules.specs.Rooms.{HasNoRoom}
use Rattle.step_rules.specs.Sound.{IsSoundWorld}

-- a sound file of which no change is under way
pub record IsAtRest (hash : RecordKey → ℕ) (pool : PoolState) : Type 0 where
  pub honest : IsTrue pool.honest
  pub file : IsFilePool pool
  pub sound : IsSoundFile hash (store_of pool.images) Quiet

-- at other keys it holds what it held
abbrev pub HoldsElse : RecordKey → (old new : List (List ℕ)) → Type 0
HoldsElse key old new = (other : RecordKey) → key ≢ other →
    contents (store_of new) other ≡ contents (store_of old) other

-- an access that has just begun, over what stands at its key
pub record IsBegun (hash : RecordKey → ℕ) (p : Purpose) (found : Option Record) (a : AccessView)
    (pool : PoolState) : Type 0 where
  pub serves : Serves p a
  pub keyed : IsKeyed hash a.operation
  pub facts : access_facts a ≡ []
  pub stands : StandsAt (store_of pool.images) (access_key a) found
  pub allows : Allows p a found
  pub room : has_no_room a ≡ false
  pub rest : IsAtRest hash pool

-- at a step of an insert its record had no room, in a file that held what it had held, but for that record
pub record Lacked (hash : RecordKey → ℕ) (r : Record) (old : PoolState) : Type 0 where
  pub images : List (List ℕ)
  pub locks : Table
  pub change : Change
  pub as_many : length images ≡ length old.images
  pub sound : IsSoundWorld hash (world images locks change)
  pub lacks : HasNoRoom hash (pair (key_of r) (value_of r)) (world images locks change)
  pub others : HoldsElse (key_of r) old.images images
  pub own : (value : List ℕ) → contents (store_of images) (key_of r) ≡ Some value → value_of r ≡ value

-- an access under way
pub record IsUnderWay (hash : RecordKey → ℕ) (p : Purpose) (old : PoolState) (a : AccessView) (pool : PoolState)
    (locks : Table) : Type 0 where
  pub serves : Serves p a
  pub keyed : IsKeyed hash a.operation
  pub change : Change
  pub sees : Sees hash 1 (access_facts a) pool locks change
  pub found : Option Record
  pub stands : StandsAt (store_of pool.images) (access_key a) found
  pub allows : Allows p a found
  pub others : HoldsElse (aimed_at p) old.images pool.images
  pub lacks : (r : Record) → p ≡ ToInsert r → has_no_room a ≡ true → Lacked hash r old

-- what one leaves that has ended
pub record IsLeft (hash : RecordKey → ℕ) (p : Purpose) (old : PoolState) (a : AccessView) (new : PoolState)
    : Type 0 where
  pub rest : IsAtRest hash new
  pub others : HoldsElse (aimed_at p) old.images new.images
  pub found : Option Record
  pub stands : StandsAt (store_of new.images) (aimed_at p) found
  pub allows : Allows p a found
  pub lacks : (r : Record) → p ≡ ToInsert r → has_no_room a ≡ true → Lacked hash r old
