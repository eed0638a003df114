-- What is so of a new file while the one seat puts the records of a system into it, on an honest device.
-- docs/FORMAT.md, "Records"; docs/STEPS.md, "Insert, Replace, Delete".
use Rattle.std.specs.Prelude.{◌≡◌, ◌≢◌, ◌⊎◌, ◌+◌, ◌*◌, ◌≤◌, ℕ, List, Option, Some, None, IfSome, ⊤}
use Rattle.std.specs.List.{Contains}
use Rattle.bucket_page.specs.declared.record_key.RecordKey.{RecordKey}
use Rattle.buffer_pool.specs.Pool.{PoolState}
use Rattle.file_pages.specs.Files.{store_of}
use Rattle.hash_file.specs.Chain.{contents}
use Rattle.lone_access.specs.OneAccess.{HoldsElse, IsAtRest, Lacked}
use Rattle.queue_model.specs.Lawful.{IsLawful}
use Rattle.queue_model.specs.State.{State}
use Rattle.queue_model.specs.declared.queue.Queue.{Queue}
use Rattle.queue_records.specs.Spelling.{counter_key, key_of, value_of}
use Rattle.queue_records.specs.declared.type_entry.TypeEntry.{TypeEntry}
use Rattle.queue_records.specs.declared.record.Record.{Record}
use Rattle.queue_records.specs.declared.record.Record.TheVariants as records
use Rattle.record_file.specs.Files.{new_counter}
use Rattle.record_file.specs.Purposes.{StandsAt}
use Rattle.type_chains.specs.Image.{image, queue_records, type_records}
use Rattle.migration.specs.Rooms.{IsOfSystem, IsToldOfNew}
use Rattle.migration.specs.declared.fault.MakingFault.{MakingFault}
use Rattle.migration.specs.declared.fault.MakingFault.TheVariants as makings

-- what the file of a pool holds at a key
abbrev pub held_in : PoolState → RecordKey → Option (List ℕ)
held_in pool key = contents (store_of pool.images) key

-- ---- one record

-- the record was put, if one stands at its key
pub record Puts (hash : RecordKey → ℕ) (r : Record) (old new : PoolState) : Type 0 where
  pub rest : IsAtRest hash new
  pub others : HoldsElse (key_of r) old.images new.images
  pub own : (value : List ℕ) → held_in new (key_of r) ≡ Some value → value_of r ≡ value

-- an access tells the device's fault alone
abbrev pub MayNotWrite : MakingFault → Type 0
MayNotWrite (makings.Device fault) = ⊤
MayNotWrite (makings.Pool fault) = ⊤
MayNotWrite makings.NoRoom = ⊥
MayNotWrite makings.NoMemory = ⊤
MayNotWrite (makings.Wrong fault) = ⊤
MayNotWrite makings.Failed = ⊥

-- and an insert that its record has no room
abbrev pub MayNotPut : (RecordKey → ℕ) → Record → PoolState → MakingFault → Type 0
MayNotPut hash r old (makings.Device fault) = ⊤
MayNotPut hash r old (makings.Pool fault) = ⊤
MayNotPut hash r old makings.NoRoom = Lacked hash r old
MayNotPut hash r old makings.NoMemory = ⊤
MayNotPut hash r old (makings.Wrong fault) = ⊤
MayNotPut hash r old makings.Failed = ⊥

-- ---- all records

-- the Counter of a new file stands there
abbrev pub HasCounter : PoolState → Type 0
HasCounter pool = StandsAt (store_of pool.images) counter_key (Some (records.Counter new_counter))

-- but for that Counter, the file holds nothing but records of the system
pub record IsPart (hash : RecordKey → ℕ) (s : State) (pool : PoolState) : Type 0 where
  pub rest : IsAtRest hash pool
  pub counter : HasCounter pool
  pub just : (key : RecordKey) (value : List ℕ) → held_in pool key ≡ Some value →
      (counter_key ≡ key) ⊎ IsOfSystem s key value

-- a new file: nothing else stands there
pub record IsNew (hash : RecordKey → ℕ) (pool : PoolState) : Type 0 where
  pub rest : IsAtRest hash pool
  pub counter : HasCounter pool
  pub none : (key : RecordKey) → counter_key ≢ key → held_in pool key ≡ None

-- nothing stands at the keys of a queue
abbrev pub LacksQueue : Queue → PoolState → Type 0
LacksQueue q pool = (r : Record) → Contains (queue_records q) r → held_in pool (key_of r) ≡ None

pub record IsOpen (hash : RecordKey → ℕ) (s : State) (q : Queue) (pool : PoolState) : Type 0 where
  pub part : IsPart hash s pool
  pub lacks : LacksQueue q pool

-- the place of a record in the order in which those of a queue are put
abbrev pub turn_of : Record → ℕ
turn_of (records.Counter c) = 0
turn_of (records.Key k) = 0
turn_of (records.Queue q) = 1
turn_of (records.Type t) = 2 + 2 * t.first
turn_of (records.Message m) = 3 + 2 * m.serial

-- those of a queue are put, up to this turn: nothing stands at the keys of the others
pub record IsFilling (hash : RecordKey → ℕ) (s : State) (q : Queue) (turn : ℕ) (old pool : PoolState) : Type 0 where
  pub part : IsPart hash s pool
  pub lacks : (r : Record) → Contains (queue_records q) r → turn ≤ turn_of r → held_in pool (key_of r) ≡ None
  pub others : (r : Record) → Contains (image s) r → (Contains (queue_records q) r → ⊥) →
      held_in pool (key_of r) ≡ held_in old (key_of r)

-- the Type of a type may be put that a message of this serial is the first of
pub record IsToPut (hash : RecordKey → ℕ) (s : State) (q : Queue) (turn : ℕ) (start : PoolState)
    (entry : Option TypeEntry) (serial : ℕ) (pool : PoolState) : Type 0 where
  pub lawful : IsLawful s
  pub stands : Contains s.queues q
  pub its : IfSome entry (λ (e : TypeEntry). Contains (type_records q) (records.Type e))
  pub filling : IsFilling hash s q turn start pool
  pub before : turn ≤ 2 + 2 * serial

-- the records of a queue were put: at the keys of others stands what stood there
pub record HoldsOnly (hash : RecordKey → ℕ) (s : State) (q : Queue) (old new : PoolState) : Type 0 where
  pub part : IsPart hash s new
  pub others : (r : Record) → Contains (image s) r → (Contains (queue_records q) r → ⊥) →
      held_in new (key_of r) ≡ held_in old (key_of r)

-- what the records of a system may come to in so many pages
abbrev pub MayNotFill : (RecordKey → ℕ) → ℕ → State → MakingFault → Type 0
MayNotFill hash pages s fault = IsToldOfNew hash pages (λ (t : State). t ≡ s) fault
