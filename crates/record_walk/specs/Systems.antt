-- Queues and systems of which all records stand.
use Rattle.std.specs.Prelude.{◌≡◌, ◌≢◌, ℕ, ◌<◌, false, List, length, map, Option, None, slice_index, slice_index_or}
use Rattle.std.specs.List.{All, AllPairs, Contains}
use Rattle.record_walk.specs.Words.{RecordKey, Queue, QueueEntry, State, IsLawful, IsLawfulQueue, Message, first_of, serials, image, key_records, queue_entry, type_records, message_records, key_of_queue}
use Rattle.queue_records.specs.declared.record.Record.TheVariants as records
use Rattle.record_walk.specs.Held.{Holds}

-- a lawful queue of which all records stand
pub record HasQueue (held : RecordKey → Option (List ℕ)) (q : Queue) : Type 0 where
  pub lawful : IsLawfulQueue q
  pub key : All (Holds held) (key_records q)
  pub queue : Holds held (records.Queue (queue_entry q))
  pub types : All (Holds held) (type_records q)
  pub messages : All (Holds held) (message_records q)

-- the queue of an id; no other has it
pub record IsQueueOf (held : RecordKey → Option (List ℕ)) (id : ℕ) (q : Queue) : Type 0 where
  pub has : HasQueue held q
  pub its : q.id ≡ id
  pub only : (other : Queue) → HasQueue held other → other.id ≡ id → other ≡ q

-- there is no queue of an id
abbrev pub IsNoQueueOf : (RecordKey → Option (List ℕ)) → ℕ → Type 0
IsNoQueueOf held id = (q : Queue) → HasQueue held q → q.id ≡ id → ⊥

-- a system of which all records stand, and to whose queues all Queue records belong
pub record HasSystem (held : RecordKey → Option (List ℕ)) (s : State) : Type 0 where
  pub lawful : IsLawful s
  -- whether it is stopped stands in no record
  pub running : s.stopped ≡ false
  pub stand : All (Holds held) (image s)
  pub queues : (id : ℕ) → held (key_of_queue id) ≢ None → Contains (map (λ (q : Queue). q.id) s.queues) id

-- these are the messages of each queue of an id whose first message has this serial
abbrev pub IsWalkOf : (RecordKey → Option (List ℕ)) → ℕ → Option ℕ → List Message → Type 0
IsWalkOf held id first ms =
    (q : Queue) → HasQueue held q → q.id ≡ id → first ≡ first_of (serials q.messages) → ms ≡ q.messages

-- there is no such queue
abbrev pub IsNoWalkOf : (RecordKey → Option (List ℕ)) → ℕ → Option ℕ → Type 0
IsNoWalkOf held id first =
    (q : Queue) → HasQueue held q → q.id ≡ id → first ≡ first_of (serials q.messages) → ⊥

-- the queue of an id that a Queue tells of, with these messages
abbrev pub queue_in : QueueEntry → ℕ → List Message → Queue
queue_in e id ms = record {
  id = id;
  key = e.key;
  permissions = record { uid = e.uid; gid = e.gid; cuid = e.cuid; cgid = e.cgid; mode = e.mode };
  qbytes = e.qbytes;
  lspid = e.lspid;
  lrpid = e.lrpid;
  stime = e.stime;
  rtime = e.rtime;
  ctime = e.ctime;
  next_serial = e.next_serial;
  messages = ms;
}

-- ---- all queues

-- these are the ids of all Queues, in ascending order
pub record AreQueueIds (held : RecordKey → Option (List ℕ)) (ids : List ℕ) : Type 0 where
  pub ascend : AllPairs (λ (a b : ℕ). a < b) ids
  pub all : (id : ℕ) → held (key_of_queue id) ≢ None → Contains ids id
  pub only : (id : ℕ) → Contains ids id → held (key_of_queue id) ≢ None

-- these are the queues of these ids, one for each
pub record AreQueuesOf (held : RecordKey → Option (List ℕ)) (ids : List ℕ) (qs : List Queue) : Type 0 where
  pub number : length qs ≡ length ids
  pub each : (i : ℕ) (d : Queue) → i < length ids → IsQueueOf held (slice_index ids i) (slice_index_or qs i d)

-- the one system that the records have
pub record IsSystemOf (held : RecordKey → Option (List ℕ)) (s : State) : Type 0 where
  pub has : HasSystem held s
  pub only : (other : State) → HasSystem held other → other ≡ s

-- there is no system
abbrev pub HasNoSystem : (RecordKey → Option (List ℕ)) → Type 0
HasNoSystem held = (s : State) → HasSystem held s → ⊥
