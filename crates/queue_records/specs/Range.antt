-- The limits that one record has to keep by itself (docs/FORMAT.md, "Records").
use Rattle.std.specs.Prelude.{ℕ, ◌<◌, ◌≤◌, ℤ, pos, ◌≤ℤ◌, IfSome, length}
use Rattle.numbers.specs.declared.limits.TheConstants.{MAX_QUEUES, MAX_MESSAGES, MAX_BODY, MAX_QBYTES, END_OF_IDS, MODES}
use Rattle.queue_records.specs.declared.counter.Counter.{Counter}
use Rattle.queue_records.specs.declared.key_entry.KeyEntry.{KeyEntry}
use Rattle.queue_records.specs.declared.queue_entry.QueueEntry.{QueueEntry}
use Rattle.queue_records.specs.declared.type_entry.TypeEntry.{TypeEntry}
use Rattle.queue_records.specs.declared.message_entry.MessageEntry.{MessageEntry}
use Rattle.queue_records.specs.declared.record.Record.{Record}
use Rattle.queue_records.specs.declared.record.Record.TheVariants as records

-- an id that a queue can have
pub record IsId (id : ℕ) : Type 0 where
  -- ids count from 1
  pub begun : 1 ≤ id
  -- and end
  pub below : id < END_OF_IDS

-- serials count from 1
abbrev pub IsSerial : ℕ → Type 0
IsSerial serial = 1 ≤ serial

-- types count from 1
abbrev pub IsType : ℤ → Type 0
IsType mtype = pos 1 ≤ℤ mtype

pub record IsCounterInRange (c : Counter) : Type 0 where
  -- the next id is no 0; past the last id it is the first number that is none
  pub next_id : 1 ≤ c.next_id
  -- as many queues as may be alive
  pub few_queues : c.queues_alive ≤ MAX_QUEUES

pub record IsKeyInRange (k : KeyEntry) : Type 0 where
  -- the queue's id is one
  pub id : IsId k.id

pub record IsQueueInRange (q : QueueEntry) : Type 0 where
  -- its id is one
  pub id : IsId q.id
  -- its limit is within that of all queues
  pub small_limit : q.qbytes ≤ MAX_QBYTES
  -- it has as many bytes as may stand on a queue
  pub few_bytes : q.cbytes ≤ MAX_QBYTES
  -- and as many messages
  pub few_messages : q.qnum ≤ MAX_MESSAGES
  -- the next message's serial is one
  pub next_serial : IsSerial q.next_serial
  -- as is the first message's
  pub first : IfSome q.first IsSerial
  -- and the last one's
  pub last : IfSome q.last IsSerial
  -- the lowest type is one
  pub lowest : IfSome q.lowest IsType
  -- the mode has nine bits
  pub mode : q.mode < MODES

pub record IsTypeInRange (t : TypeEntry) : Type 0 where
  -- the queue's id is one
  pub id : IsId t.id
  -- the type is one
  pub mtype : IsType t.mtype
  -- a message of it is on the queue: there is a first
  pub first : IsSerial t.first
  -- and a last
  pub last : IsSerial t.last
  -- the next lower type is one
  pub lower : IfSome t.lower IsType
  -- and so is the next higher
  pub higher : IfSome t.higher IsType

pub record IsMessageInRange (m : MessageEntry) : Type 0 where
  -- the queue's id is one
  pub id : IsId m.id
  -- the serial is one
  pub serial : IsSerial m.serial
  -- the type is one
  pub mtype : IsType m.mtype
  -- the message before it on the queue has a serial
  pub previous : IfSome m.previous IsSerial
  -- so has the one behind it
  pub next : IfSome m.next IsSerial
  -- and the next one of its type
  pub next_of_type : IfSome m.next_of_type IsSerial
  -- the body is short
  pub short : length m.body ≤ MAX_BODY

abbrev pub IsInRange : Record → Type 0
IsInRange (records.Counter c) = IsCounterInRange c
IsInRange (records.Key k) = IsKeyInRange k
IsInRange (records.Queue q) = IsQueueInRange q
IsInRange (records.Type t) = IsTypeInRange t
IsInRange (records.Message m) = IsMessageInRange m
