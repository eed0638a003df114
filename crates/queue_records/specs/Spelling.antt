-- The key and the bytes of the value of each record (docs/FORMAT.md, "Records").
-- Fields stand in the order written.
use Rattle.std.specs.Prelude.{ℕ, List, [], ◌∷◌, ◌++◌}
use Rattle.bucket_page.specs.declared.record_key.RecordKey.{RecordKey}
use Rattle.bucket_page.specs.numbers.Numbers.{two, four, eight}
use Rattle.queue_records.specs.declared.layout.TheConstants.{COUNTER, KEY, QUEUE, TYPE, MESSAGE}
use Rattle.queue_records.specs.declared.counter.Counter.{Counter}
use Rattle.queue_records.specs.declared.key_entry.KeyEntry.{KeyEntry}
use Rattle.queue_records.specs.declared.queue_entry.QueueEntry.{QueueEntry}
use Rattle.queue_records.specs.declared.type_entry.TypeEntry.{TypeEntry}
use Rattle.queue_records.specs.declared.message_entry.MessageEntry.{MessageEntry}
use Rattle.queue_records.specs.declared.record.Record.{Record}
use Rattle.queue_records.specs.declared.record.Record.TheVariants as records
use Rattle.queue_records.specs.Fields.{serial_number, type_number, type_link_number, key_flag, key_number}

-- ---- keys

abbrev pub counter_key : RecordKey
counter_key = record { kind = COUNTER; queue = 0; number = 0 }

abbrev pub key_key : KeyEntry → RecordKey
key_key k = record { kind = KEY; queue = 0; number = k.key }

abbrev pub queue_key : QueueEntry → RecordKey
queue_key q = record { kind = QUEUE; queue = q.id; number = 0 }

abbrev pub type_key : TypeEntry → RecordKey
type_key t = record { kind = TYPE; queue = t.id; number = type_number t.mtype }

abbrev pub message_key : MessageEntry → RecordKey
message_key m = record { kind = MESSAGE; queue = m.id; number = m.serial }

abbrev pub key_of : Record → RecordKey
key_of (records.Counter c) = counter_key
key_of (records.Key k) = key_key k
key_of (records.Queue q) = queue_key q
key_of (records.Type t) = type_key t
key_of (records.Message m) = message_key m

-- ---- values

abbrev pub counter_bytes : Counter → List ℕ
counter_bytes c = four c.next_id ++ four c.queues_alive

abbrev pub key_entry_bytes : KeyEntry → List ℕ
key_entry_bytes k = four k.id

abbrev pub queue_bytes : QueueEntry → List ℕ
queue_bytes q =
    (key_flag q.key ∷ []) ++ four (key_number q.key)
    ++ four q.qbytes ++ four q.cbytes ++ four q.qnum
    ++ four q.lspid ++ four q.lrpid
    ++ eight q.stime ++ eight q.rtime ++ eight q.ctime
    ++ eight q.next_serial ++ eight (serial_number q.first) ++ eight (serial_number q.last)
    ++ eight (type_link_number q.lowest)
    ++ four q.uid ++ four q.gid ++ four q.cuid ++ four q.cgid ++ two q.mode

abbrev pub type_bytes : TypeEntry → List ℕ
type_bytes t =
    eight t.first ++ eight t.last
    ++ eight (type_link_number t.lower) ++ eight (type_link_number t.higher)

abbrev pub message_bytes : MessageEntry → List ℕ
message_bytes m =
    eight (type_number m.mtype) ++ four m.sender
    ++ eight (serial_number m.previous) ++ eight (serial_number m.next)
    ++ eight (serial_number m.next_of_type)
    ++ m.body

abbrev pub value_of : Record → List ℕ
value_of (records.Counter c) = counter_bytes c
value_of (records.Key k) = key_entry_bytes k
value_of (records.Queue q) = queue_bytes q
value_of (records.Type t) = type_bytes t
value_of (records.Message m) = message_bytes m
