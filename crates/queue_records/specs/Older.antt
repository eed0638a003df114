-- Values of version 1: a Queue's ends with its lowest type, and no other differs (docs/FORMAT.md, "Version 1").
use Rattle.std.specs.Prelude.{◌≡◌, ℕ, ◌==◌, List, [], ◌∷◌, ◌++◌, if◌then◌else◌, ⊤}
use Rattle.bucket_page.specs.declared.record_key.RecordKey.{RecordKey}
use Rattle.bucket_page.specs.numbers.Numbers.{two, four, eight}
use Rattle.queue_records.specs.declared.layout.TheConstants.{OLDER_MODE, QUEUE}
use Rattle.queue_records.specs.declared.queue_entry.QueueEntry.{QueueEntry}
use Rattle.queue_records.specs.declared.record.Record.{Record}
use Rattle.queue_records.specs.declared.record.Record.TheVariants as records
use Rattle.queue_records.specs.Fields.{serial_number, type_link_number, key_flag, key_number}
use Rattle.queue_records.specs.Records.{SpellsRecord}
use Rattle.queue_records.specs.Spelling.{value_of}

-- ---- read as one of today's

-- what an older Queue's value lacks: owner and creator are user 0 of group 0, and all may read and write
abbrev pub older_end : List ℕ
older_end = four 0 ++ four 0 ++ four 0 ++ four 0 ++ two OLDER_MODE

-- an older value as one of today's
abbrev pub as_today : RecordKey → List ℕ → List ℕ
as_today key value = if key.kind == QUEUE then value ++ older_end else value

-- the key and the older value are those of this record
abbrev pub SpellsOlder : Record → RecordKey → List ℕ → Type 0
SpellsOlder r key value = SpellsRecord r key (as_today key value)

-- ---- the one spelling

-- a queue's owners and mode are those that each older one has
pub record IsOlderQueue (q : QueueEntry) : Type 0 where
  pub uid : q.uid ≡ 0
  pub gid : q.gid ≡ 0
  pub cuid : q.cuid ≡ 0
  pub cgid : q.cgid ≡ 0
  pub mode : q.mode ≡ OLDER_MODE

-- the record can stand in a file of version 1
abbrev pub IsOlder : Record → Type 0
IsOlder (records.Counter c) = ⊤
IsOlder (records.Key k) = ⊤
IsOlder (records.Queue q) = IsOlderQueue q
IsOlder (records.Type t) = ⊤
IsOlder (records.Message m) = ⊤

abbrev pub older_queue_bytes : QueueEntry → List ℕ
older_queue_bytes q =
    (key_flag q.key ∷ []) ++ four (key_number q.key)
    ++ four q.qbytes ++ four q.cbytes ++ four q.qnum
    ++ four q.lspid ++ four q.lrpid
    ++ eight q.stime ++ eight q.rtime ++ eight q.ctime
    ++ eight q.next_serial ++ eight (serial_number q.first) ++ eight (serial_number q.last)
    ++ eight (type_link_number q.lowest)

abbrev pub older_value_of : Record → List ℕ
older_value_of (records.Counter c) = value_of (records.Counter c)
older_value_of (records.Key k) = value_of (records.Key k)
older_value_of (records.Queue q) = older_queue_bytes q
older_value_of (records.Type t) = value_of (records.Type t)
older_value_of (records.Message m) = value_of (records.Message m)
