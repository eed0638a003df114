-- When a key and a value are a record's.
use Rattle.std.specs.Prelude.{◌≡◌, ℕ, ◌<◌, ◌^◌, List, IfSome, FitsSigned}
use Rattle.std.specs.Int.{w64}
use Rattle.bucket_page.specs.declared.record_key.RecordKey.{RecordKey}
use Rattle.queue_records.specs.declared.counter.Counter.{Counter}
use Rattle.queue_records.specs.declared.key_entry.KeyEntry.{KeyEntry}
use Rattle.queue_records.specs.declared.queue_entry.QueueEntry.{QueueEntry}
use Rattle.queue_records.specs.declared.type_entry.TypeEntry.{TypeEntry}
use Rattle.queue_records.specs.declared.message_entry.MessageEntry.{MessageEntry}
use Rattle.queue_records.specs.declared.record.Record.{Record}
use Rattle.queue_records.specs.declared.record.Record.TheVariants as records
use Rattle.queue_records.specs.Range.{IsInRange}
use Rattle.queue_records.specs.Spelling.{key_of, value_of}

-- ---- numbers that fit the bytes of their fields, as those of each record of the program do

abbrev pub FitsFour : ℕ → Type 0
FitsFour n = n < 2 ^ 32

abbrev pub FitsEight : ℕ → Type 0
FitsEight n = n < 2 ^ 64

pub record FitsCounter (c : Counter) : Type 0 where
  pub next_id : FitsFour c.next_id

pub record FitsKey (k : KeyEntry) : Type 0 where
  pub key : FitsFour k.key

pub record FitsQueue (q : QueueEntry) : Type 0 where
  pub key : IfSome q.key FitsFour
  pub lspid : FitsFour q.lspid
  pub lrpid : FitsFour q.lrpid
  pub stime : FitsEight q.stime
  pub rtime : FitsEight q.rtime
  pub ctime : FitsEight q.ctime
  pub next_serial : FitsEight q.next_serial
  pub first : IfSome q.first FitsEight
  pub last : IfSome q.last FitsEight
  pub lowest : IfSome q.lowest (FitsSigned w64)
  pub uid : FitsFour q.uid
  pub gid : FitsFour q.gid
  pub cuid : FitsFour q.cuid
  pub cgid : FitsFour q.cgid

pub record FitsType (t : TypeEntry) : Type 0 where
  pub mtype : FitsSigned w64 t.mtype
  pub first : FitsEight t.first
  pub last : FitsEight t.last
  pub lower : IfSome t.lower (FitsSigned w64)
  pub higher : IfSome t.higher (FitsSigned w64)

pub record FitsMessage (m : MessageEntry) : Type 0 where
  pub serial : FitsEight m.serial
  pub mtype : FitsSigned w64 m.mtype
  pub sender : FitsFour m.sender
  pub previous : IfSome m.previous FitsEight
  pub next : IfSome m.next FitsEight
  pub next_of_type : IfSome m.next_of_type FitsEight

abbrev pub FitsFields : Record → Type 0
FitsFields (records.Counter c) = FitsCounter c
FitsFields (records.Key k) = FitsKey k
FitsFields (records.Queue q) = FitsQueue q
FitsFields (records.Type t) = FitsType t
FitsFields (records.Message m) = FitsMessage m

-- ---- the one spelling

-- the key and the value are those of this record
pub record SpellsRecord (r : Record) (key : RecordKey) (value : List ℕ) : Type 0 where
  -- its numbers fit their fields
  pub fits : FitsFields r
  -- it keeps the limits of one record
  pub in_range : IsInRange r
  pub keyed : key ≡ key_of r
  pub spelled : value ≡ value_of r
