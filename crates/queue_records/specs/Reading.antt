-- What is read from a key and a value, and the tests that they have to pass.
use Rattle.std.specs.Prelude.{◌≡◌, ℕ, ◌==◌, ◌^◌, nat_le, nat_lt, ℤ, pos, int_le, Bool, true, false, ◌&&◌, ◌||◌, List, length, drop, slice_index, Option, Some, None, Result, Ok, Err}
use Rattle.bucket_page.specs.declared.record_key.RecordKey.{RecordKey}
use Rattle.bucket_page.specs.numbers.Numbers.{two_at, four_at, eight_at}
use Rattle.bucket_page.specs.Keys.{is_same}
use Rattle.queue_records.specs.declared.layout.TheConstants.{COUNTER_BYTES, KEY_BYTES, QUEUE_BYTES, TYPE_BYTES, MESSAGE_BYTES}
use Rattle.numbers.specs.declared.limits.TheConstants.{MAX_QUEUES, MAX_MESSAGES, MAX_BODY, MAX_QBYTES, END_OF_IDS, MODES}
use Rattle.queue_records.specs.declared.bad_record.BadRecord.{BadRecord}
use Rattle.queue_records.specs.declared.counter.Counter.{Counter}
use Rattle.queue_records.specs.declared.key_entry.KeyEntry.{KeyEntry}
use Rattle.queue_records.specs.declared.queue_entry.QueueEntry.{QueueEntry}
use Rattle.queue_records.specs.declared.type_entry.TypeEntry.{TypeEntry}
use Rattle.queue_records.specs.declared.message_entry.MessageEntry.{MessageEntry}
use Rattle.queue_records.specs.Fields.{serial_of, type_of, type_link_of, given_key}
use Rattle.queue_records.specs.Spelling.{counter_key, key_key, queue_key, type_key, message_key}

-- what reading answers where the tests have this outcome, and this is the value
abbrev pub Gives : {X : Type 0} → Result X BadRecord → Bool → X → Type 0
Gives (Ok x) passes value = (passes ≡ true) × (x ≡ value)
Gives (Err bad) passes value = passes ≡ false

-- ---- limits

abbrev pub is_id : ℕ → Bool
is_id id = nat_le 1 id && nat_lt id END_OF_IDS

abbrev pub is_serial_link : Option ℕ → Bool
is_serial_link None = true
is_serial_link (Some serial) = nat_le 1 serial

abbrev pub is_type : ℤ → Bool
is_type mtype = int_le (pos 1) mtype

abbrev pub is_type_link : Option ℤ → Bool
is_type_link None = true
is_type_link (Some mtype) = is_type mtype

abbrev pub is_counter : Counter → Bool
is_counter c = nat_le 1 c.next_id && nat_le c.queues_alive MAX_QUEUES

abbrev pub is_key : KeyEntry → Bool
is_key k = is_id k.id

abbrev pub has_limits : QueueEntry → Bool
has_limits q =
    nat_le q.qbytes MAX_QBYTES
    && (nat_le q.cbytes MAX_QBYTES
    && (nat_le q.qnum MAX_MESSAGES && nat_lt q.mode MODES))

abbrev pub is_queue : QueueEntry → Bool
is_queue q =
    is_id q.id
    && (has_limits q
    && (nat_le 1 q.next_serial
    && (is_serial_link q.first && (is_serial_link q.last && is_type_link q.lowest))))

abbrev pub is_type_entry : TypeEntry → Bool
is_type_entry t =
    is_id t.id
    && (is_type t.mtype
    && (nat_le 1 t.first && (nat_le 1 t.last && (is_type_link t.lower && is_type_link t.higher))))

abbrev pub is_message : MessageEntry → Bool
is_message m =
    is_id m.id
    && (nat_le 1 m.serial
    && (is_type m.mtype
    && (is_serial_link m.previous
    && (is_serial_link m.next
    && (is_serial_link m.next_of_type && nat_le (length m.body) MAX_BODY)))))

-- ---- values

abbrev pub counter_at : List ℕ → Counter
counter_at value = record { next_id = four_at 0 value; queues_alive = four_at 4 value }

abbrev pub reads_counter : RecordKey → List ℕ → Bool
reads_counter key value =
    length value == COUNTER_BYTES && (is_same key counter_key && is_counter (counter_at value))

abbrev pub key_at : RecordKey → List ℕ → KeyEntry
key_at key value = record { key = key.number; id = four_at 0 value }

abbrev pub reads_key : RecordKey → List ℕ → Bool
reads_key key value =
    length value == KEY_BYTES
    && (nat_lt key.number (2 ^ 32)
    && (is_same key (key_key (key_at key value)) && is_key (key_at key value)))

-- the flag is 1, or 0 and no key stands there
abbrev pub has_flag : List ℕ → Bool
has_flag value = slice_index value 0 == 1 || slice_index value 0 == 0 && four_at 1 value == 0

abbrev pub queue_at : RecordKey → List ℕ → QueueEntry
queue_at key value = record {
  id = key.queue;
  key = given_key (slice_index value 0) (four_at 1 value);
  qbytes = four_at 5 value;
  cbytes = four_at 9 value;
  qnum = four_at 13 value;
  lspid = four_at 17 value;
  lrpid = four_at 21 value;
  stime = eight_at 25 value;
  rtime = eight_at 33 value;
  ctime = eight_at 41 value;
  next_serial = eight_at 49 value;
  first = serial_of (eight_at 57 value);
  last = serial_of (eight_at 65 value);
  lowest = type_link_of (eight_at 73 value);
  uid = four_at 81 value;
  gid = four_at 85 value;
  cuid = four_at 89 value;
  cgid = four_at 93 value;
  mode = two_at 97 value;
}

abbrev pub reads_queue : RecordKey → List ℕ → Bool
reads_queue key value =
    length value == QUEUE_BYTES
    && (has_flag value
    && (is_same key (queue_key (queue_at key value)) && is_queue (queue_at key value)))

abbrev pub type_at : RecordKey → List ℕ → TypeEntry
type_at key value = record {
  id = key.queue;
  mtype = type_of key.number;
  first = eight_at 0 value;
  last = eight_at 8 value;
  lower = type_link_of (eight_at 16 value);
  higher = type_link_of (eight_at 24 value);
}

abbrev pub reads_type : RecordKey → List ℕ → Bool
reads_type key value =
    length value == TYPE_BYTES
    && (is_same key (type_key (type_at key value)) && is_type_entry (type_at key value))

abbrev pub message_at : RecordKey → List ℕ → MessageEntry
message_at key value = record {
  id = key.queue;
  serial = key.number;
  mtype = type_of (eight_at 0 value);
  sender = four_at 8 value;
  previous = serial_of (eight_at 12 value);
  next = serial_of (eight_at 20 value);
  next_of_type = serial_of (eight_at 28 value);
  body = drop MESSAGE_BYTES value;
}

abbrev pub reads_message : RecordKey → List ℕ → Bool
reads_message key value =
    nat_le MESSAGE_BYTES (length value)
    && (is_same key (message_key (message_at key value)) && is_message (message_at key value))
