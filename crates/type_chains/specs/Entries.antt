-- What each record says of a system.
-- docs/FORMAT.md, "Records".
use Rattle.std.specs.Prelude.{ℕ, ◌-◌, ◌==◌, ℤ, Bool, length, slice_index}
use Rattle.std.specs.Ordering.{int_eq}
use Rattle.queue_model.specs.declared.message.Message.{Message}
use Rattle.queue_model.specs.declared.queue.Queue.{Queue}
use Rattle.queue_model.specs.Selection.{total_bytes}
use Rattle.queue_model.specs.State.{State}
use Rattle.queue_records.specs.declared.counter.Counter.{Counter}
use Rattle.queue_records.specs.declared.key_entry.KeyEntry.{KeyEntry}
use Rattle.queue_records.specs.declared.queue_entry.QueueEntry.{QueueEntry}
use Rattle.queue_records.specs.declared.type_entry.TypeEntry.{TypeEntry}
use Rattle.queue_records.specs.declared.message_entry.MessageEntry.{MessageEntry}
use Rattle.type_chains.specs.Lists.{serials, serials_of_type, types}
use Rattle.type_chains.specs.Neighbours.{first_of, last_of, before, behind}

-- the next id, and how many queues are alive
abbrev pub counter_of : State → Counter
counter_of s = record { next_id = s.next_id; queues_alive = length s.queues }

-- the queue of a key
abbrev pub key_entry : ℕ → Queue → KeyEntry
key_entry key q = record { key = key; id = q.id }

-- a queue: its counts, both ends of its serials, and its lowest type
abbrev pub queue_entry : Queue → QueueEntry
queue_entry q = record {
  id = q.id;
  key = q.key;
  qbytes = q.qbytes;
  cbytes = total_bytes q.messages;
  qnum = length q.messages;
  lspid = q.lspid;
  lrpid = q.lrpid;
  stime = q.stime;
  rtime = q.rtime;
  ctime = q.ctime;
  next_serial = q.next_serial;
  first = first_of (serials q.messages);
  last = last_of (serials q.messages);
  lowest = first_of (types q.messages);
  uid = q.permissions.uid;
  gid = q.permissions.gid;
  cuid = q.permissions.cuid;
  cgid = q.permissions.cgid;
  mode = q.permissions.mode;
}

-- a number or a type is this one
abbrev pub is_number : ℕ → ℕ → Bool
is_number n other = other == n

abbrev pub is_same_type : ℤ → ℤ → Bool
is_same_type mtype other = int_eq other mtype

-- a type of a queue: both ends of its serials, and its neighbours among the types
abbrev pub type_entry : Queue → ℤ → TypeEntry
type_entry q mtype = record {
  id = q.id;
  mtype = mtype;
  first = slice_index (serials_of_type mtype q.messages) 0;
  last = slice_index (serials_of_type mtype q.messages) (length (serials_of_type mtype q.messages) - 1);
  lower = before (is_same_type mtype) (types q.messages);
  higher = behind (is_same_type mtype) (types q.messages);
}

-- a message of a queue: what it is, its neighbours, and the next of its type
abbrev pub message_entry : Queue → Message → MessageEntry
message_entry q m = record {
  id = q.id;
  serial = m.serial;
  mtype = m.mtype;
  sender = m.sender;
  previous = before (is_number m.serial) (serials q.messages);
  next = behind (is_number m.serial) (serials q.messages);
  next_of_type = behind (is_number m.serial) (serials_of_type m.mtype q.messages);
  body = m.bytes;
}
