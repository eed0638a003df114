-- What the rules ask of a queue, read off its record.
-- docs/QUEUES.md, "Calls"; docs/FORMAT.md, "Records".
use Rattle.std.specs.Prelude.{◌≡◌, ℕ, ◌+◌, ◌==◌, nat_lt, Bool, ◌||◌, Some, None}
use Rattle.std.specs.List.{find}
use Rattle.queue_model.specs.declared.answer.QueueInfo.{QueueInfo}
use Rattle.queue_model.specs.numbers.declared.limits.TheConstants.{MAX_MESSAGES, END_OF_SERIALS}
use Rattle.queue_model.specs.declared.permissions.Permissions.{Permissions}
use Rattle.queue_model.specs.declared.queue.Queue.{Queue}
use Rattle.queue_model.specs.Rules.{has_id, lacks_room, info_of}
use Rattle.queue_model.specs.State.{State}
use Rattle.queue_records.specs.declared.queue_entry.QueueEntry.{QueueEntry}
use Rattle.queue_records.specs.declared.record.Record.TheVariants as records
pub use Rattle.queue_records.specs.Keys.{key_of_queue}
use Rattle.type_chains.specs.RecordOf.{record_of}

-- owner, creator and mode
abbrev pub permissions_in : QueueEntry → Permissions
permissions_in e = record { uid = e.uid; gid = e.gid; cuid = e.cuid; cgid = e.cgid; mode = e.mode }

-- whether a body of this length has no room
abbrev pub lacks_room_in : ℕ → QueueEntry → Bool
lacks_room_in len e = nat_lt e.qbytes (e.cbytes + len) || e.qnum == MAX_MESSAGES || e.next_serial == END_OF_SERIALS

-- what Stat tells
abbrev pub info_in : QueueEntry → QueueInfo
info_in e = record {
  id = e.id;
  key = e.key;
  qnum = e.qnum;
  cbytes = e.cbytes;
  qbytes = e.qbytes;
  lspid = e.lspid;
  lrpid = e.lrpid;
  stime = e.stime;
  rtime = e.rtime;
  ctime = e.ctime;
  permissions = permissions_in e;
}

-- the entry says of the queue what Send, Stat, Set and Remove ask
pub record TellsOf (e : QueueEntry) (q : Queue) : Type 0 where
  pub permissions : permissions_in e ≡ q.permissions
  pub room : (len : ℕ) → lacks_room_in len e ≡ lacks_room len q
  -- the serial that a message sent now gets
  pub serial : e.next_serial ≡ q.next_serial
  pub info : info_in e ≡ info_of q

-- the record at an id's key, or that there is none, tells of the queue of that id
pub record IsReadable (s : State) (id : ℕ) : Type 0 where
  pub present : (e : QueueEntry) → record_of s (key_of_queue id) ≡ Some (records.Queue e) →
      (q : Queue) × (find (has_id id) s.queues ≡ Some q) × TellsOf e q
  pub absent : record_of s (key_of_queue id) ≡ None → find (has_id id) s.queues ≡ None
