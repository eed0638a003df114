-- What a message that is sent makes of the records of its queue.
-- docs/QUEUES.md, "Calls"; docs/FORMAT.md, "Records".
use Rattle.std.specs.Prelude.{◌≡◌, ℕ, ◌+◌, length, Some, None, unwrap_or}
use Rattle.queue_model.specs.declared.call.SendArguments.{SendArguments}
use Rattle.queue_model.specs.declared.message.Message.{Message}
use Rattle.queue_model.specs.declared.queue.Queue.{Queue}
use Rattle.queue_model.specs.Rules.{with_message}
use Rattle.queue_model.specs.Selection.{lesser}
use Rattle.queue_records.specs.declared.message_entry.MessageEntry.{MessageEntry}
use Rattle.queue_records.specs.declared.queue_entry.QueueEntry.{QueueEntry}
use Rattle.type_chains.specs.Entries.{queue_entry, message_entry}

-- the message that is sent
abbrev pub message_of : ℕ → SendArguments → Queue → Message
message_of pid a q = record { serial = q.next_serial; sender = pid; mtype = a.mtype; bytes = a.body }

-- the Queue with one message more, which is its last, and its first where it had none
abbrev pub with_one_more : ℕ → SendArguments → QueueEntry → QueueEntry
with_one_more pid a e = record e {
  cbytes = e.cbytes + length a.body;
  qnum = e.qnum + 1;
  lspid = pid;
  stime = a.moment;
  next_serial = e.next_serial + 1;
  first = Some (unwrap_or e.first e.next_serial);
  last = Some e.next_serial;
  lowest = Some (lesser a.mtype e.lowest);
}

-- the Message: behind the one that was last, with none behind it
abbrev pub last_message : ℕ → SendArguments → QueueEntry → MessageEntry
last_message pid a e = record {
  id = e.id;
  serial = e.next_serial;
  mtype = a.mtype;
  sender = pid;
  previous = e.last;
  next = None;
  next_of_type = None;
  body = a.body;
}

-- both are made of the Queue's record and the call alone
pub record IsMadeOfTheQueue (pid : ℕ) (a : SendArguments) (q : Queue) : Type 0 where
  pub queue : queue_entry (with_message pid a q) ≡ with_one_more pid a (queue_entry q)
  pub message : message_entry (with_message pid a q) (message_of pid a q) ≡ last_message pid a (queue_entry q)
