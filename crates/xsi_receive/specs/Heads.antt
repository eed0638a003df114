-- A Message but for its bytes.
-- docs/FORMAT.md, "Records".
use Rattle.std.specs.Prelude.{length}
use Rattle.queue_records.specs.declared.message_entry.MessageEntry.{MessageEntry}
use Rattle.xsi_receive.specs.declared.head.MessageHead.{MessageHead}

abbrev pub head_of : MessageEntry → MessageHead
head_of m = record {
  serial = m.serial;
  mtype = m.mtype;
  sender = m.sender;
  previous = m.previous;
  next = m.next;
  next_of_type = m.next_of_type;
  bytes = length m.body;
}
