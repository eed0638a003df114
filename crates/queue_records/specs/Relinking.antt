-- What new links make of a record.
-- docs/STEPS.md, "What a call writes".
use Rattle.std.specs.Prelude.{◌≡◌, ℕ, Option, Some, None, IfSome, ⊤, unwrap_or}
use Rattle.queue_records.specs.declared.layout.TheConstants.{MESSAGE_BYTES, TYPE_BYTES}
use Rattle.queue_records.specs.declared.links.Link.{Link}
use Rattle.queue_records.specs.declared.links.Link.TheVariants.{Stays, Ends, LeadsTo}
use Rattle.queue_records.specs.declared.links.Links.{Links}
use Rattle.queue_records.specs.declared.links.Links.TheVariants as links
use Rattle.queue_records.specs.declared.links.MessageLinks.{MessageLinks}
use Rattle.queue_records.specs.declared.links.TypeLinks.{TypeLinks}
use Rattle.queue_records.specs.declared.message_entry.MessageEntry.{MessageEntry}
use Rattle.queue_records.specs.declared.record.Record.{Record}
use Rattle.queue_records.specs.declared.record.Record.TheVariants as records
use Rattle.queue_records.specs.declared.type_entry.TypeEntry.{TypeEntry}
use Rattle.queue_records.specs.Range.{IsSerial, IsType}

-- where a link leads then
abbrev pub linked : {T : Type 0} → Link T → Option T → Option T
linked Stays old = old
linked Ends old = None
linked (LeadsTo there) old = Some there

-- a Message with new links
abbrev pub with_message_links : MessageLinks → MessageEntry → MessageEntry
with_message_links l m = record m {
  previous = linked l.previous m.previous;
  next = linked l.next m.next;
  next_of_type = linked l.next_of_type m.next_of_type;
}

-- a Type with new links
abbrev pub with_type_links : TypeLinks → TypeEntry → TypeEntry
with_type_links l t = record t {
  first = unwrap_or l.first t.first;
  last = unwrap_or l.last t.last;
  lower = linked l.lower t.lower;
  higher = linked l.higher t.higher;
}

-- a record with new links, where it is of the kind that has them
abbrev pub relinked : Links → Record → Record
relinked (links.Message l) (records.Message m) = records.Message (with_message_links l m)
relinked (links.Message l) (records.Counter c) = records.Counter c
relinked (links.Message l) (records.Key k) = records.Key k
relinked (links.Message l) (records.Queue q) = records.Queue q
relinked (links.Message l) (records.Type t) = records.Type t
relinked (links.Type l) (records.Type t) = records.Type (with_type_links l t)
relinked (links.Type l) (records.Counter c) = records.Counter c
relinked (links.Type l) (records.Key k) = records.Key k
relinked (links.Type l) (records.Queue q) = records.Queue q
relinked (links.Type l) (records.Message m) = records.Message m

-- what was found is a record of the kind that has such links
abbrev pub HasSuch : Links → Option Record → Type 0
HasSuch (links.Message l) found = (m : MessageEntry) × (found ≡ Some (records.Message m))
HasSuch (links.Type l) found = (t : TypeEntry) × (found ≡ Some (records.Type t))

-- the links of such a record stand among so many bytes at the front of its value
abbrev pub linked_bytes : Links → ℕ
linked_bytes (links.Message l) = MESSAGE_BYTES
linked_bytes (links.Type l) = TYPE_BYTES

-- ---- limits

-- where the link leads from now on, it is so
abbrev pub IfLeads : {T : Type 0} → Link T → (T → Type 0) → Type 0
IfLeads Stays IsSo = ⊤
IfLeads Ends IsSo = ⊤
IfLeads (LeadsTo there) IsSo = IsSo there

pub record AreMessageLinksInRange (l : MessageLinks) : Type 0 where
  pub previous : IfLeads l.previous IsSerial
  pub next : IfLeads l.next IsSerial
  pub next_of_type : IfLeads l.next_of_type IsSerial

pub record AreTypeLinksInRange (l : TypeLinks) : Type 0 where
  pub first : IfSome l.first IsSerial
  pub last : IfSome l.last IsSerial
  pub lower : IfLeads l.lower IsType
  pub higher : IfLeads l.higher IsType

-- links that a record in range can have
abbrev pub AreLinksInRange : Links → Type 0
AreLinksInRange (links.Message l) = AreMessageLinksInRange l
AreLinksInRange (links.Type l) = AreTypeLinksInRange l
