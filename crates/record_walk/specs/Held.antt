-- Records that stand at their keys, and what is only read.
use Rattle.std.specs.Prelude.{◌≡◌, ℕ, ◌≤◌, Bool, List, Option, Some}
use Rattle.std.specs.List.{AllZip}
use Rattle.queue_records.specs.declared.record.Record.TheVariants as records
use Rattle.record_walk.specs.Words.{RecordKey, Record, SpellsRecord, Message, MessageEntry, MessageLinks, Linked, key_of}

-- the record stands at its key
pub record Holds (held : RecordKey → Option (List ℕ)) (r : Record) : Type 0 where
  pub value : List ℕ
  pub found : held (key_of r) ≡ Some value
  pub spelled : SpellsRecord r (key_of r) value

-- a message as it stands on a queue, and its links
abbrev pub linked_of : MessageEntry → Linked
linked_of e = record {
  message = record { serial = e.serial; sender = e.sender; mtype = e.mtype; bytes = e.body };
  links = record { previous = e.previous; next = e.next; next_of_type = e.next_of_type };
}

-- the record of a message of the queue of an id, with these links
abbrev pub entry_with : ℕ → Message → MessageLinks → MessageEntry
entry_with id m links = record {
  id = id;
  serial = m.serial;
  mtype = m.mtype;
  sender = m.sender;
  previous = links.previous;
  next = links.next;
  next_of_type = links.next_of_type;
  body = m.bytes;
}

-- a message of this serial stands so
pub record IsMessageAt (held : RecordKey → Option (List ℕ)) (id serial : ℕ) (l : Linked) : Type 0 where
  pub its : l.message.serial ≡ serial
  pub stands : Holds held (records.Message (entry_with id l.message l.links))

-- a message stands with these links and with no others
pub record IsLinked (held : RecordKey → Option (List ℕ)) (id : ℕ) (m : Message) (links : MessageLinks) : Type 0 where
  pub stands : Holds held (records.Message (entry_with id m links))
  pub only : (other : MessageLinks) → Holds held (records.Message (entry_with id m other)) → other ≡ links

-- each of these messages stands with its links
abbrev pub AreLinked : (RecordKey → Option (List ℕ)) → ℕ → List Message → List MessageLinks → Type 0
AreLinked held id ms links = AllZip (IsLinked held id) ms links

-- records that were only read: they and their pages stand as before, and the count of failed transfers did not fall
pub record IsStill {F : Type 0} (held : F → RecordKey → Option (List ℕ)) (pages : F → List (List ℕ))
    (honest : F → Bool) (count : F → ℕ) (old now : F) : Type 0 where
  pub same : held now ≡ held old
  pub kept : pages now ≡ pages old
  pub honesty : honest now ≡ honest old
  pub later : count old ≤ count now
