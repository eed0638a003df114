-- What is written where a message is taken off its queue.
-- docs/STEPS.md, "What a call writes".
use Rattle.std.specs.Prelude.{ℕ, ◌-◌, nat_le, ℤ, Bool, ◌&&◌, List, [], ◌∷◌, Option, Some, None, option_map}
use Rattle.queue_model.specs.declared.call.ReceiveArguments.{ReceiveArguments}
use Rattle.queue_records.specs.declared.links.Link.{Link}
use Rattle.queue_records.specs.declared.links.Link.TheVariants.{Stays, Ends, LeadsTo}
use Rattle.queue_records.specs.declared.links.Links.{Links}
use Rattle.queue_records.specs.declared.links.Links.TheVariants as links
use Rattle.queue_records.specs.declared.queue_entry.QueueEntry.{QueueEntry}
use Rattle.queue_records.specs.declared.record.Record.TheVariants as records
use Rattle.queue_records.specs.declared.type_entry.TypeEntry.{TypeEntry}
use Rattle.queue_records.specs.Keys.{key_of_message, key_of_type}
use Rattle.xsi_inquiry.specs.declared.write.Write.{Write}
use Rattle.xsi_inquiry.specs.declared.write.Write.TheVariants.{Replace, Relink, Delete}
use Rattle.xsi_inquiry.specs.Writing.{Plan}
use Rattle.xsi_receive.specs.declared.head.MessageHead.{MessageHead}
use Rattle.xsi_receive.specs.declared.removal.Removal.{Removal}
use Rattle.xsi_receive.specs.declared.removal.TypeLeft.{TypeLeft}
use Rattle.xsi_receive.specs.declared.removal.TypeLeft.TheVariants.{Begins, Goes}

-- ---- the Queue

-- one or the other, by whether there is a link
abbrev pub where_none : {L X : Type 0} → Option L → X → X → X
where_none None absent present = absent
where_none (Some link) absent present = present

-- the Queue counts the message and its bytes
abbrev pub is_counted : QueueEntry → MessageHead → Bool
is_counted e m = nat_le m.bytes e.cbytes && nat_le 1 e.qnum

-- the lowest type, where the message was perhaps the last of it
abbrev pub lowest_left : TypeLeft → Option ℤ → Option ℤ
lowest_left (Begins first) lowest = lowest
lowest_left (Goes None higher) lowest = higher
lowest_left (Goes (Some lower) higher) lowest = lowest

-- the Queue without the message
abbrev pub queue_left : ℕ → ReceiveArguments → QueueEntry → MessageHead → TypeLeft → QueueEntry
queue_left pid a e m left = record e {
  cbytes = e.cbytes - m.bytes;
  qnum = e.qnum - 1;
  lrpid = pid;
  rtime = a.moment;
  first = where_none m.previous m.next e.first;
  last = where_none m.next m.previous e.last;
  lowest = lowest_left left e.lowest;
}

-- ---- its Type

-- it begins with the next message of it, or goes and leaves those beside it
abbrev pub left_by : Option ℕ → TypeEntry → TypeLeft
left_by None t = Goes t.lower t.higher
left_by (Some first) t = Begins first

-- ---- what is relinked

-- a link that leads there from now on, or nowhere
abbrev pub link_to : {T : Type 0} → Option T → Link T
link_to None = Ends
link_to (Some there) = LeadsTo there

-- a Message leads on to this one; follows this one
abbrev pub to_next : Option ℕ → Links
to_next next = links.Message (record { previous = Stays; next = link_to next; next_of_type = Stays })

abbrev pub to_previous : Option ℕ → Links
to_previous previous = links.Message (record { previous = link_to previous; next = Stays; next_of_type = Stays })

-- a Type begins with this message; is followed by this type; follows this type
abbrev pub to_first : ℕ → Links
to_first first = links.Type (record { first = Some first; last = None; lower = Stays; higher = Stays })

abbrev pub to_higher : Option ℤ → Links
to_higher higher = links.Type (record { first = None; last = None; lower = Stays; higher = link_to higher })

abbrev pub to_lower : Option ℤ → Links
to_lower lower = links.Type (record { first = None; last = None; lower = link_to lower; higher = Stays })

-- ---- the writes

abbrev pub previous_write : ℕ → Removal → Option Write
previous_write id r = option_map (λ (serial : ℕ). Relink (key_of_message id serial) (to_next r.message.next))
    r.message.previous

abbrev pub next_write : ℕ → Removal → Option Write
next_write id r = option_map (λ (serial : ℕ). Relink (key_of_message id serial) (to_previous r.message.previous))
    r.message.next

abbrev pub own_by : ℕ → ℤ → TypeLeft → Option Write
own_by id mtype (Begins first) = Some (Relink (key_of_type id mtype) (to_first first))
own_by id mtype (Goes lower higher) = option_map (λ (t : ℤ). Relink (key_of_type id t) (to_higher higher)) lower

-- the first write of a Type: its own, or the next lower one
abbrev pub own_write : ℕ → Removal → Option Write
own_write id r = own_by id r.message.mtype r.type_left

abbrev pub higher_by : ℕ → TypeLeft → Option Write
higher_by id (Begins first) = None
higher_by id (Goes lower higher) = option_map (λ (t : ℤ). Relink (key_of_type id t) (to_lower lower)) higher

-- the next higher one
abbrev pub higher_write : ℕ → Removal → Option Write
higher_write id r = higher_by id r.type_left

abbrev pub deletion_by : ℕ → ℤ → TypeLeft → Option Write
deletion_by id mtype (Begins first) = None
deletion_by id mtype (Goes lower higher) = Some (Delete (key_of_type id mtype))

abbrev pub type_deletion : ℕ → Removal → Option Write
type_deletion id r = deletion_by id r.message.mtype r.type_left

-- in order: the Queue, Messages by serial, Types ascending, deletions
abbrev pub slots_of : ℕ → Removal → List (Option Write)
slots_of id r =
    Some (Replace (records.Queue r.queue))
    ∷ previous_write id r
    ∷ next_write id r
    ∷ own_write id r
    ∷ higher_write id r
    ∷ Some (Delete (key_of_message id r.message.serial))
    ∷ type_deletion id r
    ∷ []

-- nothing is inserted
abbrev pub removal_plan : ℕ → Removal → Plan
removal_plan id r = record { trials = []; slots = slots_of id r }
