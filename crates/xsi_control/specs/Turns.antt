-- A turn of a sweep: which message it takes away, and what it writes.
-- docs/STEPS.md, "Remove".
use Rattle.std.specs.Prelude.{◌≡◌, ℕ, ℤ, List, [], ◌∷◌, Option, Some, None, option_map}
use Rattle.std.specs.List.{find}
use Rattle.queue_model.specs.declared.queue.Queue.{Queue}
use Rattle.queue_model.specs.Rules.{has_id}
use Rattle.queue_model.specs.State.{State}
use Rattle.queue_records.specs.declared.message_entry.MessageEntry.{MessageEntry}
use Rattle.queue_records.specs.Keys.{key_of_message, key_of_type}
use Rattle.xsi_inquiry.specs.type_chains.Lists.{serials}
use Rattle.xsi_inquiry.specs.type_chains.Neighbours.{first_of}
use Rattle.xsi_inquiry.specs.declared.wanted.Wanted.{Wanted}
use Rattle.xsi_inquiry.specs.declared.wanted.Wanted.TheVariants.{At}
use Rattle.xsi_inquiry.specs.declared.write.Write.{Write}
use Rattle.xsi_inquiry.specs.declared.write.Write.TheVariants.{Delete}
use Rattle.xsi_inquiry.specs.Sweeping.{unswept}
use Rattle.xsi_inquiry.specs.Writing.{Plan}
use Rattle.xsi_control.specs.declared.turn.MessageRead.{MessageRead}
use Rattle.xsi_control.specs.declared.turn.Turn.{Turn}

abbrev pub begun_turn : ℕ → ℕ → Turn
begun_turn id serial = record { id = id; serial = serial; read = None }

-- so many messages of the queue were swept, and the first that is left is that of the turn
pub record IsAtTurn (count : ℕ) (q : Queue) (s : State) (t : Turn) : Type 0 where
  pub alive : find (has_id t.id) s.queues ≡ Some q
  pub first : first_of (serials (unswept count q)) ≡ Some t.serial

-- ---- what is read

-- a type, where the message is the last of it
abbrev pub last_by : Option ℕ → ℤ → Option ℤ
last_by None mtype = Some mtype
last_by (Some next_of_type) mtype = None

abbrev pub read_of : MessageEntry → MessageRead
read_of m = record { next = m.next; last_of = last_by m.next_of_type m.mtype }

abbrev pub wanted_by : ℕ → ℕ → Option MessageRead → Option Wanted
wanted_by id serial None = Some (At (key_of_message id serial))
wanted_by id serial (Some m) = None

-- the Message, until it is read
abbrev pub turn_wanted : Turn → Option Wanted
turn_wanted t = wanted_by t.id t.serial t.read

abbrev pub next_by : Option MessageRead → Option ℕ
next_by None = None
next_by (Some m) = m.next

-- the serial of the next turn
abbrev pub turn_next : Turn → Option ℕ
turn_next t = next_by t.read

-- ---- what is written

-- the Type goes with the last message of it
abbrev pub type_deletion : ℕ → Option ℤ → Option Write
type_deletion id last_of = option_map (λ (t : ℤ). Delete (key_of_type id t)) last_of

abbrev pub turn_slots : ℕ → ℕ → Option MessageRead → List (Option Write)
turn_slots id serial None = []
turn_slots id serial (Some m) = Some (Delete (key_of_message id serial)) ∷ type_deletion id m.last_of ∷ []

-- the Message goes first
abbrev pub turn_plan : Turn → Plan
turn_plan t = record { trials = []; slots = turn_slots t.id t.serial t.read }
