-- The deeds of a turn, each by one access, and what follows one.
-- docs/STEPS.md, "Remove".
use Rattle.std.specs.Prelude.{ℕ, ℤ, ◌==◌, ◌-◌, Bool, true, false, Option, Some, None, if◌then◌else◌}
use Rattle.xsi_remove.specs.declared.work.Deed.{Deed}
use Rattle.xsi_remove.specs.declared.work.Deed.TheVariants.{Reading, DeletingMessage, DeletingType}
use Rattle.xsi_remove.specs.declared.work.Next.{Next}
use Rattle.xsi_remove.specs.declared.work.Next.TheVariants.{Goes, Begins, Over}
use Rattle.xsi_remove.specs.declared.work.Work.{Work}
use Rattle.xsi_remove.specs.Words.{RecordKey, Delete, Purpose, ToFind, ToWrite, aimed_at, begun, key_of_message, key_of_type, MessageRead, Turn, begun_turn, turn_next}

abbrev pub message_of : Turn → RecordKey
message_of t = key_of_message t.id t.serial

-- what its access is for
abbrev pub purpose_of : Deed → Turn → Purpose
purpose_of Reading t = ToFind (message_of t)
purpose_of DeletingMessage t = ToWrite (Delete (message_of t))
purpose_of (DeletingType mtype) t = ToWrite (Delete (key_of_type t.id mtype))

-- the deed, begun at the pseudokey of its key
abbrev pub with_deed : (RecordKey → ℕ) → Deed → Work → Work
with_deed hash deed w = record w {
  deed = deed;
  access = begun (purpose_of deed w.turn) (hash (aimed_at (purpose_of deed w.turn)));
}

-- a turn that begins, behind which so many may follow
abbrev pub begun_work : (RecordKey → ℕ) → Turn → ℕ → Work
begun_work hash t turns = record {
  turn = t;
  deed = Reading;
  turns = turns;
  access = begun (ToFind (message_of t)) (hash (message_of t));
}

-- ---- what follows

-- the type of which the message is the last one, as far as it was read
abbrev pub last_type : Option MessageRead → Option ℤ
last_type None = None
last_type (Some m) = m.last_of

abbrev pub turn_behind : Option ℕ → Next
turn_behind None = Over
turn_behind (Some serial) = Begins serial

abbrev pub behind_message : Option ℤ → Turn → Next
behind_message None t = turn_behind (turn_next t)
behind_message (Some mtype) t = Goes (DeletingType mtype)

abbrev pub behind_find : Option MessageRead → Option Next
behind_find None = None
behind_find (Some m) = Some (Goes DeletingMessage)

-- after a deed of which it is told whether it has written; none where that can't be so
abbrev pub behind : Deed → Turn → Bool → Option Next
behind Reading t written = behind_find t.read
behind DeletingMessage t true = Some (behind_message (last_type t.read) t)
behind (DeletingType mtype) t true = Some (turn_behind (turn_next t))
behind deed t false = None

-- that begun, or nothing where no message is left; none where more turns would follow than a queue has messages
abbrev pub led_to : (RecordKey → ℕ) → Option Next → Work → Option (Option Work)
led_to hash None w = None
led_to hash (Some (Goes deed)) w = Some (Some (with_deed hash deed w))
led_to hash (Some (Begins serial)) w =
    if w.turns == 0 then None else Some (Some (begun_work hash (begun_turn w.turn.id serial) (w.turns - 1)))
led_to hash (Some Over) w = Some None

abbrev pub next_of : (RecordKey → ℕ) → Work → Option (Option Work)
next_of hash w = led_to hash (behind w.deed w.turn w.access.written) w
