-- Which entries of the journal wake a call that waits. docs/STEPS.md, "Calls".
use Rattle.std.specs.Prelude.{ℕ, ◌==◌, Bool, true, false, not, List, Option, Some, None, drop}
use Rattle.std.specs.List.{list_any}
use Rattle.queue_model.specs.declared.call.Call.TheVariants as calls
use Rattle.queue_model.specs.declared.entry.Entry.TheVariants.{Decided, Stopped}
use Rattle.interleaving_core.specs.Words.{Call, Entry}

-- the queue whose id a call carries; a Get carries none
abbrev pub queue_on : Call → Option ℕ
queue_on (calls.Get arguments) = None
queue_on (calls.Send arguments) = Some arguments.id
queue_on (calls.Receive arguments) = Some arguments.id
queue_on (calls.Stat id) = Some id
queue_on (calls.Set arguments) = Some arguments.id
queue_on (calls.Remove id) = Some id

abbrev pub is_same_queue : Option ℕ → Option ℕ → Bool
is_same_queue None other = false
is_same_queue (Some id) None = false
is_same_queue (Some id) (Some other) = id == other

-- a call on this queue was decided, whatever it was answered, or the system was stopped
abbrev pub wakes : Option ℕ → Entry → Bool
wakes queue (Decided seat call answer) = is_same_queue queue (queue_on call)
wakes queue Stopped = true

-- one of the entries behind so many wakes this call
abbrev pub is_woken : Call → ℕ → List Entry → Bool
is_woken call since journal = list_any (wakes (queue_on call)) (drop since journal)

-- its seat was told that it waits, and nothing has woken it since
abbrev pub stays_waiting : Option ℕ → Call → List Entry → Bool
stays_waiting None call journal = false
stays_waiting (Some since) call journal = not (is_woken call since journal)
