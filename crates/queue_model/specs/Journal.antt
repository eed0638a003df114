-- Which lists of entries could be the journal of a system.
-- docs/QUEUES.md, "Journals".
use Rattle.std.specs.Prelude.{◌≡◌, ℕ, zero, suc, ◌==◌, Bool, true, false, List, [], ◌∷◌, Option, Some, None, slice_get, filter}
use Rattle.queue_model.specs.declared.call.Call.{Call}
use Rattle.queue_model.specs.declared.caller.Caller.{Caller}
use Rattle.queue_model.specs.declared.entry.Entry.{Entry}
use Rattle.queue_model.specs.declared.entry.Entry.TheVariants.{Decided, Stopped}
use Rattle.queue_model.specs.State.{State}
use Rattle.queue_model.specs.Rules.{Outcome, outcome}

-- who sits at a seat; seats count from 1
abbrev pub caller_at : List Caller → ℕ → Option Caller
caller_at callers zero = None
caller_at callers (suc place) = slice_get callers place

-- what a call is answered; one that nobody makes is answered nothing
abbrev pub outcome_for : Option Caller → Call → State → Outcome
outcome_for None call s = None
outcome_for (Some c) call s = outcome c call s

-- one entry leads from s to t: its answer is the outcome of its call; a system is stopped once
abbrev pub Leads : List Caller → Entry → State → State → Type 0
Leads callers (Decided seat call answer) s t = outcome_for (caller_at callers seat) call s ≡ Some (answer, t)
Leads callers Stopped s t = (s.stopped ≡ false) × (t ≡ record s { stopped = true })

-- the entries lead from s to t, each from where the one before it led
abbrev pub LeadsAlong : List Caller → List Entry → State → State → Type 0
LeadsAlong callers [] s t = t ≡ s
LeadsAlong callers (e ∷ es) s t = (u : State) × Leads callers e s u × LeadsAlong callers es u t

-- the entries are a legal journal from s: they lead somewhere
abbrev pub IsLegal : List Caller → List Entry → State → Type 0
IsLegal callers es s = (t : State) × LeadsAlong callers es s t

-- the system after an outcome, or the old one where there is none
abbrev pub state_after : Outcome → State → State
state_after None s = s
state_after (Some o) s = o.1

abbrev pub after_entry : List Caller → Entry → State → State
after_entry callers (Decided seat call answer) s = state_after (outcome_for (caller_at callers seat) call s) s
after_entry callers Stopped s = record s { stopped = true }

-- the system after a journal
abbrev pub after : List Caller → List Entry → State → State
after callers [] s = s
after callers (e ∷ es) s = after callers es (after_entry callers e s)

abbrev pub is_of : ℕ → Entry → Bool
is_of seat (Decided other call answer) = other == seat
is_of seat Stopped = false

-- the part of a seat: the journal's entries of its calls, in their order
abbrev pub part_of : ℕ → List Entry → List Entry
part_of seat es = filter (is_of seat) es
