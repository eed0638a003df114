-- The journal as it stands after so many events, and why a seat is then told that it waits, that it is blocked, or
-- that a record has no room.
-- docs/QUEUES.md, "Journals"; docs/STEPS.md, "Calls".
use Rattle.std.specs.Prelude.{ℕ, suc, ◌≡◌, ◌≢◌, ◌≤◌, ◌<◌, Bool, true, false, IsSome, List, ◌++◌, Option, Some, None, drop, length, slice_get, sum_by, take, ⊤}
use Rattle.std.specs.List.{list_any}
use Rattle.bucket_page.specs.declared.layout.TheConstants.{ROOM_BYTES}
use Rattle.interleaving_core.specs.declared.fault.StepFault.TheVariants as faults
use Rattle.interleaving_core.specs.declared.step.Step.TheVariants as steps
use Rattle.queue_model.specs.Rules.{AddsTo}
use Rattle.queue_model.specs.declared.entry.Entry.TheVariants.{Decided, Stopped}
use Rattle.interleavings.specs.Words.{Answer, Call, Caller, Entry, State, Step, after, caller_at, entry_of, outcome, outcome_for, part_of}
use Rattle.interleavings.specs.Outcomes.{begins_along, call_under_way, may_hold_locks}
use Rattle.interleavings.specs.Runs.{told_along}
use Rattle.interleavings.specs.Sizes.{bytes_of_system}
use Rattle.interleavings.specs.declared.event.Event.{Event}
use Rattle.interleavings.specs.declared.event.Event.TheVariants as events
use Rattle.interleavings.specs.declared.event.Outcome.{Outcome}
use Rattle.interleavings.specs.declared.event.Outcome.TheVariants as outcomes

-- ---- the journal

-- a seat was told its part of these entries, in their order, each once; but for the entry of the call that it has under
-- way, which it may be owed
pub record HasItsPart (seat : ℕ) (es : List Event) (os : List Outcome) (entries : List Entry) : Type 0 where
  pub owed : Option Answer
  pub told : told_along seat None es os ++ entry_of seat (call_under_way seat es os) owed ≡ part_of seat entries

abbrev pub is_stop : Event → Bool
is_stop (events.Begin seat call) = false
is_stop (events.Step seat) = false
is_stop (events.Drive seat) = false
is_stop events.Stop = true

-- the system is stopped by it
abbrev pub marked_by : Entry → ℕ
marked_by (Decided seat call answer) = 0
marked_by Stopped = 1

-- it is stopped once, or never
abbrev pub once_if : Bool → ℕ
once_if true = 1
once_if false = 0

-- these entries stood after so many events
pub record HaveStood (many : ℕ) (es : List Event) (os : List Outcome) (stood : List Entry) : Type 0 where
  -- each call joined between its begin and its answer
  pub parts : (seat : ℕ) → HasItsPart seat (take many es) (take many os) stood
  -- and the system is stopped once where one of the events stops it, and else never
  pub mark : sum_by marked_by stood ≡ once_if (list_any is_stop (take many es))

-- how much of the journal stood after so many events
pub record HasStood (many : ℕ) (es : List Event) (os : List Outcome) (journal : List Entry) : Type 0 where
  pub stood : List Entry
  pub later : List Entry
  pub journal_is : journal ≡ stood ++ later
  pub was : HaveStood many es os stood

-- ---- what a seat is told

-- what the rules have for the call that a seat has under way, if it has one
abbrev pub outcome_at : Option Caller → Option Call → State → Option (Answer × State)
outcome_at caller None s = None
outcome_at caller (Some call) s = outcome_for caller call s

-- what seats have done so far
pub record CallsSoFar : Type 0 where
  -- the call that each has under way
  pub under_way : ℕ → Option Call
  -- and whether that has moved, or was blocked, by what it was told last
  pub moved : ℕ → Bool

-- it has a call under way that may hold locks
pub record IsInTheWayOf (seat other : ℕ) (s : CallsSoFar) : Type 0 where
  pub another : other ≢ seat
  pub there : IsSome (s.under_way other)
  pub moved : s.moved other ≡ true

-- a call has something to insert: where so many of these entries stood it is answered something new, the next id or a
-- message, if its caller may make it
pub record HasToInsert (callers : List Caller) (base : State) (call : Call) (stood : List Entry) : Type 0 where
  pub since : ℕ
  pub within : since ≤ length stood
  pub caller : Caller
  pub answer : Answer
  pub then : State
  pub comes : outcome caller call (after callers (take since stood) base) ≡ Some (answer, then)
  pub adds : AddsTo (after callers (take since stood) base) answer

-- after events with these outcomes
abbrev pub calls_so_far : List Event → List Outcome → CallsSoFar
calls_so_far es os = record {
  under_way = λ seat. call_under_way seat es os;
  moved = λ seat. may_hold_locks seat es os;
}

-- the call of a seat had something to insert at a moment since it began, after so many of these events: in the system
-- after what stood then it is answered something new, the next id or a message, if its caller may make it
pub record LackedRoom (callers : List Caller) (base : State) (seat : ℕ) (es : List Event) (os : List Outcome)
    (journal : List Entry) : Type 0 where
  pub many : ℕ
  -- no other has begun there since
  pub same : begins_along seat (drop many es) (drop many os) ≡ false
  pub call : Call
  pub under_way : call_under_way seat (take many es) (take many os) ≡ Some call
  -- what of the journal stood then
  pub moment : HasStood many es os journal
  pub caller : Caller
  pub answer : Answer
  pub then : State
  pub comes : outcome caller call (after callers moment.stood base) ≡ Some (answer, then)
  pub adds : AddsTo (after callers moment.stood base) answer
  -- where no call was in its way then, the records that the system has with it are more than a bucket holds
  pub full : ((other : ℕ) → IsInTheWayOf seat other (calls_so_far (take many es) (take many os)) → ⊥) →
      ROOM_BYTES < bytes_of_system then

-- a seat, after these events, and behind which these entries stand: it waits only where the rules have no answer, and a
-- record has no room only where its call lacked it
abbrev pub IsToldFor : List Caller → State → ℕ → List Event → List Outcome → Step → List Entry → Type 0
IsToldFor callers base seat es os steps.Waiting stood =
    outcome_at (caller_at callers seat) (call_under_way seat es os) (after callers stood base) ≡ None
IsToldFor callers base seat es os (steps.Blocked other) stood = IsInTheWayOf seat other (calls_so_far es os)
IsToldFor callers base seat es os (steps.Fault faults.NoRoom) stood = LackedRoom callers base seat es os stood
IsToldFor callers base seat es os _ stood = ⊤

-- by an event with this outcome
abbrev pub IsToldBy : List Caller → State → List Event → List Outcome → Event → Outcome → List Entry → Type 0
IsToldBy callers base es os (events.Step seat) (outcomes.Stepped did) stood =
    IsToldFor callers base seat es os did stood
IsToldBy callers base es os (events.Drive seat) (outcomes.Driven did) stood =
    IsToldFor callers base seat es os did stood
IsToldBy callers base es os _ _ stood = ⊤

-- the event behind so many others tells its seat no other reason, beside the journal as it stands behind it
pub record TellsRightly (callers : List Caller) (base : State) (many : ℕ) (es : List Event) (os : List Outcome)
    (journal : List Entry) : Type 0 where
  pub moment : HasStood (suc many) es os journal
  pub told : (e : Event) (o : Outcome) → slice_get es many ≡ Some e → slice_get os many ≡ Some o →
      IsToldBy callers base (take many es) (take many os) e o moment.stood
