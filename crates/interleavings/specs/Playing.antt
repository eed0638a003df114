-- What events over the file of a device come to, from its opening to its closing: told by its pages, by what each seat
-- was told and by the journal alone. docs/QUEUES.md, "Journals", "Order"; docs/STEPS.md, "Calls".
use Rattle.std.specs.Prelude.{ℕ, ◌≡◌, ◌↔◌, Bool, true, IsSome, IsTrue, List, Some, None, length}
use Rattle.std.specs.List.{list_any}
use Rattle.page_device.specs.Device.{HasRisen}
use Rattle.interleaving_core.specs.declared.fault.CloseFault.TheVariants as closes
use Rattle.interleavings.specs.Words.{Caller, IsLegal, State, after, restarted}
use Rattle.interleavings.specs.Moments.{HasItsPart, HasStood, TellsRightly}
use Rattle.interleavings.specs.Outcomes.{AreOutcomes, call_under_way, nothing_yet, tells_failure}
use Rattle.interleavings.specs.declared.event.Event.{Event}
use Rattle.interleavings.specs.declared.playing.EndFault.TheVariants.{Busy, Close}
use Rattle.interleavings.specs.declared.playing.Played.{Played}

-- ---- of any device

pub record HasPlayed {D : Type 0} (es : List Event) (played : Played D) : Type 0 where
  pub outcomes : AreOutcomes nothing_yet es played.outcomes.items
  -- each seat was told its part of the journal
  pub told : (seat : ℕ) → HasItsPart seat es played.outcomes.items played.journal.items
  -- which is a linearization (Herlihy and Wing 1990): a call that began after another was answered stands after it
  pub linear : (many : ℕ) → HasStood many es played.outcomes.items played.journal.items
  -- where nothing is told of its end each call has ended; where that is Busy one has not, and no step has failed
  pub ended : played.fault ≡ None → (seat : ℕ) → call_under_way seat es played.outcomes.items ≡ None
  pub busy : played.fault ≡ Some Busy → (seat : ℕ) × IsSome (call_under_way seat es played.outcomes.items)
  pub failed : (played.fault ≡ Some (Close closes.Failed)) ↔ (list_any tells_failure played.outcomes.items ≡ true)

-- why the file was not closed well, where these were the faults of its device before and after
pub record HasReason {D : Type 0} (honest : Bool) (old new : ℕ) (played : Played D) : Type 0 where
  -- a transfer failed where the pages were written
  pub device : played.fault ≡ Some (Close closes.Device) → HasRisen old new
  -- or one did in a step
  pub step : IsTrue honest → played.fault ≡ Some (Close closes.Failed) → HasRisen old new

-- ---- of a device that gives back what was written

-- whatever the events, and so whatever the order of the seats' steps; pages are a system in this way
pub record PlaysAsPlainLists {D : Type 0} (Is : List (List ℕ) → State → Type 0) (callers : List Caller)
    (es : List Event) (content left : List (List ℕ)) (is_synced : Bool) (played : Played D) : Type 0 where
  -- the one system that the pages of the device were
  pub base : State
  pub file : Is content base
  -- each entry's answer is the outcome of its call, by the rules, in the system after the entries before it
  pub legal : IsLegal callers played.journal.items base
  -- a seat is told that it waits only where the rules have no answer, and that another blocks it only where that has a
  -- call under way that has moved, or was blocked last
  pub rightly : (many : ℕ) → TellsRightly callers base many es played.outcomes.items played.journal.items
  -- where each call has ended and nothing failed the pages that are left are the system after the journal, which is not
  -- stopped for who opens it next
  pub leaves : played.fault ≡ None → Is left (restarted (after callers played.journal.items base))
  -- they are as many
  pub pages : played.fault ≡ None → length left ≡ length content
  -- and synced, so that what was written outlasts the program
  pub synced : played.fault ≡ None → IsTrue is_synced
