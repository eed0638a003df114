use Rattle.std.proofs.Common.{arith, ◌≡◌, ◌+◌, ◌%◌, ℕ, List, sym, ap, ◌∙◌, subst}
use Rattle.page_locks.specs.declared.slot.Slot.{Slot}
use Rattle.page_locks.specs.Probing.{home, after, slot_at, holders_of, HasHomesApart}
use Rattle.page_locks.proofs.CircleLemmas.{gap-after}
use Rattle.page_locks.proofs.ProbeLemmas.{home-lt}
use Rattle.page_locks.proofs.SlotLemmas.{slot-read}
use Rattle.page_locks.proofs.SpotLemmas.{HasFree-few, IsSpot-found, spot-holders, looked_once}
use Rattle.page_locks.proofs.slots.Slots.spot.Goals as goal

-- fewer names than slots leave a slot free
pub steps_to-steps-requires-clause-free : goal.steps_to-steps-requires-clause-free
steps_to-steps-requires-clause-free c =
    let few = rw (← c.self.view_is) at c.requires.few in
    rw c.deref.ensures.value (HasFree-few c.self.inside.slots.items c.self.invariant few)

-- the slot where the search ends is the name's spot, with its holders
pub returns-clause-holders : goal.returns-clause-holders
returns-clause-holders c =
    let slots = c.self.inside.slots.items in
    let name = c.args.name in
    let steps = c.steps_to-steps.result in
    let end = rw c.deref.ensures.value at c.steps_to-steps.ensures in
    let spot = IsSpot-found slots name steps end.within end.passed end.open in
    let place_is : (c.home-first.result + steps) % 1024 ≡ after (home name) steps =
    ap (λ (x : ℕ). (x + steps) % 1024) c.home-first.ensures.value
    in
    let read =
    slot-read slots ((c.home-first.result + steps) % 1024) _ _ (omega (arith, c.self.invariant.as_many)) c.index.ensures
    in
    ap (λ (s : Slot). s.holders) (read ∙ ap (slot_at slots) place_is) ∙
    spot-holders slots name (after (home name) steps) c.self.invariant spot ∙
    ap (λ (t : List Slot). holders_of t name) c.self.view_is

-- where homes are apart the search ends where it begins
pub returns-clause-once : goal.returns-clause-once
returns-clause-once c = λ apart.
    let slots = c.self.inside.slots.items in
    let name = c.args.name in
    let steps = c.steps_to-steps.result in
    let end = rw c.deref.ensures.value at c.steps_to-steps.ensures in
    let spot = IsSpot-found slots name steps end.within end.passed end.open in
    let few = rw (← c.self.view_is) at c.requires.few in
    let there = subst (λ (t : List Slot). HasHomesApart t name) (sym c.self.view_is) apart in
    let free = HasFree-few slots c.self.invariant few in
    let none = looked_once slots c.self.invariant free name there (after (home name) steps) spot in
    omega (arith, none, gap-after (home name) steps (home-lt name) end.within)
