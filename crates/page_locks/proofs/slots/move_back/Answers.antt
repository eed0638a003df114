use Rattle.std.proofs.Common.{arith, ◌<◌, length, refl, sym, ◌∙◌}
use Rattle.page_locks.specs.Probing.{after}
use Rattle.page_locks.proofs.CircleLemmas.{after-lt}
use Rattle.page_locks.proofs.CloseLemmas.{Closes-empty, Closes-passed, Closes-moved}
use Rattle.page_locks.proofs.SlotLemmas.{slot-read}
use Rattle.page_locks.proofs.slots.move_back.Goals as goal

-- at an empty slot the hole closes
pub returns-then-is_nobody-clause-probed : goal.returns-then-is_nobody-clause-probed
returns-then-is_nobody-clause-probed c =
    let l = c.loop-steps in
    let lt : after c.args.start l.steps < length l.slots =
    omega (arith, after-lt c.args.start l.steps, l.invariant.opened.as_many)
    in
    let read = slot-read l.slots (after c.args.start l.steps) _ _ lt refl in
    Closes-empty c.args.slots.now l.slots c.args.start l.hole l.steps l.invariant c.loop-steps-test.true _ read
    (sym c.is_nobody.ensures ∙ c.if-is_nobody.true)

-- a name whose home comes after the hole stays
pub loop-steps-preserved-then-way-hole : goal.loop-steps-preserved-then-way-hole
loop-steps-preserved-then-way-hole c =
    let l = c.loop-steps in
    let lt : after c.args.start l.steps < length l.slots =
    omega (arith, after-lt c.args.start l.steps, l.invariant.opened.as_many)
    in
    let read = slot-read l.slots (after c.args.start l.steps) _ _ lt refl in
    Closes-passed c.args.slots.now l.slots c.args.start l.hole l.steps l.invariant c.loop-steps-test.true _ read
    (sym c.is_nobody.ensures ∙ c.if-is_nobody.false) (omega (arith, c.way.ensures))

-- another moves to the hole
pub loop-steps-preserved : goal.loop-steps-preserved
loop-steps-preserved c =
    let l = c.loop-steps in
    let lt : after c.args.start l.steps < length l.slots =
    omega (arith, after-lt c.args.start l.steps, l.invariant.opened.as_many)
    in
    let read = slot-read l.slots (after c.args.start l.steps) _ _ lt refl in
    Closes-moved c.args.slots.now l.slots c.args.start l.hole l.steps l.invariant c.loop-steps-test.true _ read
    (sym c.is_nobody.ensures ∙ c.if-is_nobody.false) (omega (arith, c.way.ensures))
