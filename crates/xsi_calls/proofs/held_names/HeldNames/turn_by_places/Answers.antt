use Rattle.std.proofs.Common.{sym, ◌∙◌, arith, length}
use Rattle.call_writes.specs.call_decisions.Names.{names_for}
use Rattle.xsi_calls.proofs.HeldTurnLemmas.{differs_in, ends_in, goes_on_in, takes_next}
use Rattle.xsi_calls.proofs.held_names.HeldNames.turn_by_places.Goals as goal

pub returns-then-not-is_there : goal.returns-then-not-is_there
returns-then-not-is_there c =
    sym (c.loop-place.invariant ∙ differs_in _ _ _ _ _ _ (c.as_slice-held.ensures.value ∙ c.self.view_is)
    c.loop-place-test.true c.name_at.ensures (sym c.is_there.ensures ∙ c.if-not-is_there.true))

pub loop-place-preserved : goal.loop-place-preserved
loop-place-preserved c =
    c.loop-place.invariant ∙ goes_on_in _ _ _ _ _ _ (c.as_slice-held.ensures.value ∙ c.self.view_is)
    c.loop-place-test.true c.name_at.ensures (sym c.is_there.ensures ∙ c.if-not-is_there.false)

pub returns-in-Some : goal.returns-in-Some
returns-in-Some c =
    let last = c.loop-place-test.false in
    let within = c.loop-place.auto.place-end in
    sym (c.loop-place.invariant ∙ ends_in _ _ _ _ (c.as_slice-held.ensures.value ∙ c.self.view_is)
    (omega (arith, last, within))
    ∙ takes_next (names_for c.args.call.now c.args.inquiry.now) (length c.as_slice-held.result.now) c.in-Some.lock
    (sym c.name_at-2.ensures ∙ c.in-Some.is))
