use Rattle.std.proofs.Common.{◌≡◌, pos, Some, take, sym, ap, ◌∙◌, arith, rules}
use Rattle.std.proofs.lemmas.List.{take_all}
use Rattle.queue_model.specs.Selection.{lowest_type, has_type}
use Rattle.std.proofs.lemmas.Int.{to_z-of_z}
use Rattle.std.specs.Option.{option_eq}
use Rattle.std.specs.Ordering.{int_eq}
use mir.Val.{SFits}
use mir.Syntax.{w64}
use Rattle.queue_model.proofs.SelectionLemmas.{has_type-option_eq}
use Rattle.queue_model.proofs.ListLemmas.{position_at, position_None}
use Rattle.queue_model.proofs.message.first_of_lowest.Goals as goal

-- after the first loop, what was found is the lowest of all types
pub returns-then-eq : goal.returns-then-eq
returns-then-eq c =
    let ms = c.args.messages.now in
    let whole : take c.loop-message.message-index ms ≡ ms = take_all _ ms (omega arith) in
    let lowest : lowest_type (pos c.args.bound) ms ≡ c.loop-message.lowest =
    sym (ap (lowest_type _) whole) ∙ sym c.loop-message.invariant in
    let item = c.index-messages-place.result in
    let found = c.loop-message.lowest in
    let fits : SFits w64 item.mtype = search rules in
    let same = ap (λ t. option_eq int_eq (Some t) found) (to_z-of_z w64 item.mtype fits) in
    let passes = sym (has_type-option_eq found item) ∙ sym same ∙ sym c.eq.ensures ∙ c.if-eq.true in
    let stands = ap (has_type c.loop-message.lowest) (sym c.index-messages-place.is) ∙ passes in
    rw lowest (sym (position_at (has_type c.loop-message.lowest) ms c.loop-place.place item
    (omega arith) c.loop-place.invariant stands))

pub returns : goal.returns
returns c =
    let ms = c.args.messages.now in
    let whole : take c.loop-message.message-index ms ≡ ms = take_all _ ms (omega arith) in
    let lowest : lowest_type (pos c.args.bound) ms ≡ c.loop-message.lowest =
    sym (ap (lowest_type _) whole) ∙ sym c.loop-message.invariant in
    rw lowest (sym (position_None _ ms (λ k d h. c.loop-place.invariant k d (omega arith))))
