-- One by one.
use Rattle.std.proofs.Common.{sym, ap, ◌∙◌, arith, rules, w64}
use Rattle.std.proofs.lemmas.Int.{to_z-of_z}
use mir.Val.{SFits}
use Rattle.queue_model.specs.declared.message.Message.{Message}
use Rattle.type_chains.specs.RecordOf.{has_number}
use Rattle.file_check.proofs.NeedsLemmas.{one_more, type_there, type_nowhere}
use Rattle.file_check.proofs.needs.has_type.Goals as goal

pub returns-then-has_number : goal.returns-then-has_number
returns-then-has_number c =
    let fits : SFits w64 c.get.result.now.mtype = search rules in
    let is = c.has_number.ensures ∙ ap (has_number c.args.number) (to_z-of_z w64 c.get.result.now.mtype fits) in
    type_there c.args.number c.args.messages.now c.loop-place.place c.get.result.now
    (omega arith) (sym c.get.ensures) (sym is ∙ c.if-has_number.true)

pub loop-place-preserved : goal.loop-place-preserved
loop-place-preserved c =
    let fits : SFits w64 c.get.result.now.mtype = search rules in
    let is = c.has_number.ensures ∙ ap (has_number c.args.number) (to_z-of_z w64 c.get.result.now.mtype fits) in
    one_more (λ (m : Message). has_number c.args.number m.mtype) c.args.messages.now c.loop-place.place
    c.get.result.now (omega arith) (sym c.get.ensures) (sym is ∙ c.if-has_number.false) c.loop-place.invariant

pub returns : goal.returns
returns c =
    type_nowhere c.args.number c.args.messages.now c.loop-place.place (omega arith) c.loop-place.invariant
