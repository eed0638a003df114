-- The message is there, and its type is the one of the key.
use Rattle.std.proofs.Common.{sym, ap, ◌∙◌, rules, w64}
use Rattle.std.proofs.lemmas.Int.{to_z-of_z}
use mir.Val.{SFits}
use Rattle.type_chains.specs.RecordOf.{has_number}
use Rattle.file_check.proofs.NeedsLemmas.{type_there}
use Rattle.file_check.proofs.needs.names_message.Goals as goal

pub returns : goal.returns
returns c = λ is.
    let fits : SFits w64 c.get.result.now.mtype = search rules in
    let told = c.has_number.ensures
    ∙ ap (has_number c.args.key.now.number) (to_z-of_z w64 c.get.result.now.mtype fits) in
    type_there c.args.key.now.number c.args.messages.now c.in-Some.place c.get.result.now
    c.in-Some.ensures.some.within (sym c.get.ensures) (sym told ∙ is)
