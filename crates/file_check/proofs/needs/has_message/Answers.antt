-- It has where there is a place of it.
use Rattle.std.proofs.Common.{◌∙◌}
use Rattle.type_chains.specs.RecordOf.{has_serial}
use Rattle.file_check.proofs.NeedsLemmas.{is_found}
use Rattle.file_check.proofs.needs.has_message.Goals as goal

pub returns : goal.returns
returns c = c.is_some.ensures
    ∙ is_found (has_serial c.args.serial) c.args.messages.now c.place_of_message.result
    c.place_of_message.ensures.some c.place_of_message.ensures.none
