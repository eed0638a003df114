use Rattle.type_chains.proofs.TypesStand.{are_types_of}
use Rattle.type_chains.proofs.laws.the_types_are_those_of_the_messages.Goals as goal

pub returns : goal.returns
returns c = are_types_of
