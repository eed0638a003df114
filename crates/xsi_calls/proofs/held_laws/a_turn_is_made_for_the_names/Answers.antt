use Rattle.xsi_calls.proofs.HeldTurnLemmas.{turns_are_right}
use Rattle.xsi_calls.proofs.held_laws.a_turn_is_made_for_the_names.Goals as goal

pub returns : goal.returns
returns c = turns_are_right
