use Rattle.xsi_calls.proofs.HeldTurnLemmas.{are_few_turns, turns_come_nearer}
use Rattle.xsi_calls.proofs.held_laws.turns_come_to_an_end.Goals as goal

pub returns-clause-nearer : goal.returns-clause-nearer
returns-clause-nearer c = turns_come_nearer

pub returns-clause-few : goal.returns-clause-few
returns-clause-few c = are_few_turns
