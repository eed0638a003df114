use Rattle.machine_trials.proofs.WrongTurnLemmas.{wrong_turns}
use Rattle.machine_trials.proofs.laws.wrong_turns_are_not_allowed.Goals as goal

pub returns : goal.returns
returns c = wrong_turns
