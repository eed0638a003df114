use Rattle.call_decisions.proofs.DecideLemmas.{answers_owe, sweeps_owe}
use Rattle.call_decisions.proofs.owed_laws.a_decision_owes_the_system_after.Goals as goal

pub returns-clause-answers : goal.returns-clause-answers
returns-clause-answers c = answers_owe

pub returns-clause-sweeps : goal.returns-clause-sweeps
returns-clause-sweeps c = sweeps_owe
