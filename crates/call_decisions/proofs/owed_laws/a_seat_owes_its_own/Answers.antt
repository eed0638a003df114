use Rattle.call_decisions.proofs.OverlayLemmas.{all_local, leaves_others, overlaid_rest, owes_alone}
use Rattle.call_decisions.proofs.owed_laws.a_seat_owes_its_own.Goals as goal

pub returns-clause-local : goal.returns-clause-local
returns-clause-local c = all_local

pub returns-clause-rest : goal.returns-clause-rest
returns-clause-rest c = overlaid_rest

pub returns-clause-alone : goal.returns-clause-alone
returns-clause-alone c = owes_alone

pub returns-clause-others : goal.returns-clause-others
returns-clause-others c = leaves_others
