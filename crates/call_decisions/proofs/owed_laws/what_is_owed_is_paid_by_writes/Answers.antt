use Rattle.call_decisions.proofs.OverlayLemmas.{trial_owed}
use Rattle.call_decisions.proofs.owed_laws.what_is_owed_is_paid_by_writes.Goals as goal

pub returns-clause-trials : goal.returns-clause-trials
returns-clause-trials c = trial_owed
