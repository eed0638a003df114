use Rattle.queue_model.proofs.JournalLemmas.{after-LeadsAlong}
use Rattle.queue_model.proofs.laws.a_journal_determines_its_system.Goals as goal

pub returns : goal.returns
returns c = after-LeadsAlong
