use Rattle.queue_model.proofs.JournalLemmas.{LeadsAlong-push}
use Rattle.queue_model.proofs.laws.a_journal_grows_by_an_entry.Goals as goal

pub returns : goal.returns
returns c = LeadsAlong-push
