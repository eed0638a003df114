use Rattle.call_entries.proofs.EntryLemmas.{one_call}
use Rattle.call_entries.proofs.laws.an_entry_is_of_one_call.Goals as goal

pub returns : goal.returns
returns c = one_call
