use Rattle.call_entries.proofs.EntryLemmas.{lead_once}
use Rattle.call_entries.proofs.laws.entries_lead_to_one_system.Goals as goal

pub returns : goal.returns
returns c = lead_once
