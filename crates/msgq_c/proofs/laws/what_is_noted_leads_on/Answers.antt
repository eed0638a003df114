use Rattle.msgq_c.proofs.NotingLemmas.{notes_lead_on}
use Rattle.msgq_c.proofs.laws.what_is_noted_leads_on.Goals as goal

pub returns : goal.returns
returns c = notes_lead_on c.refusals_leave_the_system.ensures
