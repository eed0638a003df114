use Rattle.interleavings.proofs.AlikeLemmas.{others_lead_alike}
use Rattle.interleavings.proofs.seat_laws.a_call_goes_over_where_its_records_stay.Goals as goal

pub returns : goal.returns
returns c = others_lead_alike
