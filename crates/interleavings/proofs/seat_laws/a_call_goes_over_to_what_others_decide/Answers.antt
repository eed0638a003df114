use Rattle.interleavings.proofs.ApartLemmas.{goes_over, others_decide, stops_beside}
use Rattle.interleavings.proofs.seat_laws.a_call_goes_over_to_what_others_decide.Goals as goal

pub returns-clause-over : goal.returns-clause-over
returns-clause-over c = goes_over

pub returns-clause-decided : goal.returns-clause-decided
returns-clause-decided c = others_decide

pub returns-clause-stopped : goal.returns-clause-stopped
returns-clause-stopped c = stops_beside
