use Rattle.interleavings.proofs.SeatNameLemmas.{ask_under_names, names_are_apart, pay_under_names, records_stay}
use Rattle.interleavings.proofs.seat_laws.no_other_writes_under_a_calls_names.Goals as goal

pub returns-clause-pays : goal.returns-clause-pays
returns-clause-pays c = pay_under_names

pub returns-clause-asks : goal.returns-clause-asks
returns-clause-asks c = ask_under_names

pub returns-clause-apart : goal.returns-clause-apart
returns-clause-apart c = names_are_apart

pub returns-clause-records : goal.returns-clause-records
returns-clause-records c = records_stay
