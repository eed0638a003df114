use Rattle.interleavings.proofs.HoldLemmas.{begin_apart, hold_apart, try_apart}
use Rattle.interleavings.proofs.seat_laws.others_leave_what_a_call_knows.Goals as goal

pub returns-clause-begins : goal.returns-clause-begins
returns-clause-begins c = begin_apart

pub returns-clause-holds : goal.returns-clause-holds
returns-clause-holds c = hold_apart

pub returns-clause-tries : goal.returns-clause-tries
returns-clause-tries c = try_apart
