use Rattle.interleavings.proofs.BesideLemmas.{leave_what_they_read, others_leave, sees_behind, sees_on}
use Rattle.interleavings.proofs.seat_laws.a_seat_sees_what_it_saw.Goals as goal

pub returns-clause-leaves : goal.returns-clause-leaves
returns-clause-leaves c = others_leave

pub returns-clause-reads : goal.returns-clause-reads
returns-clause-reads c = leave_what_they_read

pub returns-clause-sees : goal.returns-clause-sees
returns-clause-sees c = sees_on

pub returns-clause-own : goal.returns-clause-own
returns-clause-own c = sees_behind
