use Rattle.interleavings.proofs.StayLemmas.{behind_apart, stays_apart, steps_apart}
use Rattle.interleavings.proofs.seat_laws.a_call_stays_apart_by_its_own_steps.Goals as goal

pub returns-clause-stays : goal.returns-clause-stays
returns-clause-stays c = stays_apart

pub returns-clause-behind : goal.returns-clause-behind
returns-clause-behind c = behind_apart

pub returns-clause-steps : goal.returns-clause-steps
returns-clause-steps c = steps_apart
