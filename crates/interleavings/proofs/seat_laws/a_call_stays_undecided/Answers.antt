use Rattle.interleavings.proofs.AskLemmas.{asks_under_new_names, counts_for_others, stays_undecided}
use Rattle.interleavings.proofs.seat_laws.a_call_stays_undecided.Goals as goal

pub returns-clause-stays : goal.returns-clause-stays
returns-clause-stays c = stays_undecided

pub returns-clause-counts : goal.returns-clause-counts
returns-clause-counts c = counts_for_others

pub returns-clause-own : goal.returns-clause-own
returns-clause-own c = asks_under_new_names
