use Rattle.interleavings.proofs.SeatCountLemmas.{counts_while_alive, gives_out_next, keeps_alive_under_counter}
use Rattle.interleavings.proofs.seat_laws.a_queue_is_counted_while_it_is_alive.Goals as goal

pub returns-clause-gives : goal.returns-clause-gives
returns-clause-gives c = gives_out_next

pub returns-clause-counts : goal.returns-clause-counts
returns-clause-counts c = counts_while_alive

pub returns-clause-stays : goal.returns-clause-stays
returns-clause-stays c = keeps_alive_under_counter
