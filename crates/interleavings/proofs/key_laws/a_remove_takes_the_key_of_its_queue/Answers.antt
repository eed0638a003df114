use Rattle.interleavings.proofs.KeyLemmas.{takes_its_key}
use Rattle.interleavings.proofs.key_laws.a_remove_takes_the_key_of_its_queue.Goals as goal

pub returns : goal.returns
returns g c = takes_its_key c.a_step_does_what_its_seat_is_told.ensures
