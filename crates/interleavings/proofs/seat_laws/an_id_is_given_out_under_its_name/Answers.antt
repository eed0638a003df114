use Rattle.interleavings.proofs.GivenLemmas.{ids_are_given_out_under_names}
use Rattle.interleavings.proofs.seat_laws.an_id_is_given_out_under_its_name.Goals as goal

pub returns : goal.returns
returns c = ids_are_given_out_under_names
