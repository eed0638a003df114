use Rattle.interleavings.proofs.NameLemmas.{seats_hold}
use Rattle.interleavings.proofs.laws.seats_hold_their_names.Goals as goal

pub returns : goal.returns
returns g c = seats_hold c.calls_hold_their_names.ensures c.calls_name_what_is_there.ensures _
