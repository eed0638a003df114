use Rattle.interleavings.proofs.OwedLemmas.{owed_is_the_rest}
use Rattle.interleavings.proofs.laws.what_is_owed_is_the_rest.Goals as goal

pub returns : goal.returns
returns g c = owed_is_the_rest c.calls_owe_apart.ensures _
