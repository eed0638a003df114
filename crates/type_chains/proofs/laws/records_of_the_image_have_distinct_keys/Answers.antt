use Rattle.type_chains.proofs.Owners.{keys_apart}
use Rattle.type_chains.proofs.laws.records_of_the_image_have_distinct_keys.Goals as goal

pub returns : goal.returns
returns c = keys_apart
