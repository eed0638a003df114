use Rattle.type_chains.proofs.Images.{image_agrees}
use Rattle.type_chains.proofs.laws.the_image_is_the_records_at_their_keys.Goals as goal

pub returns : goal.returns
returns c = image_agrees
