use Rattle.hash_file.proofs.Ties.{leading_is_before}
use Rattle.hash_file.proofs.laws.leading_is_standing_at_or_before.Goals as goal

pub returns : goal.returns
returns c = leading_is_before
