use Rattle.hash_file.proofs.Ties.{roles_are_one}
use Rattle.hash_file.proofs.laws.each_page_has_one_role.Goals as goal

pub returns : goal.returns
returns c = roles_are_one
