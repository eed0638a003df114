use Rattle.bucket_page.proofs.LookupLaws.{lookup_merged}
use Rattle.bucket_page.proofs.laws.a_join_has_the_pairs_of_both.Goals as goal

pub returns : goal.returns
returns c = lookup_merged
