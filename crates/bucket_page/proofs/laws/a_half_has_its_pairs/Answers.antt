use Rattle.bucket_page.proofs.LookupLaws.{lookup_half}
use Rattle.bucket_page.proofs.laws.a_half_has_its_pairs.Goals as goal

pub returns : goal.returns
returns c = lookup_half
