use Rattle.bucket_page.proofs.LookupLaws.{lookup_replaced}
use Rattle.bucket_page.proofs.laws.replace_sets_one_key.Goals as goal

pub returns : goal.returns
returns c = lookup_replaced
