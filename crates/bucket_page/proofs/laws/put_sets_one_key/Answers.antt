use Rattle.bucket_page.proofs.LookupLaws.{lookup_inserted}
use Rattle.bucket_page.proofs.laws.put_sets_one_key.Goals as goal

pub returns : goal.returns
returns c = lookup_inserted
