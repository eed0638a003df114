use Rattle.std.proofs.Common.{None}
use Rattle.bucket_page.proofs.LookupLaws.{lookup_removed}
use Rattle.bucket_page.proofs.laws.remove_clears_one_key.Goals as goal

pub returns : goal.returns
returns c = λ key gone ps. lookup_removed key gone None ps
