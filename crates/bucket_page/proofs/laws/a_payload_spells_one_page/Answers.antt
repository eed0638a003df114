use Rattle.bucket_page.proofs.PageLaws.{spelled_once}
use Rattle.bucket_page.proofs.laws.a_payload_spells_one_page.Goals as goal

pub returns : goal.returns
returns c = spelled_once
