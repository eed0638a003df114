use Rattle.bucket_page.proofs.RecordLaws.{fills_just}
use Rattle.bucket_page.proofs.laws.records_fill_just_their_bytes.Goals as goal

pub returns : goal.returns
returns c = fills_just
