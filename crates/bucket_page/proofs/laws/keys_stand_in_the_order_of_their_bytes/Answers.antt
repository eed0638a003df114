use Rattle.bucket_page.proofs.KeyOrderLaws.{key_order}
use Rattle.bucket_page.proofs.laws.keys_stand_in_the_order_of_their_bytes.Goals as goal

pub returns : goal.returns
returns c = key_order
