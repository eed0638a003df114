use Rattle.bucket_page.proofs.KeyLaws.{key_small, owner_first}
use Rattle.bucket_page.proofs.record_key.owner_at.Goals as goal

-- the five upper bytes are those of the kind and the queue
pub returns-clause-value : goal.returns-clause-value
returns-clause-value c =
    rw c.eight_at.ensures (owner_first c.args.bytes.now (λ i. (c.type_inv.bytes i).fits))

pub returns-clause-small : goal.returns-clause-small
returns-clause-small c = (key_small c.args.bytes.now (λ i. (c.type_inv.bytes i).fits)).queue
