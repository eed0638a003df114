use Rattle.bucket_page.proofs.KeyLaws.{exactly}
use Rattle.bucket_page.proofs.record_key.RecordKey.from_bytes.Goals as goal

pub returns-clause-back : goal.returns-clause-back
returns-clause-back c = exactly c.args.bytes.now c.key_at.result c.told-bytes c.fits-bytes c.key_at.ensures
