use Rattle.bucket_page.proofs.KeyLaws.{read_back}
use Rattle.bucket_page.proofs.record_key.RecordKey.to_bytes.Goals as goal

pub returns-clause-back : goal.returns-clause-back
returns-clause-back c = read_back c.args.self c.write_key.new.bytes c.fits_bytes.ensures c.write_key.ensures
