-- The Counter is put into a bucket without records, where it fits.
use Rattle.std.proofs.Common.{◌∙◌, sym, ap, subst}
use Rattle.bucket_page.specs.Bucket.{Bucket}
use Rattle.bucket_page.specs.Changes.{SpellsBucket}
use Rattle.bucket_page.specs.Records.{lookup}
use Rattle.record_file.proofs.FileLemmas.{read_again, root_written}
use Rattle.record_file.proofs.new_file.write_root.Goals as goal

pub put-requires-clause-bucket : goal.put-requires-clause-bucket
put-requires-clause-bucket c =
    subst (λ (b : Bucket). SpellsBucket b c.write_bucket.new.payload)
    (sym (read_again _ c.write_bucket.new.payload c.write_bucket.ensures)) c.write_bucket.ensures

pub put-requires-clause-absent : goal.put-requires-clause-absent
put-requires-clause-absent c =
    ap (λ (b : Bucket). lookup c.key.result b.records) (read_again _ c.write_bucket.new.payload c.write_bucket.ensures)

pub returns : goal.returns
returns c =
    root_written c.put.result c.write_bucket.new.payload c.put.new.payload c.key.result c.as_slice.result.now
    c.write_bucket.ensures c.key.ensures (c.as_slice.ensures.value ∙ c.encode.ensures) c.put.ensures.full
    c.put.ensures.ok
