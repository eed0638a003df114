-- A bucket of the file is on the chain.
use Rattle.std.proofs.Common.{sym, subst}
use Rattle.hash_file.specs.Chain.{IsBucketOn}
use Rattle.file_walk.proofs.IndexLemmas.{bucket_is, bucket_has}
use Rattle.file_walk.proofs.index.is_bucket_of.Goals as goal

pub returns-then-is_valid : goal.returns-then-is_valid
returns-then-is_valid c = (
  λ is. subst (IsBucketOn c.args.file.now c.args.chain.now c.args.index) c.entry.ensures
      (bucket_is c.args.file.now c.args.chain.now c.entry.result c.args.index c.in-Some.bucket c.keeps_layout.ensures
      c.requires.spares c.in-Some.ensures.some (c.covers.ensures.0 is)),
  λ on. c.covers.ensures.1
      (bucket_has c.args.file.now c.args.chain.now c.entry.result c.args.index c.in-Some.bucket c.in-Some.ensures.some
      (subst (IsBucketOn c.args.file.now c.args.chain.now c.args.index) (sym c.entry.ensures) on)),
)
