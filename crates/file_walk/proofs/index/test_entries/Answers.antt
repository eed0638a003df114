-- Entry by entry, up to the end of the directory.
use Rattle.std.proofs.Common.{refl, below_more, arith}
use Rattle.hash_file.specs.Chain.{IsBucketOn}
use Rattle.hash_file.specs.Store.{entry_at}
use Rattle.file_walk.proofs.index.test_entries.Goals as goal

pub loop-index-preserved : goal.loop-index-preserved
loop-index-preserved c =
    below_more (λ i. IsBucketOn c.args.file.now c.args.chain.now i (entry_at c.args.file.now i)) c.loop-index.index
    c.loop-index.invariant (c.if-not-is_bucket_of.ensures.0 refl)

pub returns-clause-ok : goal.returns-clause-ok
returns-clause-ok c = λ i small. c.loop-index.invariant i
    (let ended = c.loop-index-test.false in let number = c.entries-index-end.ensures in omega arith)
