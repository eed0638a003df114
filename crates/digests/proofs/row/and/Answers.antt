use Rattle.std.proofs.Common.{arith, bit_and}
use Rattle.digests.proofs.RowLemmas.{zip2-lane}
use Rattle.digests.proofs.row.and.Goals as goal

pub returns : goal.returns
returns c = λ lane within. zip2-lane bit_and c.args.x c.args.y (omega arith) (omega arith) lane within
