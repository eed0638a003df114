use Rattle.std.proofs.Common.{refl}
use Rattle.digests.proofs.ColumnLemmas.{column-at}
use Rattle.digests.proofs.compression.temp2.Goals as goal

pub returns : goal.returns
returns c = λ lane within.
    let v = c.args.v.now in
    rw (
      c.add.ensures lane within,
      c.big_sigma0.ensures lane within,
      c.maj.ensures lane within,
      column-at lane v 0,
      column-at lane v 1,
      column-at lane v 2,
    )
    refl
