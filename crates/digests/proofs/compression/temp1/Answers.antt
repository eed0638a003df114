use Rattle.std.proofs.Common.{refl}
use Rattle.digests.proofs.ColumnLemmas.{column-at}
use Rattle.digests.proofs.compression.temp1.Goals as goal

pub returns : goal.returns
returns c = λ lane within.
    let v = c.args.v.now in
    rw (
      c.add-2.ensures lane within,
      c.add.ensures lane within,
      c.splat.ensures lane within,
      c.add-chosen.ensures lane within,
      c.ch.ensures lane within,
      c.add-mixed.ensures lane within,
      c.big_sigma1.ensures lane within,
      column-at lane v 7,
      column-at lane v 4,
      column-at lane v 5,
      column-at lane v 6,
    )
    refl
