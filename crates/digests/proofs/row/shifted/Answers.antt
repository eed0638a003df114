use Rattle.std.proofs.Common.{arith, refl}
use Rattle.std.proofs.lemmas.List.{get_or-replicate}
use Rattle.digests.proofs.RowLemmas.{shifted-lane}
use Rattle.digests.proofs.row.shifted.Goals as goal

pub returns : goal.returns
returns c = λ lane within.
    shifted-lane lane within c.args.x _ c.args.by (omega arith) refl (get_or-replicate 4 lane c.args.by 0 within)
