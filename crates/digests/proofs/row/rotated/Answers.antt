use Rattle.std.proofs.Common.{arith, refl, ◌-◌}
use Rattle.std.proofs.lemmas.List.{get_or-replicate}
use Rattle.digests.proofs.RowLemmas.{rotated-lane}
use Rattle.digests.proofs.row.rotated.Goals as goal

pub returns : goal.returns
returns c = λ lane within.
    rotated-lane lane within c.args.x _ _ c.args.by (omega arith) refl refl c.requires.low c.requires.high
    (get_or-replicate 4 lane c.args.by 0 within) (get_or-replicate 4 lane (32 - c.args.by) 0 within)
