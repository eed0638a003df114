use Rattle.std.proofs.Common.{sym, refl}
use Rattle.sha2.proofs.Schedule256.{rounds_first}
use Rattle.digests.specs.Lanes.{column}
use Rattle.digests.proofs.ColumnLemmas.{column-at}
use Rattle.digests.proofs.compression.first_step.Goals as goal

pub returns : goal.returns
returns c = λ b h lane within window held.
    let w = c.args.w.now in
    rounds_first b h (column lane w) (column lane c.args.v) c.args.t _ _ _ c.requires window held refl
    (sym (column-at lane w c.args.t)) (c.round.ensures lane within)
