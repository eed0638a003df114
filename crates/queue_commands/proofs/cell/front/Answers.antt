use Rattle.std.proofs.Common.{rules, ◌≤◌, length}
use Rattle.queue_commands.proofs.TableLemmas.{taken, whole}
use Rattle.queue_commands.proofs.cell.front.Goals as goal

-- a longer body has so many bytes
pub slice_bounds-result-end : goal.slice_bounds-result-end
slice_bounds-result-end c =
    let long : 32 ≤ length c.args.body.now = search rules in
    taken 32 c.args.body.now long

-- a body that is no longer is its own front
pub returns-then-body-le-PREVIEW_BYTES : goal.returns-then-body-le-PREVIEW_BYTES
returns-then-body-le-PREVIEW_BYTES c =
    let short : length c.args.body.now ≤ 32 = search rules in
    whole 32 c.args.body.now short
