use Rattle.std.proofs.Common.{◌≡◌, ap, ◌∙◌, length, rules}
use Rattle.replays.proofs.PlaceLemmas.{IsSound-start, length-places_at}
use Rattle.replays.proofs.progress.Progress.new.Goals as goal

-- no line was begun
pub invariant_of-result : goal.invariant_of-result
invariant_of-result c =
    let seats : c.loop-place.place ≡ c.args.seats = search rules in
    let lines : c.loop.counter ≡ length c.args.lines.now = search rules in
    rw (c.loop-place.invariant, c.loop.invariant, seats, lines) (IsSound-start c.args.lines.now c.args.seats)

pub returns-clause-many : goal.returns-clause-many
returns-clause-many c =
    let seats : c.loop-place.place ≡ c.args.seats = search rules in
    ap length c.loop-place.invariant ∙ length-places_at c.args.lines.now c.loop-place.place ∙ seats
