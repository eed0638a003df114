use Rattle.std.proofs.Common.{◌≡◌, ap, ◌∙◌, length, rules}
use Rattle.replays.proofs.OpeningLemmas.{length-callers_of}
use Rattle.replays.proofs.opening.callers.Goals as goal

pub returns-clause-many : goal.returns-clause-many
returns-clause-many c =
    let seats : c.loop-place.place ≡ c.args.seats = search rules in
    ap length c.loop-place.invariant ∙ length-callers_of c.args.script.now.ids c.loop-place.place ∙ seats
