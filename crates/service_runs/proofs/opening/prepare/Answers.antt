use Rattle.std.proofs.Common.{◌≤◌, ◌+◌, ◌*◌, length, ap, ◌∙◌, arith}
use Rattle.std.proofs.lemmas.Int.{clamps}
use Rattle.std.proofs.lemmas.Result.{IfErr-weaker, IfOk-weaker}
use Rattle.bucket_page.specs.Pseudokeys.{sha_key}
use Rattle.replays.proofs.OpeningLemmas.{greatest_within, length-callers_of, never_too_few, refused_unchecked}
use Rattle.replays.specs.Replays.{callers_of}
use Rattle.service_runs.proofs.PlanLemmas.{prepared_for}
use Rattle.service_runs.proofs.opening.prepare.Goals as goal

pub open-requires-clause-some : goal.open-requires-clause-some
open-requires-clause-some g c =
    let many = ap length (c.as_slice.ensures.value ∙ c.in-Ok.ensures)
    ∙ length-callers_of c.args.script.now.ids c.greatest_seat-seats.result in
    let same = c.greatest_seat-seats.ensures in
    let some = (greatest_within c.args.script.now c.keeps_seats.ensures).0 in
    omega (arith, many, same, some)

pub open-requires-clause-few : goal.open-requires-clause-few
open-requires-clause-few g c =
    let many = ap length (c.as_slice.ensures.value ∙ c.in-Ok.ensures)
    ∙ length-callers_of c.args.script.now.ids c.greatest_seat-seats.result in
    let same = c.greatest_seat-seats.ensures in
    let few = (greatest_within c.args.script.now c.keeps_seats.ensures).1 in
    omega (arith, many, same, few)

-- the callers are those of the script's seats
pub returns-clause-ok : goal.returns-clause-ok
returns-clause-ok g c =
    IfOk-weaker c.open.result _ _
    (λ p. prepared_for c.args.script.now _ _ _ _ _ enough
    (c.as_slice.ensures.value ∙ c.in-Ok.ensures ∙ ap (callers_of c.args.script.now.ids) c.greatest_seat-seats.ensures)
    p) c.open.ensures.ok
  where
    -- there are as many frames as pages, or more
    enough : length (g.D.PageDevice.content c.args.device) ≤ c.max-frames.result
    enough =
        let pages = c.pages.ensures in
        let frames = c.max-frames.ensures in
        omega (arith, clamps, pages, frames)

-- there are frames enough
pub returns-clause-enough : goal.returns-clause-enough
returns-clause-enough g c =
    let many = ap length (c.as_slice.ensures.value ∙ c.in-Ok.ensures)
    ∙ length-callers_of c.args.script.now.ids c.greatest_seat-seats.result in
    let from = c.from.ensures in
    let clamped = c.max-frames.ensures in
    let enough : 4 * length c.as_slice.result.now + 8 ≤ c.max-frames.result =
    omega (arith, clamps, many, from, clamped) in
    never_too_few c.open.result _ _ enough c.open.ensures.few

-- memory is taken before the file is checked
pub returns-clause-refused : goal.returns-clause-refused
returns-clause-refused g c = λ true_to_it.
    IfErr-weaker c.open.result _ _
    (λ refusal. refused_unchecked sha_key (g.D.PageDevice.content c.args.device) refusal.1)
    (c.open.ensures.refused true_to_it)
