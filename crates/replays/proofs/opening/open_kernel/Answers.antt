use Rattle.std.proofs.Common.{◌≤◌, ◌∙◌, length, arith}
use Rattle.std.proofs.lemmas.Int.{clamps}
use Rattle.std.proofs.lemmas.Result.{IfErr-weaker, IfOk-weaker}
use Rattle.bucket_page.specs.Pseudokeys.{sha_key}
use Rattle.replays.proofs.OpeningLemmas.{opened_for, refused_unchecked}
use Rattle.replays.proofs.opening.open_kernel.Goals as goal

-- the callers are those of the script's seats
pub returns-clause-ok : goal.returns-clause-ok
returns-clause-ok g c =
    IfOk-weaker c.open.result _ _
    (opened_for c.args.script.now (g.D.PageDevice.content c.args.device) (g.D.PageDevice.is_honest c.args.device) _
    c.max-frames.result c.seats_of-seats.result c.as_slice.result.now enough c.seats_of-seats.ensures.value
    (c.as_slice.ensures.value ∙ c.in-Ok.ensures.ok)) c.open.ensures.ok
  where
    -- there are as many frames as pages, or more
    enough : length (g.D.PageDevice.content c.args.device) ≤ c.max-frames.result
    enough =
        let pages = c.pages.ensures in
        let frames = c.max-frames.ensures in
        omega (arith, clamps, pages, frames)

-- memory is taken before the file is checked
pub returns-clause-refused : goal.returns-clause-refused
returns-clause-refused g c = λ true_to_it.
    IfErr-weaker c.open.result _ _
    (λ refusal. refused_unchecked sha_key (g.D.PageDevice.content c.args.device) refusal.1)
    (c.open.ensures.refused true_to_it)
