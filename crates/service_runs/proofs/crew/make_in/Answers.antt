use Rattle.std.proofs.Common.{rules, ◌≡◌, ◌≤◌, ap, ◌∙◌, length}
use Rattle.std.specs.Prelude.{vec_capacity}
use Rattle.std.specs.List.{each_same}
use Rattle.std.specs.Vec.{vec_len}
use Rattle.service_runs.proofs.WorkLemmas.{all_made, leading_ends, leading_goes, leading_starts}
use Rattle.service_runs.specs.Desks.{IsMadeOf}
use Rattle.service_runs.proofs.crew.make_in.Goals as goal

-- one desk more makes its lines
pub loop-desk-preserved : goal.loop-desk-preserved
loop-desk-preserved g c = (
  tt,
  tt,
  leading_goes _ _ _ _ _ _ c.loop-desk.invariant.2 _ _ _ _ _ _ c.in-Some.ensures.steps.0 c.in-Some.ensures.steps.1
      c.start.ensures c.push_reserved.ensures.items c.push_reserved.ensures.capacity,
)

-- all do
pub loop-work-init : goal.loop-work-init
loop-work-init g c =
    let gives = c.into_iter-work-iterator.ensures.into_iter_gives in
    let many : vec_len c.loop-desk.works ≡ length c.loop-desk.works.items = search rules in
    let same : c.loop-desk.works.items ≡ c.args.desks.items =
    each_same _ _ (leading_ends _ _ _ _ _ _ c.loop-desk.invariant.2 c.in-None.ensures.steps.0) in
    let room : length c.args.desks.items ≤ vec_capacity c.in-Ok-with_capacity.made = search rules in (
      tt,
      tt,
      leading_starts (IsMadeOf g.N.Base.origin) _ _ _ _ _ (gives.0 ∙ same)
          (gives.1 ∙ many ∙ ap length same)
          c.in-Ok-with_capacity.ensures.items room,
    )

-- one has come back
pub loop-work-preserved : goal.loop-work-preserved
loop-work-preserved g c = (
  tt,
  tt,
  leading_goes _ _ _ _ _ _ c.loop-work.invariant.2 _ _ _ _ _ _ c.in-Some-work.ensures.steps.0
      c.in-Some-work.ensures.steps.1 c.end.ensures c.push_reserved-in-loop-work.ensures.items
      c.push_reserved-in-loop-work.ensures.capacity,
)

pub returns : goal.returns
returns g c = all_made _ _ _ (leading_ends _ _ _ _ _ _ c.loop-work.invariant.2 c.in-None-work.ensures.steps.0)
