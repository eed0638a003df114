use Rattle.std.proofs.Common.{rules, ◌≡◌, ◌∷◌, ◌++◌, [], ap, ◌∙◌, length}
use Rattle.std.specs.Prelude.{vec_capacity}
use Rattle.std.specs.Vec.{vec_len}
use Rattle.service_runs.proofs.PairLemmas.{gathering_ends, gathering_goes, gathering_room, gathering_starts}
use Rattle.service_runs.specs.Desks.{DeskView}
use Rattle.service_runs.proofs.desk.seats_of.Goals as goal

pub loop-desk-init : goal.loop-desk-init
loop-desk-init g c =
    let gives = c.into_iter-desk-iterator.ensures.into_iter_gives in
    let many : vec_len c.args.desks ≡ length c.args.desks.items = search rules in (
      tt,
      tt,
      gathering_starts c.args.desks.items _ _ (vec_capacity c.args.room) c.args.room.items gives.0 (gives.1 ∙ many)
          c.requires.empty c.requires.room,
    )

-- there is room for the seats of all desks
pub push_reserved-requires : goal.push_reserved-requires
push_reserved-requires g c =
    let below = gathering_room _ _ _ _ _ _ _ c.loop-desk.invariant.2 c.in-Some.ensures.steps.0 in
    let many : vec_len c.loop-desk.seats ≡ length c.loop-desk.seats.items = search rules in
    search rules

-- one more has come
pub loop-desk-preserved : goal.loop-desk-preserved
loop-desk-preserved g c = (
  tt,
  tt,
  gathering_goes _ _ _ _ _ _ _ _ _ _ c.loop-desk.invariant.2 c.in-Some.ensures.steps.0 c.in-Some.ensures.steps.1
      (c.push_reserved.ensures.items
      ∙ ap (λ (d : DeskView). c.loop-desk.seats.items ++ d.sitter ∷ []) c.desk.view_is)
      c.push_reserved.ensures.capacity,
)

pub returns : goal.returns
returns g c = gathering_ends _ _ _ _ _ c.loop-desk.invariant.2 c.in-None.ensures.steps.0
