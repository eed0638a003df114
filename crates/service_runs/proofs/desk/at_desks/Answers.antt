use Rattle.std.proofs.Common.{rules, ◌≡◌, ap, ◌∙◌, inl, inr, length, sym}
use Rattle.std.specs.Vec.{vec_len}
use Rattle.service_runs.proofs.PairLemmas.{pairing_ends, pairing_goes, pairing_room, pairing_starts}
use Rattle.service_runs.proofs.desk.at_desks.Goals as goal

pub loop-seat-init : goal.loop-seat-init
loop-seat-init g c =
    let whole = c.into_iter-seat-iterator.ensures.into_iter_gives in
    let first = ap (λ z. z.a) whole ∙ c.zip-seat-items.ensures.first in
    let second = c.zip-seat-items.ensures.second in
    let seats : vec_len c.args.seats ≡ length c.args.seats.items = search rules in
    let lines : vec_len c.args.lines ≡ length c.args.lines.items = search rules in (
      (tt, tt),
      tt,
      pairing_starts _ _ _ _ _ _ _ _ (ap (λ r. r.rest.items) first ∙ c.into_iter.ensures.rest)
          (ap (λ z. z.b.rest.items) whole ∙ second.0) (ap (λ r. r.rest.len) first ∙ c.into_iter.ensures.len ∙ seats)
          (ap (λ z. z.b.rest.len) whole ∙ second.1 ∙ lines) c.requires.many c.requires.empty c.requires.room,
    )

-- there is room for all desks
pub push_reserved-requires : goal.push_reserved-requires
push_reserved-requires g c =
    let below = pairing_room _ _ _ _ _ _ _ _ c.loop-seat.invariant.2 _ _ c.in-Some.ensures.steps.0.0 in
    let many : vec_len c.loop-seat.desks ≡ length c.loop-seat.desks.items = search rules in
    search rules

-- one desk more
pub loop-seat-preserved : goal.loop-seat-preserved
loop-seat-preserved g c = (
  (tt, tt),
  tt,
  pairing_goes _ _ _ _ _ _ _ _ c.loop-seat.invariant.2 _ _ _ _ _ _ _ _ c.in-Some.ensures.steps.0.0
      c.in-Some.ensures.steps.1.0 c.in-Some.ensures.steps.0.1 c.in-Some.ensures.steps.1.1
      c.push_reserved.ensures.items c.push_reserved.ensures.capacity,
)

pub returns : goal.returns
returns g c =
    let p = c.loop-seat.invariant.2 in
    pairing_ends _ _ _ _ _ _ _ _ p
    (elim c.in-None.ensures.steps [
      | inl none ↦ sym p.count_is ∙ none.1.0
      | inr none ↦ sym p.same ∙ sym p.as_many ∙ none.1.0
    ])
