use Rattle.std.proofs.Common.{◌≡◌, ◌<◌, ◌≤◌, [], ◌∷◌, ◌++◌, length, refl, ap, ◌∙◌, vec_capacity, arith}
use Rattle.std.proofs.lemmas.Grind.{common_steps}
use Rattle.workers.proofs.OpenLemmas.{dealing_goes, free_at, many_newcomers, seated_newcomer}
use Rattle.workers.proofs.opening.deal.Goals as goal

pub loop-place-init : goal.loop-place-init
loop-place-init g c = record {
  own = c.requires.first;
  made = c.in_ok-made.ensures.items;
  room = grind (arith, common_steps);
}

pub deal-requires-clause-early : goal.deal-requires-clause-early
deal-requires-clause-early g c = ap (λ d. d.journal) c.loop-place.invariant.own

pub deal-requires-clause-free : goal.deal-requires-clause-free
deal-requires-clause-free g c = free_at _ _ _ c.loop-place.invariant.own

pub invariant_of-push : goal.invariant_of-push
invariant_of-push g c = seated_newcomer _ _ _ _ _ _ _ c.loop-place.invariant.own c.deal.ensures.seat
    refl c.new.ensures.items c.loop-place-test.true c.requires.seats

pub unwrap-requires : goal.unwrap-requires
unwrap-requires g c =
    let i = c.loop-place.invariant in
    let many = ap length i.made ∙ many_newcomers c.loop-place.place in
    let room = i.room in
    let below = c.loop-place-test.true in
    let spare : length c.loop-place.made.items < vec_capacity c.loop-place.made = omega arith in
    grind (arith, common_steps)

pub loop-place-preserved : goal.loop-place-preserved
loop-place-preserved g c =
    let pushed : c.push.new.self.items ≡ c.loop-place.made.items ++ c.deal.result ∷ [] = grind (arith, common_steps) in
    let more : vec_capacity c.loop-place.made ≤ vec_capacity c.push.new.self = grind (arith, common_steps) in
    dealing_goes _ _ _ _ _ _ _ _ _ c.loop-place.invariant c.deal.ensures.desk c.deal.ensures.seat pushed more
