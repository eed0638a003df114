-- Message by message, from the last on.
use Rattle.std.proofs.Common.{ℤ, List, ◌<ℤ◌, ◌-◌, ◌<◌, length, replicate, None, refl, sym, ap, subst, ◌∙◌, arith, rules, to_z, of_z, w64}
use Rattle.std.specs.List.{AllPairs, Contains}
use Rattle.std.proofs.lemmas.Int.{to_z-of_z}
use mir.Val.{SFits}
use Rattle.type_chains.proofs.TypesStand.{are_types_of}
use Rattle.type_chains.proofs.Unique.{types_ascend}
use Rattle.record_walk.specs.Words.{types}
use Rattle.record_walk.proofs.LinkLemmas.{linked_all, linked_more, linked_none}
use Rattle.record_walk.proofs.of_type.type_links.Goals as goal

pub loop-back-init : goal.loop-back-init
loop-back-init c =
    linked_none c.args.messages.now c.args.kinds.now _ _
    (c.in_ok-next.ensures.items_if_clones_equal (search rules)
    ∙ ap (λ n. replicate n None) c.len.ensures)
    (c.in_ok-ends.ensures.items_if_clones_equal (λ y e. e))

pub place_of_type-kind-requires-clause-ascend : goal.place_of_type-kind-requires-clause-ascend
place_of_type-kind-requires-clause-ascend c =
    subst (λ (ts : List ℤ). AllPairs (λ (a b : ℤ). a <ℤ b) ts) (sym c.requires.kinds) (types_ascend c.args.messages.now)

pub place_of_type-kind-requires-clause-stands : goal.place_of_type-kind-requires-clause-stands
place_of_type-kind-requires-clause-stands c =
    let m = c.get-message.result.now in
    let fits : SFits w64 m.mtype = search rules in
    let w = c.loop-back-test.true in let n = c.len-in-loop-back.ensures in
    let k = c.len-back-end.ensures in
    let there = ((are_types_of c.args.messages.now).stand m.mtype).1
    (m, (c.len-in-loop-back.result - 1 - c.loop-back.back, omega (arith, w, n, k), sym c.get-message.ensures), refl) in
    subst (λ (ts : List ℤ). Contains ts (to_z w64 (of_z w64 m.mtype))) (sym c.requires.kinds)
    (subst (Contains (types c.args.messages.now)) (sym (to_z-of_z w64 m.mtype fits)) there)

pub loop-back-preserved : goal.loop-back-preserved
loop-back-preserved c =
    let m = c.get-message.result.now in
    let fits : SFits w64 m.mtype = search rules in
    let w = c.loop-back-test.true in let n = c.len-in-loop-back.ensures in let k = c.len-back-end.ensures in
    let less : c.loop-back.back < length c.args.messages.now = omega (arith, w, n, k) in
    rw (c.with_front.ensures) (linked_more c.args.messages.now c.args.kinds.now c.loop-back.next.items
    c.loop-back.ends.items c.loop-back.back c.loop-back.invariant
    (subst (λ (ts : List ℤ). AllPairs (λ (a b : ℤ). a <ℤ b) ts) (sym c.requires.kinds)
    (types_ascend c.args.messages.now))
    c.requires.ascend (c.len-in-loop-back.result - 1 - c.loop-back.back) c.place_of_type-kind.result m
    c.index-end.result.now less (ap (λ n. n - 1 - c.loop-back.back) n) (sym c.get-message.ensures)
    c.place_of_type-kind.ensures.within
    (λ d. c.place_of_type-kind.ensures.there d ∙ to_z-of_z w64 m.mtype fits) (sym c.index-end.ensures))

pub returns : goal.returns
returns c =
    let f = c.loop-back.invariant in
    let w = c.loop-back-test.false in let k = c.len-back-end.ensures in
    let all = linked_all _ _ _ _ c.loop-back.back f (omega (arith, w, k)) in
    record { next = all.0; ends = all.1 }
