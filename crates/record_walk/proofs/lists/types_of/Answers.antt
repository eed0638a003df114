-- Type by type.
use Rattle.std.proofs.Common.{ℤ, List, ◌<ℤ◌, ◌<◌, length, sym, ap, subst, take, ◌∙◌, rules, w64, arith}
use Rattle.std.specs.List.{AllPairs}
use Rattle.std.proofs.lemmas.Int.{to_z-of_z}
use mir.Val.{SFits}
use Rattle.type_chains.proofs.Unique.{types_ascend}
use Rattle.record_walk.specs.Words.{with_type}
use Rattle.record_walk.proofs.ListLemmas.{types_more}
use Rattle.record_walk.proofs.lists.types_of.Goals as goal

pub put_type-requires : goal.put_type-requires
put_type-requires c =
    subst (λ (ts : List ℤ). AllPairs (λ (a b : ℤ). a <ℤ b) ts) (sym c.loop-place.invariant)
    (types_ascend (take c.loop-place.place c.args.messages.now))

pub loop-place-preserved : goal.loop-place-preserved
loop-place-preserved c =
    let m = c.get.result.now in
    let fits : SFits w64 m.mtype = search rules in
    let w = c.loop-place-test.true in let n = c.len-place-end.ensures in
    let within : c.loop-place.place < length c.args.messages.now = omega (arith, w, n) in
    c.in_ok-put_type.ensures ∙ ap (with_type c.loop-place.list.items) (to_z-of_z w64 m.mtype fits)
    ∙ ap (λ ts. with_type ts m.mtype) c.loop-place.invariant
    ∙ sym (types_more c.args.messages.now c.loop-place.place m within (sym c.get.ensures))
