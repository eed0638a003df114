-- The type stands there, or comes into the gap.
use Rattle.std.proofs.Common.{ℤ, List, ◌<ℤ◌, to_z, of_z, w64, sym, ap, subst, ◌∙◌}
use Rattle.std.specs.List.{AllPairs, insert}
use Rattle.std.proofs.lemmas.Int.{to_z-of_z}
use Rattle.record_walk.specs.Words.{with_type}
use Rattle.record_walk.proofs.ListLemmas.{search_found, search_gap}
use Rattle.record_walk.proofs.lists.put_type.Goals as goal

pub returns-in-Ok : goal.returns-in-Ok
returns-in-Ok c =
    let m = to_z-of_z w64 c.args.mtype c.ranges.mtype in
    let same = c.deref.ensures.value in
    let ascend = subst (λ (ts : List ℤ). AllPairs (λ (a b : ℤ). a <ℤ b) ts) (sym same) c.requires in
    let found = search_found (to_z w64 (of_z w64 c.args.mtype)) c.deref.result.now ascend c.in-Ok.field-0
    c.in-Ok.ensures.bound c.in-Ok.ensures.ok in
    sym same ∙ sym found.1 ∙ ap (with_type c.deref.result.now) m ∙ ap (λ ts. with_type ts c.args.mtype) same

pub returns-in_ok-insert-in-Err : goal.returns-in_ok-insert-in-Err
returns-in_ok-insert-in-Err c =
    let t = to_z w64 (of_z w64 c.args.mtype) in
    let m = to_z-of_z w64 c.args.mtype c.ranges.mtype in
    let same = c.deref.ensures.value in
    let ascend = subst (λ (ts : List ℤ). AllPairs (λ (a b : ℤ). a <ℤ b) ts) (sym same) c.requires in
    let gap = search_gap t c.deref.result.now ascend c.in-Err.place c.in-Err.ensures.bound
    c.in-Err.ensures.position in
    c.in_ok-insert-in-Err.ensures.items
    ∙ ap (λ (ts : List ℤ). insert ts c.in-Err.place t) (sym same) ∙ sym gap
    ∙ ap (with_type c.deref.result.now) m ∙ ap (λ ts. with_type ts c.args.mtype) same
