-- The free list is walked to its end, or to what is wrong with it; then no page is lost.
use Rattle.std.proofs.Common.{◌<◌, length, true, false, sym, subst, inr, arith}
use Rattle.file_walk.specs.Walks.{AreMarked}
use Rattle.file_walk.proofs.SparesLemmas.{AreWalked, walk_begun, walk_goes_on, walk_not_free, walk_met, walk_whole, unmarked_falls, mark_read, marks_more}
use Rattle.file_walk.proofs.spares.test_spares.Goals as goal

pub walk-init : goal.walk-init
walk-init c =
    subst (AreWalked c.args.file.now c.args.chain.now c.in_ok-marks.marks.items) (sym c.first_free-page.ensures)
    (walk_begun c.args.file.now c.args.chain.now c.in_ok-marks.marks.items
    (subst (λ n. AreMarked n c.args.chain.now c.in_ok-marks.marks.items) c.pages.ensures.value
    c.in_ok-marks.ensures.marked))

pub index-requires : goal.index-requires
index-requires c =
    let f = c.in-Some.ensures.some in
    let within = f.within in
    let number = c.walk.invariant.marked.number in
    let long = c.walk.marks.ok.0 in
    omega arith

pub walk-preserved : goal.walk-preserved
walk-preserved c =
    let f = c.in-Some.ensures.some in
    walk_goes_on _ _ _ _ _ c.walk.invariant c.walk-test.true f
    (mark_read _ _ _ false (subst (λ n. c.walk.page < n) (sym c.walk.invariant.marked.number) f.within) c.index.ensures
    c.if-index.false)

pub walk-smaller : goal.walk-smaller
walk-smaller c =
    let f = c.in-Some.ensures.some in
    let within = subst (λ n. c.walk.page < n) (sym c.walk.invariant.marked.number) f.within in
    unmarked_falls _ _ within (mark_read _ _ _ false within c.index.ensures c.if-index.false)

pub loop-number-preserved : goal.loop-number-preserved
loop-number-preserved c =
    let within : c.loop-number.number < length c.walk.marks.items =
    let number = c.walk.invariant.marked.number in
    let here = c.loop-number-test.true in
    let pages = c.pages-number-end.ensures.value in
    omega arith in
    marks_more _ _ _ c.loop-number.invariant
    (mark_read _ _ _ true within c.index-in-loop-number.ensures c.if-not-index.false)

pub returns-in_default-clause-err : goal.returns-in_default-clause-err
returns-in_default-clause-err c =
    inr (walk_not_free _ _ _ _ c.walk.invariant c.walk-test.true c.in_default.ensures.none)

pub returns-then-index-clause-err : goal.returns-then-index-clause-err
returns-then-index-clause-err c =
    let f = c.in-Some.ensures.some in
    let within = subst (λ n. c.walk.page < n) (sym c.walk.invariant.marked.number) f.within in
    inr (walk_met _ _ _ _ c.walk.invariant c.walk-test.true
    (mark_read _ _ _ true within c.index.ensures c.if-index.true))

pub returns-clause-ok : goal.returns-clause-ok
returns-clause-ok c =
    walk_whole _ _ _ _ c.keeps_layout.ensures c.requires c.walk.invariant c.walk-test.false
    (λ n behind within. c.loop-number.invariant n behind
    (let ended = c.loop-number-test.false in let pages = c.pages-number-end.ensures.value in omega arith))
