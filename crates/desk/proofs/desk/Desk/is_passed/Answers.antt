-- It is not due, or is alike the last that was tried in vain.
use Rattle.std.proofs.Common.{ℕ, ◌<◌, ◌∙◌, arith, sym, subst, length, Option}
use Rattle.desk.specs.Desk.{DeskState, IsBefore}
use Rattle.desk.proofs.DeskLemmas.{alike_too, at_place, not_tried}
use Rattle.desk.proofs.desk.Desk.is_passed.Goals as goal

pub returns-then-not-is_due : goal.returns-then-not-is_due
returns-then-not-is_due c =
    let within = subst (λ (d : DeskState). c.args.place < length d.waiting) (sym c.self.view_is) c.requires.within in
    let there = at_place c.self.inside.waiting.items c.args.place c.index-asking.result.now within
    c.index-asking.ensures in
    λ is. rw (← c.self.view_is) (not_tried c.args.place c.index-asking.result.now _ there
    (sym c.is_due.ensures ∙ c.if-not-is_due.true))

pub returns-in-Some : goal.returns-in-Some
returns-in-Some c =
    let within = subst (λ (d : DeskState). c.args.place < length d.waiting) (sym c.self.view_is) c.requires.within in
    let there = at_place c.self.inside.waiting.items c.args.place c.index-asking.result.now within
    c.index-asking.ensures in
    let before : c.in-Some.last < c.args.place =
    subst (λ (o : Option ℕ). IsBefore o c.args.place) c.in-Some.is c.requires.before in
    let its = at_place c.self.inside.waiting.items c.in-Some.last c.index.result.now (omega (arith, before, within))
    c.index.ensures in
    λ is. rw (← c.self.view_is) (alike_too c.args.place c.index-asking.result.now _ there c.in-Some.last
    c.index.result.now its before c.are_alike.result c.are_alike.ensures is)
