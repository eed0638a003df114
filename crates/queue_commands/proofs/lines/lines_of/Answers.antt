use Rattle.std.proofs.Common.{◌≡◌, ◌≤◌, ◌<◌, ◌∙◌, ℕ, ap, arith, length, take, drop}
use Rattle.std.proofs.lemmas.Bool.Decides.{nat_tests}
use Rattle.numbers.specs.declared.limits.TheConstants.{MAX_BODY}
use Rattle.queue_commands.proofs.LineLemmas.{none_are_first, one_more_is_first, all_are_put}
use Rattle.queue_commands.proofs.lines.lines_of.Goals as goal

pub loop-number-init : goal.loop-number-init
loop-number-init c = rw c.new-bodies.ensures.items (none_are_first c.args.text.now)

pub returns-then-is_empty-clause-ok : goal.returns-then-is_empty-clause-ok
returns-then-is_empty-clause-ok c =
    let none : length c.loop-number.rest.now ≡ 0 = grind (arith, nat_tests) in
    all_are_put c.args.text.now c.loop-number.rest.now c.loop-number.bodies.items c.loop-number.invariant none

-- a line that is put is the first of the rest
pub loop-number-preserved : goal.loop-number-preserved
loop-number-preserved c =
    let some : 0 < length c.loop-number.rest.now = grind (arith, nat_tests) in
    let short : length c.split_at.result.0.now ≤ MAX_BODY = omega (arith, c.if-line-gt-MAX_BODY.false) in
    let line = c.split_at.ensures.front ∙ ap (λ (n : ℕ). take n c.loop-number.rest.now) c.first_line.ensures.value in
    let after = c.split_at.ensures.back ∙ ap (λ (n : ℕ). drop n c.loop-number.rest.now) c.first_line.ensures.value in
    rw c.in-Ok.ensures.items (rw c.new.ensures (rw c.in_ok-from_slice.ensures.items (one_more_is_first
    c.args.text.now c.loop-number.rest.now c.split_at.result.1.now c.split_at.result.0.now c.loop-number.bodies.items
    c.loop-number.invariant some short line after)))

pub returns-then-is_empty-2-clause-ok : goal.returns-then-is_empty-2-clause-ok
returns-then-is_empty-2-clause-ok c =
    let none : length c.loop-number.rest.now ≡ 0 = grind (arith, nat_tests) in
    all_are_put c.args.text.now c.loop-number.rest.now c.loop-number.bodies.items c.loop-number.invariant none
