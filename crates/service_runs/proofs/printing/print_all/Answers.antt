use Rattle.std.proofs.Common.{rules, ◌≡◌, ◌∙◌, ◌<◌, ◌||◌, Bool, length, sym, ap}
use Rattle.service_runs.specs.Lines.{is_stopped}
use Rattle.service_runs.proofs.PrintLemmas.{counts_there, printing_starts, printing_there, room_there}
use Rattle.service_runs.proofs.printing.print_all.Goals as goal
use Rattle.service_runs.proofs.printing.print_all.Goals.{then-has_stopped, else-has_stopped}

pub loop-line-init : goal.loop-line-init
loop-line-init g c = printing_starts c.args.desks.now c.args.printed.now c.args.output.now c.requires.none

-- the line's seat has a reply that was not printed yet
pub reply-reply-requires : goal.reply-reply-requires
reply-reply-requires g c =
    room_there c.args.lines.now c.args.desks.now c.loop-line.printed c.args.output.now c.loop-line.output
    c.loop-line.ending c.loop-line.has_stopped c.loop-line.line-index c.line-item.result c.index-desks-place.result
    c.requires.made
    c.loop-line.invariant c.loop-line-test.true c.line-item.is c.index-desks-place.is

pub overflow_add-printed : goal.overflow_add-printed
overflow_add-printed g c =
    let short : length c.args.lines.now < 18446744073709551616 = search rules in
    let more = counts_there c.args.lines.now c.args.desks.now c.loop-line.printed c.args.output.now c.loop-line.output
    c.loop-line.ending c.loop-line.has_stopped c.loop-line.line-index c.line-item.result c.index-desks-place.result
    c.requires.made
    c.loop-line.invariant c.loop-line-test.true c.line-item.is c.index-desks-place.is short in
    search rules

pub loop-line-preserved : goal.loop-line-preserved
loop-line-preserved g c =
    let made = is_stopped c.reply-reply.result.now in
    let stops : c.if-has_stopped.has_stopped ≡ (c.loop-line.has_stopped || made) =
    elim c.if-has_stopped.branch [
      | then-has_stopped w ↦
          w.has_stopped-is ∙ w.if-has_stopped.true ∙ sym (ap (λ (b : Bool). b || made) w.if-has_stopped.true)
      | else-has_stopped w ↦
          w.has_stopped-is ∙ w.is_stopped-has_stopped.ensures
          ∙ sym (ap (λ (b : Bool). b || made) w.if-has_stopped.false)
    ] in
    printing_there c.args.lines.now c.args.desks.now c.loop-line.printed c.args.output.now c.loop-line.output
    c.loop-line.ending c.loop-line.has_stopped c.loop-line.line-index c.line-item.result c.index-desks-place.result
    c.requires.made
    c.loop-line.invariant c.loop-line-test.true c.line-item.is c.index-desks-place.is c.print.new.output
    c.after-ending.result _ c.reply-reply.result.now c.reply-reply.ensures c.print.ensures c.after-ending.ensures stops
