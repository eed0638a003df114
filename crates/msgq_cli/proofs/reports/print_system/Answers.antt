-- Line by line, and the next id behind them.
use Rattle.std.proofs.Common.{rules, ◌≡◌, ◌∙◌, ◌+◌, ◌<◌, sym, subst, take, take_all}
use Rattle.msgq_cli.specs.Outputs.{Prints}
use Rattle.msgq_cli.specs.Reports.{infos_text, next_text}
use Rattle.msgq_cli.proofs.OutputLemmas.{Prints-nil, Prints-then}
use Rattle.msgq_cli.proofs.ReportLemmas.{Prints-infos, no_queue}
use Rattle.msgq_cli.proofs.reports.print_system.Goals.{in-Some, in_default}
use Rattle.msgq_cli.proofs.reports.print_system.Goals as goal

pub loop-place-init : goal.loop-place-init
loop-place-init g c = Prints-nil _

pub loop-place-preserved : goal.loop-place-preserved
loop-place-preserved g c =
    let queues = c.args.system.now.queues in
    let place = c.loop-place.place in
    elim c.match-info.branch [
      | in-Some w ↦
          subst (λ o. Prints c.args.output.now o (infos_text (take (place + 1) queues))) (sym w.output-is)
          (Prints-infos _ _ _ queues place w.in-Some.info (sym c.info.ensures ∙ w.in-Some.is) c.loop-place.invariant
          w.print_info.ensures)
      | in_default w ↦
          absurd (no_queue queues place (subst (λ n. place < n) c.queues-place-end.ensures c.loop-place-test.true)
          (sym c.info.ensures ∙ w.in_default.is))
    ]

pub returns : goal.returns
returns g c =
    let queues = c.args.system.now.queues in
    let all : take c.loop-place.place queues ≡ queues = take_all _ queues (search rules) in
    let infos = subst (λ qs. Prints c.args.output.now c.loop-place.output (infos_text qs)) all c.loop-place.invariant in
    let next = subst (λ n. Prints c.loop-place.output c.line.new.self (next_text n))
    (c.from.ensures ∙ c.next_id.ensures) c.line.ensures in
    Prints-then _ _ _ _ _ infos next
