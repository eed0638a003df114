-- Line by line.
use Rattle.std.proofs.Common.{rules, ◌≡◌, ◌<◌, length, subst, take, take_all}
use Rattle.msgq_cli.specs.Metrics.{samples_text}
use Rattle.msgq_cli.specs.Outputs.{Prints}
use Rattle.msgq_cli.proofs.OutputLemmas.{Prints-nil}
use Rattle.msgq_cli.proofs.MetricLemmas.{Prints-samples}
use Rattle.msgq_cli.proofs.metrics.print_samples.Goals as goal

pub loop-place-init : goal.loop-place-init
loop-place-init g c = Prints-nil _

pub loop-place-preserved : goal.loop-place-preserved
loop-place-preserved g c =
    let queues = c.args.system.now.queues in
    let place = c.loop-place.place in
    let below : place < length queues = search rules in
    Prints-samples _ _ _ c.args.metric queues place c.queue.result.now below c.queue.ensures c.loop-place.invariant
    c.print_sample.ensures

pub returns : goal.returns
returns g c =
    let queues = c.args.system.now.queues in
    let all : take c.loop-place.place queues ≡ queues = take_all _ queues (search rules) in
    subst (λ qs. Prints c.args.output.now c.loop-place.output (samples_text c.args.metric qs)) all
    c.loop-place.invariant
