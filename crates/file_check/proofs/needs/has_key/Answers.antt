-- One by one.
use Rattle.std.proofs.Common.{sym, ◌∙◌, arith}
use Rattle.queue_model.specs.Rules.{has_key}
use Rattle.file_check.proofs.NeedsLemmas.{stands_there, stands_nowhere}
use Rattle.file_check.proofs.needs.has_key.Goals as goal

pub returns-then-is_key : goal.returns-then-is_key
returns-then-is_key c =
    stands_there (has_key c.args.number) c.args.system.now.queues c.loop-place.place c.queue.result.now
    (omega arith) (sym c.queue.ensures) (sym c.is_key.ensures ∙ c.if-is_key.true)

pub returns : goal.returns
returns c =
    stands_nowhere (has_key c.args.number) c.args.system.now.queues c.loop-place.place (omega arith)
    c.loop-place.invariant
