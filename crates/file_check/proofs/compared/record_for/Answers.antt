-- The record of a queue is one of the system.
use Rattle.file_check.proofs.GatheredLemmas.{links_at, of_queue_if}
use Rattle.file_check.proofs.compared.record_for.Goals as goal

pub record_of_queue-requires-clause-links : goal.record_of_queue-requires-clause-links
record_of_queue-requires-clause-links c =
    links_at c.args.system.now c.args.links.now c.in_ok-place-in_default.place c.queue.result.now
    c.index-links-place.result c.requires c.in_ok-place-in_default.ensures.some.within c.queue.ensures
    c.index-links-place.is

pub returns-in_ok-place-in_default : goal.returns-in_ok-place-in_default
returns-in_ok-place-in_default c =
    of_queue_if c.args.system.now c.in_ok-place-in_default.place c.queue.result.now c.record_of_queue.result
    c.in_ok-place-in_default.ensures.some.within c.queue.ensures c.record_of_queue.ensures
