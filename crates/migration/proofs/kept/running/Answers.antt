-- All queues were copied.
use Rattle.migration.proofs.RunningLemmas.{all_taken, running_of}
use Rattle.migration.proofs.kept.running.Goals as goal

pub returns : goal.returns
returns c =
    let same = all_taken _ _ _ _ c.loop-place.invariant c.loop-place-test.false c.queues-place-end.ensures in
    running_of _ _ _ _ c.keeps_limits.ensures same c.next_id.ensures c.of_queues.ensures.some c.of_queues.ensures.none
