-- Queue by queue.
use Rattle.std.proofs.Common.{arith}
use Rattle.file_check.proofs.GatheredLemmas.{links_at}
use Rattle.file_check.proofs.compared.count_of.Goals as goal

pub queue_count-requires : goal.queue_count-requires
queue_count-requires c =
    links_at c.args.system.now c.args.links.now c.loop-place.place c.queue.result.now c.index-links-place.result
    c.requires
    (let w = c.loop-place-test.true in let n = c.queues-place-end.ensures in omega (arith, w, n)) c.queue.ensures
    c.index-links-place.is
