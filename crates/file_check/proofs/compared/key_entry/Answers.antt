-- The Key of the queue that was met.
use Rattle.std.proofs.Common.{◌≡◌, Some, arith}
use Rattle.file_check.proofs.GatheredLemmas.{keyed, of_queue}
use Rattle.file_check.proofs.compared.key_entry.Goals as goal

pub returns-then-key-number : goal.returns-then-key-number
returns-then-key-number c =
    let q = c.queue-queue.result.now in
    let is = c.in-Some.is in
    let has : q.key ≡ Some c.in-Some.key = cc in
    of_queue c.args.system.now c.loop-place.place q _
    (let w = c.loop-place-test.true in let n = c.queues-place-end.ensures in omega (arith, w, n)) c.queue-queue.ensures
    (keyed q c.in-Some.key has)
