-- Queue by queue.
use Rattle.std.proofs.Common.{◌≡◌, ◌+◌, [], ◌∷◌, ◌++◌, List, sym, subst, arith, rules}
use Rattle.record_walk.specs.declared.queue_links.QueueLinks.{QueueLinks}
use Rattle.file_check.proofs.GatheredLemmas.{AreLinkedTo, linked_more}
use Rattle.file_check.proofs.compared.links_of.Goals as goal

pub loop-place-preserved : goal.loop-place-preserved
loop-place-preserved c =
    let l = c.in_ok-of_queue.of_queue in
    let more : c.push.new.self.items ≡ c.loop-place.links.items ++ l ∷ [] = search rules in
    subst (λ (ls : List QueueLinks). AreLinkedTo c.args.system.now ls (c.loop-place.place + 1)) (sym more)
    (linked_more c.args.system.now c.loop-place.links.items c.loop-place.place c.queue.result.now l
    c.loop-place.invariant
    (let w = c.loop-place-test.true in let n = c.queues-place-end.ensures in omega (arith, w, n)) c.queue.ensures
    c.in_ok-of_queue.ensures)
