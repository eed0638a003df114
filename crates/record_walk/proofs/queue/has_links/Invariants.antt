-- The links so far are the queue's.
use Rattle.record_walk.proofs.MessageLemmas.{IsSoFar}
use Rattle.record_walk.proofs.queue.has_links.Given as goal

abbrev pub invariant-loop-place : goal.invariant-loop-place
invariant-loop-place l = IsSoFar l.queue l.links l.place
