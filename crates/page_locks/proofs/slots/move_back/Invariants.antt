use Rattle.page_locks.proofs.CloseLemmas.{Closes}
use Rattle.page_locks.proofs.slots.move_back.Given as goal

abbrev pub invariant-loop-steps : goal.invariant-loop-steps
invariant-loop-steps l = Closes l.initial.slots l.slots l.start l.hole l.steps
