-- So many rounds were made, and the system was stopped behind one of them, or not yet.
use Rattle.replays.proofs.RoundLemmas.{SoFar}
use Rattle.replays.proofs.rounds.finish.Given as goal

abbrev pub invariant-loop : goal.invariant-loop
invariant-loop g l = SoFar l.stopped l.counter l.fn.replay l.replay
