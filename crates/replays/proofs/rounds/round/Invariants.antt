-- The seats so far had an event each.
use Rattle.replays.specs.Rounds.{TakesTurns}
use Rattle.replays.proofs.rounds.round.Given as goal

abbrev pub invariant-loop-place : goal.invariant-loop-place
invariant-loop-place g l = TakesTurns l.place l.moves l.fn.replay l.replay
