-- So many steps so far.
use Rattle.replays.specs.Events.{MovesFurther, Times}
use Rattle.replays.proofs.replay.Replay.step_on.Given as goal

abbrev pub invariant-loop : goal.invariant-loop
invariant-loop g l = Times (MovesFurther l.seat l.last) l.counter l.fn.self l.self
