-- So many events of the seat.
use Rattle.replays.specs.Events.{HasEvent, Times}
use Rattle.replays.proofs.replay.Replay.events.Given as goal

abbrev pub invariant-loop : goal.invariant-loop
invariant-loop g l = Times (HasEvent l.seat) l.counter l.fn.self l.self
