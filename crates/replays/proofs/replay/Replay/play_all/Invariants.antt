-- The words so far.
use Rattle.std.proofs.Common.{take}
use Rattle.replays.specs.Events.{PlaysAll}
use Rattle.replays.proofs.replay.Replay.play_all.Given as goal

abbrev pub invariant-loop-event : goal.invariant-loop-event
invariant-loop-event g l = PlaysAll (take l.event-index l.events) l.fn.self l.self
