use Rattle.std.proofs.Common.{rules, IsTrue}
use Rattle.replays.specs.Events.{MovesFurther}
use Rattle.replays.proofs.EventLemmas.{Times-then}
use Rattle.replays.proofs.replay.Replay.step_on.Goals as goal

-- one step more
pub loop-preserved : goal.loop-preserved
loop-preserved g c =
    let moved : IsTrue c.goes_on.result = search rules in
    Times-then (MovesFurther c.args.seat c.args.last) c.loop.counter c.args.self.now c.loop.self c.event.new.self
    c.loop.invariant (c.event.result, c.goes_on.ensures.0 moved, c.event.ensures)
