use Rattle.replays.proofs.EventLemmas.{PlaysAll-next}
use Rattle.replays.proofs.replay.Replay.play_all.Goals as goal

-- one word more
pub loop-event-preserved : goal.loop-event-preserved
loop-event-preserved g c =
    PlaysAll-next c.args.events.now c.loop-event.event-index _ c.args.self.now c.loop-event.self c.play.new.self
    c.loop-event-test.true c.loop-event.invariant c.play.ensures
