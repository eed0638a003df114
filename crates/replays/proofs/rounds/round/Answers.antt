use Rattle.replays.proofs.RoundLemmas.{TakesTurns-next}
use Rattle.replays.proofs.rounds.round.Goals as goal

-- one seat more
pub loop-place-preserved : goal.loop-place-preserved
loop-place-preserved g c =
    TakesTurns-next c.loop-place.place c.loop-place.moves c.has_moved-moves.result c.event.result c.args.replay.now
    c.loop-place.replay c.event.new.self c.loop-place.invariant c.event.ensures c.has_moved-moves.ensures
