use Rattle.std.proofs.Common.{◌≤◌, ◌<◌, inl, subst, sym, Bool, ℕ}
use Rattle.replays.proofs.RoundLemmas.{SoFar, SoFar-ends, SoFar-next, SoFar-stops, SoFar-stuck, most_is, rests_left}
use Rattle.replays.proofs.rounds.finish.Goals as goal

-- no line is left
pub returns-then-is_at_end-clause-rounds : goal.returns-then-is_at_end-clause-rounds
returns-then-is_at_end-clause-rounds g c =
    let most = most_is c.args.replay.now c.lines.result c.from.result c.lines.ensures c.from.ensures in
    SoFar-ends c.loop.stopped c.loop.counter c.args.replay.now c.loop.replay
    (subst (λ (n : ℕ). c.loop.counter ≤ n) most c.loop.auto.counter-end) c.loop.invariant
    (inl (sym c.if-is_at_end.ensures))

-- somebody moves
pub loop-preserved-then-round : goal.loop-preserved-then-round
loop-preserved-then-round g c =
    SoFar-next c.loop.stopped c.loop.counter c.args.replay.now c.loop.replay c.round.new.replay c.loop.invariant
    c.if-round.ensures

-- nobody moves, though the system is stopped
pub returns-then-stopped-clause-rounds : goal.returns-then-stopped-clause-rounds
returns-then-stopped-clause-rounds g c =
    let most = most_is c.args.replay.now c.lines.result c.from.result c.lines.ensures c.from.ensures in
    SoFar-stuck c.loop.counter c.args.replay.now c.loop.replay c.round.new.replay
    (subst (λ (n : ℕ). c.loop.counter < n) most c.loop-test.true)
    (subst (λ (b : Bool). SoFar b c.loop.counter c.args.replay.now c.loop.replay) c.if-stopped.true c.loop.invariant)
    c.if-round.ensures

pub returns-then-stopped-clause-over : goal.returns-then-stopped-clause-over
returns-then-stopped-clause-over g c = sym (rests_left c.loop.replay c.round.new.replay c.if-round.ensures)

-- nobody moves, and the system is stopped
pub loop-preserved : goal.loop-preserved
loop-preserved g c =
    SoFar-stops c.loop.counter c.args.replay.now c.loop.replay c.round.new.replay c.stop.new.self
    (subst (λ (b : Bool). SoFar b c.loop.counter c.args.replay.now c.loop.replay) c.if-stopped.false c.loop.invariant)
    c.if-round.ensures c.stop.ensures
