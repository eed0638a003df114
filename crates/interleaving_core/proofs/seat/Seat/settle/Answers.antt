-- Its call goes on, is over, or begins anew.
use Rattle.std.proofs.Common.{refl, sym, ◌∙◌}
use Rattle.interleaving_core.proofs.SeatLemmas.{lent_there, tells_anew, tells_end, tells_on}
use Rattle.interleaving_core.proofs.seat.Seat.settle.Goals as goal

pub returns-in-Some-clause-settles : goal.returns-in-Some-clause-settles
returns-in-Some-clause-settles g c =
    tells_on (g.K.PseudoKey.of_key c.args.keys.now) c.args.seat c.args.stopped c.args.did c.in-Some.step
    c.args.pool.now c.args.locks.now c.args.journal.now.items c.args.self.now (sym c.of.ensures ∙ c.in-Some.is)

pub returns-then-waits-clause-settles : goal.returns-then-waits-clause-settles
returns-then-waits-clause-settles g c =
    tells_anew (g.K.PseudoKey.of_key c.args.keys.now) c.args.seat c.args.stopped c.args.did c.turn_anew.result
    c.args.pool.now c.args.locks.now c.args.journal.now.items c.args.self.now c.in-Some-under_way.active.now
    c.turn_anew.new.self c.turn_anew.new.pool c.turn_anew.new.locks c.turn_anew.new.journal.items
    (lent_there _ _ _ _ c.under_way.ensures.value c.in-Some-under_way.is refl) (sym c.of.ensures ∙ c.in_default.is)
    (sym c.waits.ensures ∙ c.if-waits.true) c.turn_anew.ensures.anew

pub returns-clause-settles : goal.returns-clause-settles
returns-clause-settles g c =
    tells_end (g.K.PseudoKey.of_key c.args.keys.now) c.args.seat c.args.stopped c.args.did c.end-step.result
    c.args.pool.now c.args.locks.now c.args.journal.now.items c.args.self.now c.in-Some-under_way.active.now
    (lent_there _ _ _ _ c.under_way.ensures.value c.in-Some-under_way.is refl) (sym c.of.ensures ∙ c.in_default.is)
    (sym c.waits.ensures ∙ c.if-waits.false) c.end-step.ensures
