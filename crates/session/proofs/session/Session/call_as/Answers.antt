use Rattle.std.proofs.Common.{subst, Bool, Some}
use Rattle.session.specs.Making.{Seats}
use Rattle.session.proofs.SeatLemmas.{unseated_calls}
use Rattle.session.proofs.BeforeLemmas.{finished}
use Rattle.session.proofs.session.Session.call_as.Goals as goal

-- it holds no system
pub returns-then-not-seat : goal.returns-then-not-seat
returns-then-not-seat g c =
    unseated_calls c.args.caller c.args.call.now _ c.args.self.now c.seat.new.self
    (subst (λ (done : Bool). Seats c.args.caller done c.args.self.now c.seat.new.self) c.if-not-seat.true
    c.seat.ensures)

pub returns : goal.returns
returns g c =
    let seated = subst (λ (done : Bool). Seats c.args.caller done c.args.self.now c.seat.new.self) c.if-not-seat.false
    c.seat.ensures in
    finished (Some c.args.caller) c.args.call.now _ c.make.result c.args.self.now c.seat.new.self c.make.new.self
    seated.0 seated.1 c.make.ensures
