use Rattle.std.proofs.Common.{rules, ◌≡◌, ◌∙◌, ap, Some}
use Rattle.interleavings.specs.LoneKernelWords.{Caller}
use Rattle.session.proofs.SeatLemmas.{seated, seated_already, seated_session}
use Rattle.session.proofs.session.Session.seat.Goals as goal

-- it sat there before
pub returns-then-is_same : goal.returns-then-is_same
returns-then-is_same g c =
    let same : c.caller-sits.result ≡ c.args.caller = search (rules) in
    rw (← c.self.view_is) (seated_already c.args.caller c.self.inside.kernel c.shorten.new.self
    (c.caller-sits.ensures ∙ ap (λ (x : Caller). Some x) same) (rw (c.self.view_is) c.shorten.ensures))

pub returns : goal.returns
returns g c = rw (← c.self.view_is) (seated c.args.caller c.reseat.result _ _ c.reseat.ensures)

pub invariant_of-self : goal.invariant_of-self
invariant_of-self g c = seated_session c.args.caller c.reseat.result _ _ c.reseat.ensures c.self.invariant
