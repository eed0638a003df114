use Rattle.std.proofs.Common.{inr}
use Rattle.session.proofs.session.Session.shorten.Goals as goal

pub returns : goal.returns
returns g c = rw (← c.self.view_is) (inr c.forget.ensures.renewed)
