use Rattle.session.proofs.KeepLemmas.{is_stopped}
use Rattle.session.proofs.session.Session.stop.Goals as goal

pub returns : goal.returns
returns g c =
    rw (← c.self.view_is) (is_stopped c.a_kernel_at_rest_is_stopped.ensures c.self.inside.kernel c.stop.new.self
    c.stop.ensures)
