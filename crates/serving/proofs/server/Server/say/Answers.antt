use Rattle.std.proofs.Common.{refl}
use Rattle.serving.proofs.ServingLemmas.{goes_said}
use Rattle.serving.proofs.server.Server.say.Goals as goal

pub returns : goal.returns
returns g c =
    rw (← c.self.view_is) (goes_said g.P.PagePair.is_honest g.P.PagePair.moment g.P.PagePair.left_since
    g.P.PagePair.may_leave _ _
    refl c.args.client c.args.note.now refl c.in_ok-note.ensures)
