use Rattle.std.proofs.Common.{refl, Ok}
use Rattle.durable_desk.specs.History.{Commit}
use Rattle.serving.proofs.ServingLemmas.{goes_untold}
use Rattle.serving.proofs.server.Server.save.Goals as goal

pub returns-clause-goes : goal.returns-clause-goes
returns-clause-goes g c =
    rw (← c.self.view_is) (goes_untold g.P.PagePair.is_honest g.P.PagePair.moment g.P.PagePair.left_since
    g.P.PagePair.may_leave _ _
    refl (Commit (Ok tt))
    (record { commits = c.in_ok-commit.ensures.becomes; any_moment = c.in_ok-commit.ensures.any_moment }) refl refl
    refl)
