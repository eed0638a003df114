use Rattle.std.proofs.Common.{refl, None, Some}
use Rattle.desk.specs.History.{Next}
use Rattle.durable_desk.specs.History.{Does}
use Rattle.serving.proofs.ServingLemmas.{goes_told, goes_untold}
use Rattle.serving.proofs.server.Server.next.Goals as goal

-- nobody is told
pub returns-in_default : goal.returns-in_default
returns-in_default g c =
    rw (← c.self.view_is) (goes_untold g.P.PagePair.is_honest g.P.PagePair.moment g.P.PagePair.left_since
    g.P.PagePair.may_leave _ _
    refl (Does (Next None c.in_default.ensures.tells.noted)) (record {
      happens = c.in_default.ensures.tells.tells;
      file = c.in_default.ensures.file;
      notes = c.in_default.ensures.tells.notes;
    }) refl refl refl)

-- or the first
pub returns : goal.returns
returns g c =
    rw (← c.self.view_is) (goes_told g.P.PagePair.is_honest g.P.PagePair.moment g.P.PagePair.left_since
    g.P.PagePair.may_leave _ _
    c.in_ok-tell.ensures.same c.next.new.self (Does (Next (Some c.in-Some.told) c.in-Some.ensures.tells.noted))
    (record {
      happens = c.in-Some.ensures.tells.tells;
      file = c.in-Some.ensures.file;
      notes = c.in-Some.ensures.tells.notes;
    }) c.in_ok-tell.ensures.sound
    c.in_ok-tell.ensures.desk c.in_ok-tell.ensures.told)
