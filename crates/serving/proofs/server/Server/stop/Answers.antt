use Rattle.std.proofs.Common.{refl}
use Rattle.desk.specs.History.{Stopped}
use Rattle.durable_desk.specs.History.{Does}
use Rattle.call_entries.proofs.LogLemmas.{as_it_was}
use Rattle.serving.proofs.ServingLemmas.{goes_untold}
use Rattle.serving.proofs.server.Server.stop.Goals as goal

pub returns : goal.returns
returns g c =
    rw (← c.self.view_is) (goes_untold g.P.PagePair.is_honest g.P.PagePair.moment g.P.PagePair.left_since
    g.P.PagePair.may_leave _ _
    refl (Does Stopped) (record {
      happens = c.stop.ensures.stops;
      file = c.stop.ensures.file;
      notes = as_it_was _ _ c.stop.ensures.log;
    }) refl refl refl)
