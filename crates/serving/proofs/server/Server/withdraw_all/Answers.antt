use Rattle.std.proofs.Common.{refl}
use Rattle.desk.specs.Desk.{is_on_connection}
use Rattle.desk.specs.History.{Withdrawn}
use Rattle.durable_desk.specs.History.{Does}
use Rattle.call_entries.proofs.LogLemmas.{as_it_was}
use Rattle.serving.proofs.ServingLemmas.{goes_untold}
use Rattle.serving.proofs.server.Server.withdraw_all.Goals as goal

pub returns : goal.returns
returns g c =
    rw (← c.self.view_is) (goes_untold g.P.PagePair.is_honest g.P.PagePair.moment g.P.PagePair.left_since
    g.P.PagePair.may_leave _ _
    refl (Does (Withdrawn (is_on_connection c.args.connection) c.leave.result))
    (record {
      happens = c.leave.ensures.leaves;
      file = c.leave.ensures.file;
      notes = as_it_was _ _ c.leave.ensures.log;
    }) refl refl refl)
