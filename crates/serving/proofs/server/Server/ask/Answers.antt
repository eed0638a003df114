use Rattle.desk.specs.History.{Asked}
use Rattle.durable_desk.specs.History.{Does}
use Rattle.desk.specs.declared.asking.Asking.{Asking}
use Rattle.serving.proofs.ServingLemmas.{goes_told}
use Rattle.serving.proofs.server.Server.ask.Goals as goal

pub returns : goal.returns
returns g c =
    let a : Asking = record { client = c.args.client; caller = c.args.caller; call = c.args.call } in
    rw (← c.self.view_is) (goes_told g.P.PagePair.is_honest g.P.PagePair.moment g.P.PagePair.left_since
    g.P.PagePair.may_leave _ _
    c.in_ok-tell.ensures.same c.ask-reply.new.self (Does (Asked a c.ask-reply.result))
    (record {
      happens = c.ask-reply.ensures.asks;
      file = c.ask-reply.ensures.file;
      notes = c.ask-reply.ensures.notes;
    }) c.in_ok-tell.ensures.sound
    c.in_ok-tell.ensures.desk c.in_ok-tell.ensures.told)
