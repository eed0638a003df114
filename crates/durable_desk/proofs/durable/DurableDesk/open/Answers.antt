use Rattle.durable_desk.proofs.OpeningLemmas.{opened_committed}
use Rattle.durable_desk.proofs.durable.DurableDesk.open.Goals as goal

pub invariant_of-result : goal.invariant_of-result
invariant_of-result g c = record {
  sound = λ none.
      opened_committed g.P.PagePair.is_honest g.P.PagePair.may_leave c.args.device c.remade.new.device c.args.most
      c.in_ok-desk.desk c.requires c.in_ok-desk.ensures.made c.in_ok-desk.ensures.same;
}
