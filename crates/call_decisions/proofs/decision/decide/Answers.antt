use Rattle.call_decisions.proofs.HoldLemmas.{gives_right}
use Rattle.call_decisions.proofs.decision.decide.Goals as goal

pub returns-clause-right : goal.returns-clause-right
returns-clause-right c room s filed knows =
    gives_right c.args.call.now c.args.inquiry.now room.bytes s c.decide.result c.decide.ensures.value
    (c.decide.ensures.right room s filed knows)
