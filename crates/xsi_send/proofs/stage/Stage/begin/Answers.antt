-- Nothing is known yet but that it is not refused.
use Rattle.xsi_send.proofs.stage.Stage.begin.Goals as goal

pub returns-clause-knows : goal.returns-clause-knows
returns-clause-knows c s = c.is_refused_unread.ensures.begun c.if-is_refused_unread.false c.args.caller s
