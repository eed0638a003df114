-- It is answered as the entry says.
use Rattle.std.proofs.Common.{◌∙◌, sym}
use Rattle.durable_desk.proofs.OpeningLemmas.{has_made}
use Rattle.durable_desk.proofs.remaking.make.Goals as goal

pub returns-clause-made : goal.returns-clause-made
returns-clause-made c =
    has_made c.args.entry _ c.in-Ok.answer c.args.desk.now c.ask.new.self c.in-Ok.ensures.asks
    (sym c.check_of.ensures ∙ c.if-check_of-check.false)
