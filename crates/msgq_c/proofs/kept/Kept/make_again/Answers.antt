-- It is answered as the entry says.
use Rattle.std.proofs.Common.{◌∙◌, sym}
use Rattle.msgq_c.proofs.KeepingLemmas.{makes_again}
use Rattle.msgq_c.proofs.kept.Kept.make_again.Goals as goal

pub returns : goal.returns
returns c =
    makes_again c.args.entry _ c.in-Ok.answer c.args.self.now _ c.in-Ok.ensures
    (sym c.check_of.ensures ∙ c.if-check_of-check.false)
