-- An access is under way, or the next one begins.
use Rattle.std.proofs.Common.{sym, ◌∙◌}
use Rattle.call_writes.proofs.StartLemmas.{goes_on}
use Rattle.call_writes.proofs.writes.CallWrites.set_out.Goals as goal

pub returns-then-is_under_way : goal.returns-then-is_under_way
returns-then-is_under_way g c =
    goes_on _ c.args.plan.now c.args.self.now (sym c.is_under_way.ensures ∙ c.if-is_under_way.true)
