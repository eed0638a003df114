use Rattle.std.proofs.Common.{sym, ◌∙◌}
use Rattle.xsi_calls.proofs.HeldTurnLemmas.{is_alone}
use Rattle.xsi_calls.proofs.held_names.HeldNames.turn.Goals as goal

pub returns-then-is_there : goal.returns-then-is_there
returns-then-is_there c =
    sym (is_alone _ _ _ _ _ (c.as_slice-held.ensures.value ∙ c.self.view_is) c.if-held-eq1.true c.only_name.ensures
    (sym c.is_there.ensures ∙ c.if-is_there.true))
