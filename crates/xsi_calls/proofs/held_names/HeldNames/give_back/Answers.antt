use Rattle.std.proofs.Common.{sym, ◌∙◌, subst, [], ◌∷◌}
use Rattle.call_writes.specs.call_decisions.NameLaws.{AreNames}
use Rattle.xsi_calls.proofs.OrderLemmas.{begin_are_names}
use Rattle.xsi_calls.proofs.HeldStepLemmas.{gave_last_back, row_without}
use Rattle.xsi_calls.proofs.held_names.HeldNames.give_back.Goals as goal

pub invariant_of-self-2 : goal.invariant_of-self-2
invariant_of-self-2 c =
    begin_are_names c.pop.new.self.items (c.in-Some.last ∷ [])
    (subst AreNames c.in-Some.ensures.items c.self.invariant)

pub returns-clause-row : goal.returns-clause-row
returns-clause-row c =
    row_without c.args.locks.now c.args.seat c.pop.new.self.items c.in-Some.last
    (subst AreNames c.in-Some.ensures.items c.self.invariant)
    (c.requires.row ∙ sym c.self.view_is ∙ c.in-Some.ensures.items) c.release.new.self c.release.ensures

pub returns-clause-step : goal.returns-clause-step
returns-clause-step c = λ hash pool change write sees.
    gave_last_back c.args.locks.now c.args.seat c.pop.new.self.items c.in-Some.last
    (subst AreNames c.in-Some.ensures.items c.self.invariant)
    (c.requires.row ∙ sym c.self.view_is ∙ c.in-Some.ensures.items) hash pool change write sees c.requires.seat
    c.release.new.self c.release.ensures
