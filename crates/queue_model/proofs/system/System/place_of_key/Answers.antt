use Rattle.std.proofs.Common.{sym, ap, ◌∙◌}
use Rattle.std.specs.Prelude.{position}
use Rattle.queue_model.proofs.PlaceLemmas.{key_found, key_not_found}
use Rattle.queue_model.proofs.system.System.place_of_key.Goals as goal

pub returns-clause-value : goal.returns-clause-value
returns-clause-value c =
    rw (← c.self.view_is) (key_found c.args.key c.self.inside.queues.items c.first_with_key.result (sym
    (c.first_with_key.ensures ∙ ap (position _) c.as_slice.ensures.value)))

pub returns-clause-none : goal.returns-clause-none
returns-clause-none c =
    rw (← c.self.view_is) (key_not_found c.args.key c.self.inside.queues.items c.first_with_key.result (sym
    (c.first_with_key.ensures ∙ ap (position _) c.as_slice.ensures.value)))
