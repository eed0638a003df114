use Rattle.std.proofs.Common.{sym}
use Rattle.std.proofs.lemmas.Int.{to_z-of_z}
use Rattle.queue_model.proofs.SelectionLemmas.{selected_found, selected_none}
use Rattle.queue_model.proofs.message.Messages.selected.Goals as goal

pub returns-clause-value : goal.returns-clause-value
returns-clause-value c =
    let fits = c.ranges.mtype in
    let at = simp to_z-of_z at c.first_selected.ensures in
    let ms = c.self.inside.items.items in
    rw (← c.self.view_is) (selected_found c.args.mtype ms c.first_selected.result (sym
    (rw c.as_slice.ensures.value at at)))

pub returns-clause-none : goal.returns-clause-none
returns-clause-none c =
    let fits = c.ranges.mtype in
    let at = simp to_z-of_z at c.first_selected.ensures in
    let ms = c.self.inside.items.items in
    rw (← c.self.view_is) (selected_none c.args.mtype ms c.first_selected.result (sym
    (rw c.as_slice.ensures.value at at)))
