use Rattle.std.proofs.Common.{◌≡◌, false, length, sym}
use Rattle.std.specs.Prelude.{◌==◌}
use Rattle.std.proofs.lemmas.Int.{to_z-of_z}
use Rattle.queue_model.proofs.SelectionLemmas.{position_selects-zero, position_selects-above, position_selects-below}
use Rattle.queue_model.proofs.message.first_selected.Goals as goal

-- a type above 0
pub returns-then-mtype-gt0 : goal.returns-then-mtype-gt0
returns-then-mtype-gt0 c =
    let fits = c.ranges.mtype in
    let above = simp to_z-of_z at c.if-mtype-gt0.true in
    let first = simp to_z-of_z at c.first_of_type.ensures in
    let items = c.args.messages.now in
    rw (position_selects-above c.args.mtype items above) first

-- a type below 0
pub returns-then-mtype-lt0 : goal.returns-then-mtype-lt0
returns-then-mtype-lt0 c =
    let fits = c.ranges.mtype in
    let below = simp to_z-of_z at c.if-mtype-lt0.true in
    let bound = simp to_z-of_z at c.unsigned_abs.ensures.value in
    let items = c.args.messages.now in
    let first = rw bound at c.first_of_lowest.ensures in
    rw (position_selects-below c.args.mtype items below) first

-- type 0
pub returns-else-is_empty : goal.returns-else-is_empty
returns-else-is_empty c =
    let fits = c.ranges.mtype in
    let above = simp to_z-of_z at c.if-mtype-gt0.false in
    let below = simp to_z-of_z at c.if-mtype-lt0.false in
    let some : (length c.args.messages.now == 0) ≡ false = sym c.if-is_empty.ensures in
    sym (position_selects-zero c.args.mtype c.args.messages.now above below some)
