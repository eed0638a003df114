use Rattle.xsi_receive.proofs.Names.{FitsSigned, arith, ints, pos, rules, sym, to_z-of_z, w64, ◌<ℤ◌, ◌∙◌, ◌≡◌}
use Rattle.xsi_receive.proofs.stage.Stage.at_queue.Goals as goal
use Rattle.xsi_receive.proofs.KnowingLemmas.{knows_above, knows_below, knows_first, knows_none, knows_out}

-- a type above 0
pub returns-then-arguments-gt0-clause-knows : goal.returns-then-arguments-gt0-clause-knows
returns-then-arguments-gt0-clause-knows c room s filed has entry =
    let fits : FitsSigned w64 c.args.arguments.now.mtype = search rules in
    let test = simp to_z-of_z at c.if-arguments-gt0.true in
    let above : pos 0 <ℤ c.args.arguments.now.mtype = grind (arith, ints, test) in
    let may = rw c.permissions_in.ensures at (sym c.keeps_out.ensures ∙ c.if-keeps_out.false) in
    (has, simp to_z-of_z (knows_above c.args.caller c.args.arguments.now c.args.queue.now s entry room filed may above))

-- no type stands
pub returns-in_default-lowest-clause-knows : goal.returns-in_default-lowest-clause-knows
returns-in_default-lowest-clause-knows c room s filed has entry =
    let fits : FitsSigned w64 c.args.arguments.now.mtype = search rules in
    let test = simp to_z-of_z at c.if-arguments-lt0.true in
    let below : c.args.arguments.now.mtype <ℤ pos 0 = grind (arith, ints, test) in
    let may = rw c.permissions_in.ensures at (sym c.keeps_out.ensures ∙ c.if-keeps_out.false) in
    rw c.put_off-in_default-lowest.ensures (knows_none c.args.caller c.args.arguments.now c.args.queue.now s entry room
    filed
    may below c.in_default-lowest.is)

-- the lowest type is out of range
pub returns-then-unsigned_abs-clause-knows : goal.returns-then-unsigned_abs-clause-knows
returns-then-unsigned_abs-clause-knows c room s filed has entry =
    let fits : FitsSigned w64 c.args.arguments.now.mtype = search rules in
    let lowest_fits : FitsSigned w64 c.in-Some-lowest.lowest = search rules in
    let test = simp to_z-of_z at c.if-arguments-lt0.true in
    let below : c.args.arguments.now.mtype <ℤ pos 0 = grind (arith, ints, test) in
    let may = rw c.permissions_in.ensures at (sym c.keeps_out.ensures ∙ c.if-keeps_out.false) in
    let one = simp to_z-of_z at c.unsigned_abs.ensures.value in
    let two = simp to_z-of_z at c.unsigned_abs-then-arguments-lt0.ensures.value in
    let more = rw (one, two) at c.if-unsigned_abs.true in
    rw c.put_off-then-unsigned_abs.ensures (knows_out c.args.caller c.args.arguments.now c.args.queue.now s entry room
    filed may c.in-Some-lowest.lowest below c.in-Some-lowest.is more)

-- it is in range
pub returns-then-arguments-lt0-clause-knows : goal.returns-then-arguments-lt0-clause-knows
returns-then-arguments-lt0-clause-knows c room s filed has entry =
    let fits : FitsSigned w64 c.args.arguments.now.mtype = search rules in
    let lowest_fits : FitsSigned w64 c.in-Some-lowest.lowest = search rules in
    let test = simp to_z-of_z at c.if-arguments-lt0.true in
    let below : c.args.arguments.now.mtype <ℤ pos 0 = grind (arith, ints, test) in
    let may = rw c.permissions_in.ensures at (sym c.keeps_out.ensures ∙ c.if-keeps_out.false) in
    let one = simp to_z-of_z at c.unsigned_abs.ensures.value in
    let two = simp to_z-of_z at c.unsigned_abs-then-arguments-lt0.ensures.value in
    let within = rw (one, two) at c.if-unsigned_abs.false in (
      has,
      simp to_z-of_z (knows_below c.args.caller c.args.arguments.now c.args.queue.now s entry room filed may
          c.in-Some-lowest.lowest below c.in-Some-lowest.is within),
    )

-- type 0
pub returns-clause-knows : goal.returns-clause-knows
returns-clause-knows c room s filed has entry =
    let fits : FitsSigned w64 c.args.arguments.now.mtype = search rules in
    let above = simp to_z-of_z at c.if-arguments-gt0.false in
    let below = simp to_z-of_z at c.if-arguments-lt0.false in
    let zero_type : c.args.arguments.now.mtype ≡ pos 0 = grind (arith, ints, above, below) in
    let may = rw c.permissions_in.ensures at (sym c.keeps_out.ensures ∙ c.if-keeps_out.false) in (
      has,
      knows_first c.args.caller c.args.arguments.now c.args.queue.now s entry room filed may c.in-Some.serial zero_type
          c.in-Some.is,
    )
