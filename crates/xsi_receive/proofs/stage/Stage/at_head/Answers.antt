use Rattle.xsi_receive.proofs.Names.{Bool, false, sym, true, ◌∙◌, ◌≡◌}
use Rattle.xsi_receive.proofs.stage.Stage.at_head.Goals as goal
use Rattle.xsi_receive.proofs.DecidingLemmas.{begins, goes, is_counted_here}

-- the Queue of a system counts the message
pub returns-then-not-is_counted-clause-knows : goal.returns-then-not-is_counted-clause-knows
returns-then-not-is_counted-clause-knows c by room s filed same known =
    let counts = is_counted_here by c.args.arguments.now c.args.queue c.args.head c.args.entry room s filed known in
    let clash : ◌≡◌ {A = Bool} false true = sym c.if-not-is_counted.true ∙ c.is_counted.ensures ∙ counts in
    absurd cc

pub returns-then-not-is_counted-2-clause-knows : goal.returns-then-not-is_counted-2-clause-knows
returns-then-not-is_counted-2-clause-knows c by room s filed same known =
    let counts = is_counted_here by c.args.arguments.now c.args.queue c.args.head c.args.entry room s filed known in
    let clash : ◌≡◌ {A = Bool} false true = sym c.if-not-is_counted-2.true ∙ c.is_counted-2.ensures ∙ counts in
    absurd cc

-- a message of its type is left
pub returns-in-Some-clause-knows : goal.returns-in-Some-clause-knows
returns-in-Some-clause-knows c by room s filed same known =
    rw c.new.ensures (rw (sym same) (begins by c.args.arguments.now c.args.queue c.args.head c.args.entry room
    s filed known c.in-Some.first c.in-Some.is))

-- it was the last of its type
pub returns-clause-knows : goal.returns-clause-knows
returns-clause-knows c by room s filed same known =
    rw c.new-2.ensures (rw (sym same) (goes by c.args.arguments.now c.args.queue c.args.head c.args.entry room
    s filed known c.in_default.is c.in-Some-entry.entry c.in-Some-entry.is))
