-- A Receive asks for Queues, Types and Messages alone.
use Rattle.xsi_receive.proofs.Expected.{expected, of_three}
use Rattle.xsi_receive.proofs.stage.Stage.take.Goals as goal

pub returns-in-Counter-clause-told : goal.returns-in-Counter-clause-told
returns-in-Counter-clause-told c s filed known told =
    let r = c.in-Some.found in
    let it = rw c.in-Some.is at told in
    rw c.in-Counter.is at (of_three c.args.self.now r (expected c.args.caller c.args.arguments.now
    c.args.self.now c.args.room.now s r filed known c.requires it))

pub returns-in-Key-clause-told : goal.returns-in-Key-clause-told
returns-in-Key-clause-told c s filed known told =
    let r = c.in-Some.found in
    let it = rw c.in-Some.is at told in
    rw c.in-Key.is at (of_three c.args.self.now r (expected c.args.caller c.args.arguments.now
    c.args.self.now c.args.room.now s r filed known c.requires it))
