-- A Send asks for Queues and Types alone.
use Rattle.xsi_send.proofs.Expected.{either, expected}
use Rattle.xsi_send.proofs.stage.Stage.take.Goals as goal

pub returns-in-Counter-clause-told : goal.returns-in-Counter-clause-told
returns-in-Counter-clause-told c s filed known told =
    let r = c.in-Some.found in
    let it = rw c.in-Some.is at told in
    rw c.in-Counter.is at (either c.args.self.now r (expected c.args.caller c.args.arguments.now
    c.args.self.now s r filed known c.requires it))

pub returns-in-Key-clause-told : goal.returns-in-Key-clause-told
returns-in-Key-clause-told c s filed known told =
    let r = c.in-Some.found in
    let it = rw c.in-Some.is at told in
    rw c.in-Key.is at (either c.args.self.now r (expected c.args.caller c.args.arguments.now
    c.args.self.now s r filed known c.requires it))

pub returns-in-Message-clause-told : goal.returns-in-Message-clause-told
returns-in-Message-clause-told c s filed known told =
    let r = c.in-Some.found in
    let it = rw c.in-Some.is at told in
    rw c.in-Message.is at (either c.args.self.now r (expected c.args.caller c.args.arguments.now
    c.args.self.now s r filed known c.requires it))
