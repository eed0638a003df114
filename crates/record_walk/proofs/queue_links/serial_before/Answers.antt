-- The message before the place.
use Rattle.std.proofs.Common.{arith}
use Rattle.record_walk.proofs.QueueLinksLemmas.{serial_below}
use Rattle.record_walk.proofs.queue_links.serial_before.Goals as goal

pub returns : goal.returns
returns c =
    serial_below c.args.messages.now c.args.place c.get.result.now
    (let n = c.if-place-eq0.false in omega (arith, n)) c.requires c.get.ensures
