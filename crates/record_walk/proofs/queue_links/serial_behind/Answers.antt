-- The message behind the place, where it is not the last.
use Rattle.std.proofs.Common.{◌+◌, arith}
use Rattle.record_walk.proofs.QueueLinksLemmas.{none_behind, serial_at}
use Rattle.record_walk.proofs.queue_links.serial_behind.Goals as goal

pub returns-then-len-place-eq1 : goal.returns-then-len-place-eq1
returns-then-len-place-eq1 c =
    none_behind c.args.messages.now c.args.place
    (let n = c.len.ensures in let w = c.requires in let e = c.if-len-place-eq1.true in omega (arith, n, w, e))

pub returns : goal.returns
returns c =
    serial_at c.args.messages.now (c.args.place + 1) c.get.result.now
    (let n = c.len.ensures in let w = c.requires in let e = c.if-len-place-eq1.false in omega (arith, n, w, e))
    c.get.ensures
