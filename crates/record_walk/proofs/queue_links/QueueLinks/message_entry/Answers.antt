-- The Message of the message at the place.
use Rattle.std.proofs.Common.{rules, w64}
use Rattle.std.proofs.lemmas.Int.{to_z-of_z}
use mir.Val.{SFits}
use Rattle.record_walk.proofs.QueueLinksLemmas.{message_is, message_there, message_which}
use Rattle.record_walk.proofs.queue_links.QueueLinks.message_entry.Goals as goal

pub returns-clause-stands : goal.returns-clause-stands
returns-clause-stands c =
    let m = c.get-message.result.now in
    let fits : SFits w64 m.mtype = search rules in
    message_there c.args.queue.now c.args.self.now c.requires.links c.args.place m c.requires.within c.requires.ascend
    c.get-message.ensures _ (message_is c.args.queue.now c.args.self.now c.requires.links c.args.place m
    c.requires.within c.requires.ascend c.get-message.ensures _ _ _ _ _ c.index.result.now (to_z-of_z w64 m.mtype fits)
    c.serial_before.ensures c.serial_behind.ensures c.index.ensures c.link_of.ensures (search rules))

pub returns-clause-which : goal.returns-clause-which
returns-clause-which c =
    let m = c.get-message.result.now in
    let fits : SFits w64 m.mtype = search rules in
    message_which c.args.queue.now c.args.self.now c.requires.links c.args.place m c.requires.within c.requires.ascend
    c.get-message.ensures _ (message_is c.args.queue.now c.args.self.now c.requires.links c.args.place m
    c.requires.within c.requires.ascend c.get-message.ensures _ _ _ _ _ c.index.result.now (to_z-of_z w64 m.mtype fits)
    c.serial_before.ensures c.serial_behind.ensures c.index.ensures c.link_of.ensures (search rules))
