-- The Queue is told where it is asked for.
use Rattle.xsi_send.proofs.Names.{ap, ◌∙◌, ◌≡◌}
use Rattle.queue_records.specs.declared.record.Record.TheVariants as records
use Rattle.xsi_inquiry.proofs.SeekLemmas.{found_told}
use Rattle.xsi_inquiry.specs.declared.sought.Sought.TheVariants as sought
use Rattle.xsi_send.proofs.Expected.{expected}
use Rattle.xsi_send.specs.declared.stage.Stage.TheVariants as stages
use Rattle.xsi_send.proofs.stage.Stage.take_queue.Goals as goal

pub returns-in-Unread-clause-told : goal.returns-in-Unread-clause-told
returns-in-Unread-clause-told c s filed known told =
    let is : c.args.self.now ≡ stages.Seeking sought.Unread =
    c.in-Seeking.is ∙ ap stages.Seeking c.in-Unread.is in
    let knew = rw is at known in
    c.at_queue.ensures.told s knew.0 (found_told c.args.arguments.now.id s c.args.queue.now filed (rw is at told))

pub returns-in-AtType-clause-told : goal.returns-in-AtType-clause-told
returns-in-AtType-clause-told c s filed known told =
    rw c.in-AtType.is at (expected c.args.caller c.args.arguments.now c.args.self.now s
    (records.Queue c.args.queue.now) filed known c.requires told)

pub returns-in-AtNeighbour-clause-told : goal.returns-in-AtNeighbour-clause-told
returns-in-AtNeighbour-clause-told c s filed known told =
    rw c.in-AtNeighbour.is at (expected c.args.caller c.args.arguments.now c.args.self.now s
    (records.Queue c.args.queue.now) filed known c.requires told)
