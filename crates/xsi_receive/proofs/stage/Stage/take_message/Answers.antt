-- The Message is told where it is asked for.
use Rattle.xsi_receive.proofs.Names.{Some, refl, sym, take, ◌∙◌}
use Rattle.queue_records.specs.declared.record.Record.TheVariants as records
use Rattle.xsi_receive.proofs.Expected.{expected}
use Rattle.xsi_receive.proofs.KnowingLemmas.{message_is_taken, too_long}
use Rattle.xsi_receive.proofs.stage.Stage.take_message.Goals as goal

-- which is too long
pub returns-then-is_long-clause-told : goal.returns-then-is_long-clause-told
returns-then-is_long-clause-told c s filed knows told =
    let found = Some (records.Message c.args.message.now) in
    let known = rw c.in-AtMessage.is at knows in
    let it = rw c.in-AtMessage.is at told in
    too_long c.args.caller c.args.arguments.now s filed found c.in-AtMessage.queue c.in-AtMessage.entry
    c.in-AtMessage.field-2 known.1 it c.args.message.now refl
    (sym c.is_long.ensures ∙ c.if-is_long.true)

-- or is given: its Queue counts it
pub returns-in_err-at_head-in-AtMessage-clause-told : goal.returns-in_err-at_head-in-AtMessage-clause-told
returns-in_err-at_head-in-AtMessage-clause-told c s filed knows told =
    let found = Some (records.Message c.args.message.now) in
    let known = rw c.in-AtMessage.is at knows in
    let it = rw c.in-AtMessage.is at told in
    let head = message_is_taken c.args.caller c.args.arguments.now s filed found c.in-AtMessage.queue
    c.in-AtMessage.entry c.in-AtMessage.field-2 known.1 it c.args.message.now
    refl (sym c.is_long.ensures ∙ c.if-is_long.false) c.args.room.now known.0 in
    let after = record c.args.room.now {
      bytes = take c.args.room.now.most (take c.args.arguments.now.size c.args.message.now.body);
    } in
    absurd (c.in_err-at_head-in-AtMessage.ensures.knows c.args.caller after s filed refl (rw c.of-head.ensures head))

-- and its bytes are in the room
pub returns-in_ok-at_head-in-AtMessage-clause-told : goal.returns-in_ok-at_head-in-AtMessage-clause-told
returns-in_ok-at_head-in-AtMessage-clause-told c s filed knows told =
    let found = Some (records.Message c.args.message.now) in
    let known = rw c.in-AtMessage.is at knows in
    let it = rw c.in-AtMessage.is at told in
    let head = message_is_taken c.args.caller c.args.arguments.now s filed found c.in-AtMessage.queue
    c.in-AtMessage.entry c.in-AtMessage.field-2 known.1 it c.args.message.now
    refl (sym c.is_long.ensures ∙ c.if-is_long.false) c.args.room.now known.0 in
    rw (c.fill.ensures, c.cut.ensures, c.as_slice.ensures) (c.in_ok-at_head-in-AtMessage.ensures.knows c.args.caller _ s
    filed refl (rw c.of-head.ensures head))

pub returns-in-Seeking-clause-told : goal.returns-in-Seeking-clause-told
returns-in-Seeking-clause-told c s filed known told =
    rw c.in-Seeking.is at (expected c.args.caller c.args.arguments.now c.args.self.now c.args.room.now s
    (records.Message c.args.message.now) filed known c.requires told)

pub returns-in-AtType-clause-told : goal.returns-in-AtType-clause-told
returns-in-AtType-clause-told c s filed known told =
    rw c.in-AtType.is at (expected c.args.caller c.args.arguments.now c.args.self.now c.args.room.now s
    (records.Message c.args.message.now) filed known c.requires told)

pub returns-in-AtTypeOf-clause-told : goal.returns-in-AtTypeOf-clause-told
returns-in-AtTypeOf-clause-told c s filed known told =
    rw c.in-AtTypeOf.is at (expected c.args.caller c.args.arguments.now c.args.self.now c.args.room.now s
    (records.Message c.args.message.now) filed known c.requires told)
