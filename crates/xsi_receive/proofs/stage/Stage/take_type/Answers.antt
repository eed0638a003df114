-- The Type is told where it is asked for.
use Rattle.xsi_receive.proofs.Names.{Some, refl}
use Rattle.queue_records.specs.declared.record.Record.TheVariants as records
use Rattle.xsi_receive.proofs.Expected.{expected}
use Rattle.xsi_receive.proofs.KnowingLemmas.{last_type_is_taken, type_is_taken}
use Rattle.xsi_receive.proofs.stage.Stage.take_type.Goals as goal

pub returns-in-AtType-clause-told : goal.returns-in-AtType-clause-told
returns-in-AtType-clause-told c room s filed known told =
    let knew = rw c.in-AtType.is at known in
    let it = rw c.in-AtType.is at told in (
      knew.0,
      type_is_taken c.args.caller c.args.arguments.now s filed (Some (records.Type c.args.entry.now))
          c.in-AtType.queue c.in-AtType.field-1 c.args.entry.now knew.1 it refl,
    )

-- it was the last of its type
pub returns-in-AtTypeOf-clause-told : goal.returns-in-AtTypeOf-clause-told
returns-in-AtTypeOf-clause-told c room s filed known told =
    let knew = rw c.in-AtTypeOf.is at known in
    let it = rw c.in-AtTypeOf.is at told in
    c.at_head.ensures.knows c.args.caller room s filed refl
    (last_type_is_taken c.args.caller c.args.arguments.now s filed (Some (records.Type c.args.entry.now))
    c.in-AtTypeOf.queue c.in-AtTypeOf.head room knew.0 it c.args.entry.now refl)

pub returns-in-Seeking-clause-told : goal.returns-in-Seeking-clause-told
returns-in-Seeking-clause-told c room s filed known told =
    rw c.in-Seeking.is at (expected c.args.caller c.args.arguments.now c.args.self.now room s
    (records.Type c.args.entry.now) filed known c.requires told)

pub returns-in-AtMessage-clause-told : goal.returns-in-AtMessage-clause-told
returns-in-AtMessage-clause-told c room s filed known told =
    rw c.in-AtMessage.is at (expected c.args.caller c.args.arguments.now c.args.self.now room s
    (records.Type c.args.entry.now) filed known c.requires told)
