-- Where nothing stands at the key.
use Rattle.xsi_receive.proofs.Names.{None, ap, arith, ints, refl, sym, ◌∙◌, ◌≡◌}
use Rattle.xsi_inquiry.proofs.SeekLemmas.{absent_told}
use Rattle.xsi_inquiry.specs.declared.sought.Sought.TheVariants as sought
use Rattle.xsi_receive.proofs.Expected.{lacks_above, message_stands, type_stands}
use Rattle.xsi_receive.proofs.KnowingLemmas.{nothing_of_type}
use Rattle.xsi_receive.specs.declared.stage.Stage.TheVariants as stages
use Rattle.xsi_receive.proofs.stage.Stage.take_none.Goals as goal

-- there is no queue
pub returns-in-Unread-clause-told : goal.returns-in-Unread-clause-told
returns-in-Unread-clause-told c room s filed known told =
    let is : c.args.self.now ≡ stages.Seeking sought.Unread =
    c.in-Seeking.is ∙ ap stages.Seeking c.in-Unread.is in
    let knew = rw is at known in
    (knew.0, absent_told c.args.arguments.now.id s knew.1 (rw is at told), refl)

-- a Type at or below 0 stands
pub returns-else-may_lack-clause-told : goal.returns-else-may_lack-clause-told
returns-else-may_lack-clause-told c room s filed known told =
    let knew = rw c.in-AtType.is at known in
    let it = rw c.in-AtType.is at told in
    let above = lacks_above c.args.caller c.args.arguments.now c.in-AtType.field-0 c.in-AtType.field-1 s filed
    knew.1 it in
    let test = sym c.may_lack.ensures ∙ c.if-may_lack.false in
    absurd (grind (arith, ints, above, test))

-- a type above 0 has no message
pub returns-then-may_lack-clause-told : goal.returns-then-may_lack-clause-told
returns-then-may_lack-clause-told c room s filed known told =
    let knew = rw c.in-AtType.is at known in
    let it = rw c.in-AtType.is at told in
    rw c.put_off.ensures (nothing_of_type c.args.caller c.args.arguments.now c.in-AtType.field-0 s filed
    c.in-AtType.field-1 knew.1 room None it refl)

-- the message stands
pub returns-in-AtMessage-clause-told : goal.returns-in-AtMessage-clause-told
returns-in-AtMessage-clause-told c room s filed known told =
    let knew = rw c.in-AtMessage.is at known in
    message_stands c.args.caller c.args.arguments.now c.in-AtMessage.field-0 c.in-AtMessage.field-1
    c.in-AtMessage.field-2 s filed knew.1 (rw c.in-AtMessage.is at told)

-- and its Type
pub returns-in-AtTypeOf-clause-told : goal.returns-in-AtTypeOf-clause-told
returns-in-AtTypeOf-clause-told c room s filed known told =
    let knew = rw c.in-AtTypeOf.is at known in
    type_stands c.args.caller c.args.arguments.now c.in-AtTypeOf.field-0 c.in-AtTypeOf.field-1 None room s filed
    knew.0 (rw c.in-AtTypeOf.is at told)
