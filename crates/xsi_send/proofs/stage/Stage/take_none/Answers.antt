-- Where nothing stands at the key.
use Rattle.xsi_send.proofs.Names.{IsWalked, None, SFits, ap, key_of_type, refl, rules, subst, sym, to_z-of_z, w64, ◌∙◌, ◌≡◌}
use Rattle.xsi_inquiry.proofs.SeekLemmas.{absent_told}
use Rattle.xsi_inquiry.specs.declared.sought.Sought.TheVariants as sought
use Rattle.xsi_send.proofs.Expected.{next_stands}
use Rattle.xsi_send.specs.declared.stage.Stage.TheVariants as stages
use Rattle.xsi_send.proofs.stage.Stage.take_none.Goals as goal

-- there is no queue
pub returns-in-Unread-clause-told : goal.returns-in-Unread-clause-told
returns-in-Unread-clause-told c s filed known told =
    let is : c.args.self.now ≡ stages.Seeking sought.Unread =
    c.in-Seeking.is ∙ ap stages.Seeking c.in-Unread.is in
    let knew = rw is at known in
    (knew.0, absent_told c.args.arguments.now.id s knew.1 (rw is at told), refl)

-- nor a type
pub returns-in-Ends-clause-told : goal.returns-in-Ends-clause-told
returns-in-Ends-clause-told c s filed known told =
    let a = c.args.arguments.now in
    let is_open = rw c.in-AtType.is at known in
    let said = rw c.in-AtType.is at told in
    rw c.in-Ends.is at (c.walk.ensures.told s filed is_open (sym (said (key_of_type a.id a.mtype) refl)))

-- and a way up begins
pub returns-in-Goes-clause-told : goal.returns-in-Goes-clause-told
returns-in-Goes-clause-told c s filed known told =
    let a = c.args.arguments.now in
    let knew = rw c.in-AtType.is at known in
    let said = rw c.in-AtType.is at told in
    let (is_open, walked) = rw c.in-Goes.is at (c.walk.ensures.told s filed knew
    (sym (said (key_of_type a.id a.mtype) refl))) in
    let there : SFits w64 c.in-Goes.next = search rules in (
      is_open,
      subst (λ n. IsWalked a.mtype (record {
        queue = c.in-AtType.queue;
        lower = None;
        next = n;
        left = c.in-Goes.left;
      }) is_open.queue) (sym (to_z-of_z w64 c.in-Goes.next there)) walked,
    )

-- the next type stands
pub returns-in-AtNeighbour-clause-told : goal.returns-in-AtNeighbour-clause-told
returns-in-AtNeighbour-clause-told c s filed known told =
    next_stands c.args.caller c.args.arguments.now c.in-AtNeighbour.field-0 s filed (rw c.in-AtNeighbour.is at known)
    (rw c.in-AtNeighbour.is at told)
