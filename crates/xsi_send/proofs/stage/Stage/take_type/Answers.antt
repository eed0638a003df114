use Rattle.xsi_send.proofs.Names.{IsWalked, SFits, Some, TypeEntry, ap, of_z, rules, subst, sym, to_z, to_z-of_z, w64}
use Rattle.queue_records.specs.declared.record.Record.TheVariants as records
use Rattle.xsi_send.proofs.Expected.{expected}
use Rattle.xsi_send.proofs.Told.{same_type, type_told}
use Rattle.xsi_send.proofs.stage.Stage.take_type.Goals as goal

-- the way ends at the place of the type
pub returns-in-Ends-clause-told : goal.returns-in-Ends-clause-told
returns-in-Ends-clause-told c s filed knows told =
    let known = rw c.in-AtNeighbour.is at knows in
    let said = rw c.in-AtNeighbour.is at told in
    rw c.in-Ends.is at (c.in_ok-place-in-AtNeighbour.ensures.told s filed known said)

-- or goes on to the next type
pub returns-in-Goes-clause-told : goal.returns-in-Goes-clause-told
returns-in-Goes-clause-told c s filed knows told =
    let w = c.in-AtNeighbour.walk in
    let known = rw c.in-AtNeighbour.is at knows in
    let said = rw c.in-AtNeighbour.is at told in
    let (is_open, walked) = rw c.in-Goes.is at (c.in_ok-place-in-AtNeighbour.ensures.told s filed known said) in
    let here : SFits w64 w.next = search rules in
    let there : SFits w64 c.in-Goes.next = search rules in (
      is_open,
      subst (λ n. IsWalked c.args.arguments.now.mtype (record {
        queue = w.queue;
        lower = Some n;
        next = to_z w64 (of_z w64 c.in-Goes.next);
        left = c.in-Goes.left;
      }) is_open.queue) (sym (to_z-of_z w64 w.next here))
          (subst (λ n. IsWalked c.args.arguments.now.mtype (record {
            queue = w.queue;
            lower = Some w.next;
            next = n;
            left = c.in-Goes.left;
          }) is_open.queue) (sym (to_z-of_z w64 c.in-Goes.next there)) walked),
    )

-- the message's type stands
pub returns-in-AtType-clause-told : goal.returns-in-AtType-clause-told
returns-in-AtType-clause-told c s filed known told =
    let is_open = rw c.in-AtType.is at known in
    let (stands, is) = type_told c.args.caller c.args.arguments.now c.in-AtType.queue s filed is_open
    (records.Type c.args.entry.now) (rw c.in-AtType.is at told) in
    (is_open, record { stands = stands; last = ap (λ (x : TypeEntry). x.last) (same_type _ _ is) })

-- where the queue is sought, no Type is asked for
pub returns-in-Seeking-clause-told : goal.returns-in-Seeking-clause-told
returns-in-Seeking-clause-told c s filed known told =
    rw c.in-Seeking.is at (expected c.args.caller c.args.arguments.now c.args.self.now s
    (records.Type c.args.entry.now) filed known c.requires told)
