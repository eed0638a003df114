use Rattle.xsi_send.proofs.Names.{IsBetween, IsWalked, None, SFits, Some, TypeEntry, ap, arith, false, ints, rules, same_Some, subst, sym, to_z-of_z, true, w64, ◌+◌, ◌<ℤ◌, ◌∙◌, ◌≡◌}
use Rattle.queue_records.specs.declared.record.Record.TheVariants as records
use Rattle.xsi_send.proofs.Told.{less_of_z, same_of_z, same_type}
use Rattle.xsi_send.proofs.Walked.{higher_fits, next_apart, next_fits, next_told, walk_ascends, walk_ends_above, walk_ends_behind, walk_goes_on, walk_has_left}
use Rattle.xsi_send.proofs.reading.take_neighbour.Goals as goal

-- a queue has no more types than messages
pub returns-in_default-clause-told : goal.returns-in_default-clause-told
returns-in_default-clause-told c s filed (known, walked) told =
    let w = c.args.walk.now in
    let none = c.in_default.ensures in
    let zero_left : w.left ≡ 0 = grind (arith, none) in
    walk_has_left c.args.caller c.args.arguments.now w.queue s filed known w walked zero_left

-- it is another than the message's
pub returns-then-walk-arguments-clause-told : goal.returns-then-walk-arguments-clause-told
returns-then-walk-arguments-clause-told c s filed (known, walked) told =
    let a = c.args.arguments.now in
    let w = c.args.walk.now in
    let its : SFits w64 a.mtype = search rules in
    let fits = next_fits c.args.caller a w.queue s filed known w walked in
    absurd (next_apart c.args.caller a w.queue s filed known w walked
    (same_of_z w.next a.mtype fits its c.if-walk-arguments.true))

-- a greater one
pub returns-then-walk-arguments-2-clause-told : goal.returns-then-walk-arguments-2-clause-told
returns-then-walk-arguments-2-clause-told c s filed (known, walked) told =
    let a = c.args.arguments.now in
    let w = c.args.walk.now in
    let its : SFits w64 a.mtype = search rules in
    let fits = next_fits c.args.caller a w.queue s filed known w walked in
    let test = less_of_z a.mtype w.next true its fits c.if-walk-arguments-2.true in
    let more : a.mtype <ℤ w.next = grind (arith, ints, test) in (
      known,
      subst (λ n. IsBetween a.mtype w.lower (Some n) known.queue) (sym (to_z-of_z w64 w.next fits))
          (walk_ends_above c.args.caller a w.queue s filed known w walked more),
    )

-- the highest one
pub returns-in_default-higher-clause-told : goal.returns-in_default-higher-clause-told
returns-in_default-higher-clause-told c s filed (known, walked) told =
    let a = c.args.arguments.now in
    let w = c.args.walk.now in
    let is = next_told c.args.caller a w.queue s filed known w walked (Some (records.Type c.args.entry.now)) told in
    let entry = same_type _ _ (same_Some _ _ is) in
    let its : SFits w64 a.mtype = search rules in
    let fits = next_fits c.args.caller a w.queue s filed known w walked in
    let apart = next_apart c.args.caller a w.queue s filed known w walked in
    let no_more = less_of_z a.mtype w.next false its fits c.if-walk-arguments-2.false in
    let less : w.next <ℤ a.mtype = grind (arith, ints, no_more, apart) in
    let none = sym (ap (λ (x : TypeEntry). x.higher) entry) ∙ c.in_default-higher.is in (
      known,
      subst (λ n. IsBetween a.mtype (Some n) None known.queue) (sym (to_z-of_z w64 w.next fits))
          (walk_ends_behind c.args.caller a w.queue s filed known w walked less none),
    )

-- types ascend
pub returns-then-next-walk-clause-told : goal.returns-then-next-walk-clause-told
returns-then-next-walk-clause-told c s filed (known, walked) told =
    let a = c.args.arguments.now in
    let w = c.args.walk.now in
    let is = next_told c.args.caller a w.queue s filed known w walked (Some (records.Type c.args.entry.now)) told in
    let entry = same_type _ _ (same_Some _ _ is) in
    let its : SFits w64 a.mtype = search rules in
    let fits = next_fits c.args.caller a w.queue s filed known w walked in
    let higher = c.in-Some-higher.next in
    let some = sym (ap (λ (x : TypeEntry). x.higher) entry) ∙ c.in-Some-higher.is in
    let above = walk_ascends c.args.caller a w.queue s filed known w walked higher some in
    let higher_fit = higher_fits c.args.caller a w.queue s filed known w walked higher some in
    let no_more = simp to_z-of_z at c.if-next-walk.true in
    absurd (grind (arith, ints, above, no_more))

-- one below, with another above it
pub returns-clause-told : goal.returns-clause-told
returns-clause-told c s filed (known, walked) told =
    let a = c.args.arguments.now in
    let w = c.args.walk.now in
    let is = next_told c.args.caller a w.queue s filed known w walked (Some (records.Type c.args.entry.now)) told in
    let entry = same_type _ _ (same_Some _ _ is) in
    let its : SFits w64 a.mtype = search rules in
    let fits = next_fits c.args.caller a w.queue s filed known w walked in
    let apart = next_apart c.args.caller a w.queue s filed known w walked in
    let no_more = less_of_z a.mtype w.next false its fits c.if-walk-arguments-2.false in
    let less : w.next <ℤ a.mtype = grind (arith, ints, no_more, apart) in
    let higher = c.in-Some-higher.next in
    let some = sym (ap (λ (x : TypeEntry). x.higher) entry) ∙ c.in-Some-higher.is in
    let higher_fit = higher_fits c.args.caller a w.queue s filed known w walked higher some in
    let one = c.in-Some.ensures in
    let fewer : c.in-Some.left + 1 ≡ w.left = grind (arith, one) in
    let further = walk_goes_on c.args.caller a w.queue s filed known w walked higher some
    c.in-Some.left fewer less in (
      known,
      subst (λ n. IsWalked a.mtype (record {
        queue = w.queue;
        lower = Some w.next;
        next = n;
        left = c.in-Some.left;
      }) known.queue) (sym (to_z-of_z w64 higher higher_fit)) further,
    )
