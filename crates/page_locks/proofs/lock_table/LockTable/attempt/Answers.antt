use Rattle.std.proofs.Common.{rules, ◌≡◌, ◌≢◌, ℕ, false, [], sym, ap, ◌∙◌, subst}
use Rattle.page_locks.specs.Holding.{kind_at}
use Rattle.page_locks.specs.Locks.{is_against}
use Rattle.page_locks.specs.Table.{Table, with_lock}
use Rattle.page_locks.specs.Ties.{AreHomesApart}
use Rattle.page_locks.proofs.HolderLemmas.{held-somebody}
use Rattle.page_locks.proofs.SeatRowLemmas.{row_is, row-granted}
use Rattle.page_locks.proofs.TieLemmas.{IsSoundTable-looked, HasFewNames-tied, HasHomesApart-tied, IsFree-holders, IsTied-grant}
use Rattle.page_locks.proofs.lock_table.LockTable.attempt.Goals as goal

-- half of the slots are free
pub spot-spot-requires : goal.spot-spot-requires
spot-spot-requires c =
    record { few = HasFewNames-tied c.self.inside.slots c.self.inside.rows.items c.self.invariant.tied }

-- the seat holds it now
pub put-requires-clause-some : goal.put-requires-clause-some
put-requires-clause-some c = held-somebody c.with.result c.args.seat c.args.kind c.with.ensures.own

-- the row that is written is the seat's
pub push-requires : goal.push-requires
push-requires c =
    let is = rw (← c.self.view_is) at c.requires.seat in
    let room = rw (← c.self.view_is) at c.requires.room in
    rw (row_is c.self.inside.rows.items c.args.seat is _ [] c.index_mut.ensures.value) room

pub returns-clause-ok : goal.returns-clause-ok
returns-clause-ok c =
    let is = rw (← c.self.view_is) at c.requires.seat in
    row-granted c.self.inside.rows.items c.args.seat is _ _ c.index_mut.ensures.value c.args.name c.args.kind
    c.push.ensures ∙
    ap (λ (t : Table). with_lock t c.args.seat c.args.name c.args.kind) c.self.view_is

-- no other seat stands in the way of what this seat now holds
pub invariant_of-self-2 : goal.invariant_of-self-2
invariant_of-self-2 c =
    let t = c.self.inside.rows.items in
    let seat = c.args.seat in
    let holders = c.spot-spot.result.holders in
    let is = rw (← c.self.view_is) at c.requires.seat in
    let room = rw (← c.self.view_is) at c.requires.room in
    let fresh = rw (← c.self.view_is) at c.requires.fresh in
    let nobody_else : (other : ℕ) → other ≢ seat → is_against c.args.kind (kind_at holders other) ≡ false =
    search rules
    in
    let its = c.spot-spot.ensures.holders in
    let free =
    IsFree-holders c.self.inside.slots t c.self.invariant.tied seat c.args.name holders its c.args.kind nobody_else
    in
    rw (row-granted t seat is _ _ c.index_mut.ensures.value c.args.name c.args.kind c.push.ensures)
    (IsSoundTable-looked
    (IsTied-grant c.self.inside.slots t c.self.invariant.tied seat is c.args.name holders its c.with.result
    c.put.new.self c.put.ensures c.args.kind room fresh free c.with.ensures) _ c.spot-spot.ensures.within)

-- where homes are apart one slot is looked at
pub returns-in-Some-clause-once : goal.returns-in-Some-clause-once
returns-in-Some-clause-once c = λ apart.
    let t = c.self.inside.rows.items in
    let there = subst (λ (x : Table). AreHomesApart x c.args.name) (sym c.self.view_is) apart in
    c.spot-spot.ensures.once (HasHomesApart-tied c.self.inside.slots t c.self.invariant.tied c.args.name there)

pub returns-clause-once : goal.returns-clause-once
returns-clause-once c = λ apart.
    let t = c.self.inside.rows.items in
    let there = subst (λ (x : Table). AreHomesApart x c.args.name) (sym c.self.view_is) apart in
    c.spot-spot.ensures.once (HasHomesApart-tied c.self.inside.slots t c.self.invariant.tied c.args.name there)

-- who is blocked leaves what was held, and was told how many slots were looked at
pub invariant_of-self : goal.invariant_of-self
invariant_of-self c = IsSoundTable-looked c.self.invariant.tied _ c.spot-spot.ensures.within
