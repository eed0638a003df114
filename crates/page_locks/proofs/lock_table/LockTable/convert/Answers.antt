use Rattle.std.proofs.Common.{rules, ◌≡◌, ◌≢◌, ℕ, false, ap, ◌∙◌}
use Rattle.page_locks.specs.Holding.{kind_at}
use Rattle.page_locks.specs.Locks.{is_against}
use Rattle.page_locks.specs.Table.{Table, held, with_kind}
use Rattle.page_locks.proofs.SeatRowLemmas.{row-converted, some_kind}
use Rattle.page_locks.proofs.TieLemmas.{IsSoundTable-convert, HasFewNames-tied, IsFree-holders, IsTied-convert}
use Rattle.page_locks.proofs.lock_table.LockTable.convert.Goals as goal

-- half of the slots are free
pub spot-spot-requires : goal.spot-spot-requires
spot-spot-requires c =
    record { few = HasFewNames-tied c.self.inside.slots c.self.inside.rows.items c.self.invariant.tied }

pub store-requires-clause-few : goal.store-requires-clause-few
store-requires-clause-few c = HasFewNames-tied c.self.inside.slots c.self.inside.rows.items c.self.invariant.tied

-- the row that is written is the seat's
pub returns-clause-ok : goal.returns-clause-ok
returns-clause-ok c =
    let is = rw (← c.self.view_is) at c.requires.seat in
    row-converted c.self.inside.rows.items c.args.seat is _ _ c.index_mut.ensures.value c.args.name c.args.kind
    c.convert.ensures ∙
    ap (λ (t : Table). with_kind t c.args.seat c.args.name c.args.kind) c.self.view_is

-- no other seat stands in the way of what this seat now holds
pub invariant_of-self : goal.invariant_of-self
invariant_of-self c =
    let t = c.self.inside.rows.items in
    let seat = c.args.seat in
    let holders = c.spot-spot.result.holders in
    let is = rw (← c.self.view_is) at c.requires.seat in
    let had = rw (← c.self.view_is) at c.requires.held in
    let nobody_else : (other : ℕ) → other ≢ seat → is_against c.args.kind (kind_at holders other) ≡ false =
    search rules
    in
    let its = c.spot-spot.ensures.holders in
    let free =
    IsFree-holders c.self.inside.slots t c.self.invariant.tied seat c.args.name holders its c.args.kind nobody_else
    in
    let old = some_kind (held t seat c.args.name) had in
    rw (row-converted t seat is _ _ c.index_mut.ensures.value c.args.name c.args.kind c.convert.ensures)
    (IsSoundTable-convert c.self.inside.slots t c.self.inside.looked c.self.invariant seat c.args.name c.args.kind old.0
    old.1
    (IsTied-convert c.self.inside.slots t c.self.invariant.tied seat is c.args.name holders its c.with-holders.result
    c.store.new.self c.store.ensures c.args.kind old.0 old.1 free c.without.result c.without.ensures
    c.with-holders.ensures))
