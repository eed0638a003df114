use Rattle.std.proofs.Common.{[], ap, ◌∙◌}
use Rattle.page_locks.specs.Table.{Table, without_lock}
use Rattle.page_locks.proofs.SeatRowLemmas.{row_is, row-released}
use Rattle.page_locks.proofs.TieLemmas.{IsSoundTable-release, HasFewNames-tied, IsTied-release}
use Rattle.page_locks.proofs.TableLemmas.{names_once}
use Rattle.page_locks.proofs.lock_table.LockTable.release.Goals as goal

-- half of the slots are free
pub spot-spot-requires : goal.spot-spot-requires
spot-spot-requires c =
    record { few = HasFewNames-tied c.self.inside.slots c.self.inside.rows.items c.self.invariant.tied }

pub store-requires-clause-few : goal.store-requires-clause-few
store-requires-clause-few c = HasFewNames-tied c.self.inside.slots c.self.inside.rows.items c.self.invariant.tied

-- the row that is written is the seat's
pub returns : goal.returns
returns c =
    let is = rw (← c.self.view_is) at c.requires.seat in
    row-released c.self.inside.rows.items c.args.seat is _ _ c.index_mut.ensures.value c.args.name c.remove.ensures ∙
    ap (λ (t : Table). without_lock t c.args.seat c.args.name) c.self.view_is

-- what a seat holds after a release it held before
pub invariant_of-self : goal.invariant_of-self
invariant_of-self c =
    let t = c.self.inside.rows.items in
    let seat = c.args.seat in
    let is = rw (← c.self.view_is) at c.requires.seat in
    rw (row-released t seat is _ _ c.index_mut.ensures.value c.args.name c.remove.ensures)
    (IsSoundTable-release c.self.inside.slots t c.self.inside.looked c.self.invariant seat is c.args.name
    (IsTied-release c.self.inside.slots t c.self.invariant.tied seat is c.args.name c.spot-spot.result.holders
    c.spot-spot.ensures.holders c.without.result c.store.new.self c.store.ensures c.without.ensures))

-- a row has no name twice
pub remove-requires : goal.remove-requires
remove-requires c =
    let is = rw (← c.self.view_is) at c.requires.seat in
    let row = row_is c.self.inside.rows.items c.args.seat is _ [] c.index_mut.ensures.value in
    rw row (record { once = names_once c.self.inside.rows.items c.args.seat c.self.invariant.tied.lawful })
