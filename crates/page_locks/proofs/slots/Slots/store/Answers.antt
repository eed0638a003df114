use Rattle.std.proofs.Common.{rules, ◌≡◌, false, true}
use Rattle.page_locks.specs.Holding.{is_nobody}
use Rattle.page_locks.proofs.StoreLemmas.{ChangesName-nothing, IsOpened-freed, HasFreeBut-freed, ChangesName-freed}
use Rattle.page_locks.proofs.slots.Slots.store.Goals as goal

-- nobody held it, and nobody does
pub returns-then-is_nobody : goal.returns-then-is_nobody
returns-then-is_nobody c =
    let spot = rw (← c.self.view_is) at c.requires.spot in
    let none : is_nobody c.args.holders ≡ true = search rules in
    let free : is_nobody c.index.result.now.holders ≡ true = search rules in
    rw (← c.self.view_is) (ChangesName-nothing c.self.inside.slots.items c.args.name c.args.place
    c.self.invariant spot c.args.holders none c.index.result.now c.index.ensures free)

-- its slot becomes free
pub close_up-requires-clause-opened : goal.close_up-requires-clause-opened
close_up-requires-clause-opened c =
    let spot = rw (← c.self.view_is) at c.requires.spot in
    rw c.as_mut_slice.ensures.value
    (IsOpened-freed c.self.inside.slots.items c.args.name c.args.place c.self.invariant spot)

pub close_up-requires-clause-free : goal.close_up-requires-clause-free
close_up-requires-clause-free c =
    let spot = rw (← c.self.view_is) at c.requires.spot in
    let few = rw (← c.self.view_is) at c.requires.few in
    let some : is_nobody c.index.result.now.holders ≡ false = search rules in
    rw c.as_mut_slice.ensures.value
    (HasFreeBut-freed c.self.inside.slots.items c.args.name c.args.place c.self.invariant spot few
    c.index.result.now c.index.ensures some)

-- and the names behind it close up
pub returns : goal.returns
returns c =
    let spot = rw (← c.self.view_is) at c.requires.spot in
    let none : is_nobody c.args.holders ≡ true = search rules in
    let some : is_nobody c.index.result.now.holders ≡ false = search rules in
    let same = rw c.as_mut_slice.ensures.value at c.close_up.ensures.same in
    rw (← c.self.view_is) (ChangesName-freed c.self.inside.slots.items c.args.name c.args.place
    c.self.invariant spot c.args.holders none c.index.result.now c.index.ensures some c.close_up.new.slots
    c.close_up.ensures.probed same _ (search rules))
