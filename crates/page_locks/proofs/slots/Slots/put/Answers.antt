use Rattle.page_locks.proofs.StoreLemmas.{IsProbed-stored, ChangesName-stored}
use Rattle.page_locks.proofs.slots.Slots.put.Goals as goal

-- the name stands at its spot
pub invariant_of-self : goal.invariant_of-self
invariant_of-self c =
    let spot = rw (← c.self.view_is) at c.requires.spot in
    IsProbed-stored c.self.inside.slots.items c.args.name c.args.place c.self.invariant spot c.args.holders
    c.requires.some

pub returns : goal.returns
returns c =
    let spot = rw (← c.self.view_is) at c.requires.spot in
    rw (← c.self.view_is) (ChangesName-stored c.self.inside.slots.items c.args.name c.args.place c.self.invariant spot
    c.args.holders c.requires.some)
