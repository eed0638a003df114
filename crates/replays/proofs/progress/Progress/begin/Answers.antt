use Rattle.std.proofs.Common.{arith}
use Rattle.replays.proofs.PlaceLemmas.{IsSound-begun, next_is_seat, next_within, with_at}
use Rattle.replays.proofs.progress.Progress.begin.Goals as goal

pub overflow_add-line : goal.overflow_add-line
overflow_add-line c =
    let next = rw (← c.self.view_is) at c.requires.next in
    let within = next_within _ c.args.seat c.args.line c.self.invariant next in
    let few = c.self.told in
    omega (arith, within, few)

pub line_from-next-requires : goal.line_from-next-requires
line_from-next-requires c =
    let next = rw (← c.self.view_is) at c.requires.next in
    let within = next_within _ c.args.seat c.args.line c.self.invariant next in
    omega (arith, within)

-- the lines of the seat before it were begun and replied
pub invariant_of-self : goal.invariant_of-self
invariant_of-self c =
    let next = rw (← c.self.view_is) at c.requires.next in
    let idle = rw (← c.self.view_is) at c.requires.idle in
    let is = next_is_seat c.self.inside.places.items c.args.seat c.args.line next in
    rw (c.from.ensures, c.line_from-next.ensures, with_at c.self.inside.places.items c.args.seat _ is.0)
    (IsSound-begun _ c.args.seat c.args.line c.self.invariant idle next)
