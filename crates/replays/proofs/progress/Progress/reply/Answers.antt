use Rattle.std.proofs.Common.{rules}
use Rattle.replays.proofs.PlaceLemmas.{IsSound-replied, under_is_seat, under_within, with_at}
use Rattle.replays.proofs.progress.Progress.reply.Goals as goal

pub index_mut-requires-2 : goal.index_mut-requires-2
index_mut-requires-2 c =
    let under = rw (← c.self.view_is) at c.requires in
    let within = under_within _ c.args.seat c.args.line c.self.invariant under in
    search (rules, within)

-- its line was begun, and had no reply
pub invariant_of-self : goal.invariant_of-self
invariant_of-self c =
    let under = rw (← c.self.view_is) at c.requires in
    let is = under_is_seat c.self.inside.places.items c.args.seat c.args.line under in
    let place = rw (← c.self.view_is) at c.place-place.ensures in
    rw (c.from.ensures, place, with_at c.self.inside.places.items c.args.seat _ is.0)
    (IsSound-replied _ c.args.seat c.args.line c.args.reply c.self.invariant under)
