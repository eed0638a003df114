use Rattle.std.proofs.Common.{rules, refl, ◌<◌, ◌^◌}
use Rattle.page_locks.proofs.HolderLemmas.{ChangesSeat-without}
use Rattle.page_locks.proofs.holders.Holders.without.Goals as goal

-- the seat is taken out of each place where it may stand
pub returns : goal.returns
returns c =
    let small : c.args.self.readers < 2 ^ 64 = search rules in
    let selective = c.but_for.ensures in
    let exclusive = c.but_for-2.ensures in
    ChangesSeat-without c.args.self c.args.seat c.requires.some c.requires.few _ c.but_for.result c.but_for-2.result
    small refl selective.own selective.others exclusive.own exclusive.others
