use Rattle.std.proofs.Common.{◌<◌, ◌^◌, arith}
use Rattle.directory.proofs.PageLaws.{set_makes, spelled_page}
use Rattle.directory.proofs.entries.set_entry.Goals as goal

pub returns-clause-ok : goal.returns-clause-ok
returns-clause-ok c =
    let split = c.split_at_mut-entries.ensures in
    let small : c.args.bucket < 2 ^ 32 = omega (arith, c.ranges.bucket.fits) in
    set_makes c.args.payload.now _ _ _ c.args.slot c.args.bucket c.requires.directory c.requires.slot small split.front
    split.back c.set_four.ensures

pub returns-clause-directory : goal.returns-clause-directory
returns-clause-directory c =
    let split = c.split_at_mut-entries.ensures in
    let small : c.args.bucket < 2 ^ 32 = omega (arith, c.ranges.bucket.fits) in
    spelled_page _ _ (set_makes c.args.payload.now _ _ _ c.args.slot c.args.bucket c.requires.directory c.requires.slot
    small split.front split.back c.set_four.ensures)
