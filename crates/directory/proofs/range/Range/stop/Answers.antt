-- the width is at most 2 ^ 32, so that the shift loses nothing
use Rattle.std.proofs.Common.{◌-◌, ◌^◌, ◌≤◌, arith}
use Rattle.directory.specs.declared.pseudokey.TheConstants.{PSEUDOKEY_BITS, POSITIONS}
use Rattle.directory.specs.Positions.{width_of}
use Rattle.directory.proofs.PositionLaws.{width_most}
use Rattle.directory.proofs.range.Range.stop.Goals as goal

pub returns : goal.returns
unfolding width_of
returns c =
    let small : 2 ^ (PSEUDOKEY_BITS - c.args.self.depth) ≤ POSITIONS = width_most c.args.self.depth in
    omega (arith, small, c.from.ensures, c.start.ensures)
