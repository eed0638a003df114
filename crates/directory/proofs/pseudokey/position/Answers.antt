-- std moves the bits over one by one, and the definition names them from the lowest
use Rattle.std.proofs.Common.{◌∙◌}
use Rattle.directory.proofs.PositionLaws.{position_is}
use Rattle.directory.proofs.pseudokey.position.Goals as goal

pub returns : goal.returns
returns c = c.reverse_bits.ensures ∙ position_is c.args.pseudokey
