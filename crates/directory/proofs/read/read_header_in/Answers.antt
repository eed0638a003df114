use Rattle.std.proofs.Common.{◌∙◌}
use Rattle.directory.proofs.HeaderLaws.{is_spelled, spelled_in}
use Rattle.directory.proofs.read.read_header_in.Goals as goal

-- what is read is spelled
pub returns-clause-ok : goal.returns-clause-ok
returns-clause-ok c =
    is_spelled c.args.layout.now c.args.payload.now _ c.requires c.told-payload c.fits-payload c.read.ensures

-- what is spelled is read
pub returns-clause-only : goal.returns-clause-only
returns-clause-only c header spells =
    c.read.ensures ∙ spelled_in c.args.layout.now header c.args.payload.now c.requires spells
