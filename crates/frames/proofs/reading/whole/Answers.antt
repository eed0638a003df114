use Rattle.frames.proofs.RecordLaws.{found_first}
use Rattle.frames.proofs.reading.whole.Goals as goal

-- a record that stands first is found
pub returns-clause-only : goal.returns-clause-only
returns-clause-only c = found_first c.args.bytes.now c.measure.result c.measure.ensures
