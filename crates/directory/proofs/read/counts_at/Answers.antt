use Rattle.directory.proofs.read.counts_at.Goals as goal

pub returns : goal.returns
unfolding Rattle.directory.specs.Reading.counts_at Rattle.directory.specs.Reading.counts_area
returns c = c.read_numbers.ensures
