-- What the pages of a file mean.
use Rattle.files_at_rest.proofs.SpelledLemmas.{spells}
use Rattle.files_at_rest.proofs.spelled_laws.the_file_of_a_system_spells_it.Goals as goal

pub returns : goal.returns
returns c = spells
