-- What the pages of a file mean.
use Rattle.files_at_rest.proofs.SpelledLemmas.{spells_one}
use Rattle.files_at_rest.proofs.spelled_laws.pages_spell_one_system.Goals as goal

pub returns : goal.returns
returns c = spells_one
