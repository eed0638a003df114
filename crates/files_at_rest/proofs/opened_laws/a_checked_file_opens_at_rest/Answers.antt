use Rattle.files_at_rest.proofs.OpenedOpenLemmas.{opens_at_rest}
use Rattle.files_at_rest.proofs.opened_laws.a_checked_file_opens_at_rest.Goals as goal

pub returns : goal.returns
returns c = opens_at_rest
