use Rattle.files_at_rest.proofs.CloseLemmas.{closes_at_rest}
use Rattle.files_at_rest.proofs.opened_laws.a_file_at_rest_closes_as_one.Goals as goal

pub returns : goal.returns
returns c = closes_at_rest
