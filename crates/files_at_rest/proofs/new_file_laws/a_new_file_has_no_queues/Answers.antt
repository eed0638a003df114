use Rattle.files_at_rest.proofs.NewLaws.{new_has_no_queues}
use Rattle.files_at_rest.proofs.new_file_laws.a_new_file_has_no_queues.Goals as goal

pub returns : goal.returns
returns c = new_has_no_queues
