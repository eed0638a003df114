use Rattle.type_chains.proofs.Read.{is_readable}
use Rattle.type_chains.proofs.laws.a_queue_is_read_off_its_record.Goals as goal

pub returns : goal.returns
returns c = is_readable
