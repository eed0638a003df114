use Rattle.type_chains.proofs.Sends.{made_of_the_queue}
use Rattle.type_chains.proofs.laws.a_send_is_made_of_the_queues_record.Goals as goal

pub returns : goal.returns
returns c = made_of_the_queue
