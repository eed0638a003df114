use Rattle.xsi_calls.proofs.LawLemmas.{begin_few, receive_few}
use Rattle.xsi_calls.proofs.laws.a_call_begins_few_searches.Goals as goal

pub returns-clause-asks : goal.returns-clause-asks
returns-clause-asks c = begin_few

pub returns-clause-receive : goal.returns-clause-receive
returns-clause-receive c = receive_few
