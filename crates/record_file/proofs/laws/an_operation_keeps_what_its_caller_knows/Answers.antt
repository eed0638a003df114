use Rattle.record_file.proofs.OperationCallerLemmas.{keeps_told, operation_aside, tells_written}
use Rattle.record_file.proofs.laws.an_operation_keeps_what_its_caller_knows.Goals as goal

pub returns-clause-names : goal.returns-clause-names
returns-clause-names c = operation_aside

pub returns-clause-stays : goal.returns-clause-stays
returns-clause-stays c = keeps_told

pub returns-clause-written : goal.returns-clause-written
returns-clause-written c = tells_written
