use Rattle.queue_records.proofs.OneRecord.{one_record}
use Rattle.queue_records.proofs.laws.a_spelling_is_of_one_record.Goals as goal

pub returns : goal.returns
returns c = one_record
