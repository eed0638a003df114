use Rattle.hash_file.proofs.WriteRecord.{writes_record}
use Rattle.hash_file.proofs.laws.writing_a_record_changes_one_record.Goals as goal

pub returns : goal.returns
returns c = writes_record
