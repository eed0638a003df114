use Rattle.frames.proofs.RecordLaws.{one_incoming}
use Rattle.frames.proofs.laws.a_record_is_of_one_incoming.Goals as goal

pub returns : goal.returns
returns c = one_incoming
