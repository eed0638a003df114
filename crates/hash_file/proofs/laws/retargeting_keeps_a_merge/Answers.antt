use Rattle.hash_file.proofs.Retargeting.{retarget_keeps_merge}
use Rattle.hash_file.proofs.laws.retargeting_keeps_a_merge.Goals as goal

pub returns : goal.returns
returns c = retarget_keeps_merge
