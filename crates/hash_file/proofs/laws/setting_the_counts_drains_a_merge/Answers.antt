use Rattle.hash_file.proofs.Retargeting.{set_counts_keeps_merge}
use Rattle.hash_file.proofs.laws.setting_the_counts_drains_a_merge.Goals as goal

pub returns : goal.returns
returns c = set_counts_keeps_merge
