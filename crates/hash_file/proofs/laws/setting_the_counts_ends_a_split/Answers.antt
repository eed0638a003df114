use Rattle.hash_file.proofs.Retargeting.{set_counts_keeps_split}
use Rattle.hash_file.proofs.laws.setting_the_counts_ends_a_split.Goals as goal

pub returns : goal.returns
returns c = set_counts_keeps_split
