use Rattle.safe_device.proofs.Kept.{not_met}
use Rattle.safe_device.proofs.snapshot.Snapshot.meet.Goals as goal

pub returns-else-keeps-3 : goal.returns-else-keeps-3
returns-else-keeps-3 c = not_met c.args.change c.args.file.now
