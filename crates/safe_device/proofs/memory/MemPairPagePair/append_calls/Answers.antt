use Rattle.safe_device.proofs.Kept.{elapses}
use Rattle.safe_device.proofs.memory.MemPairPagePair.append_calls.Goals as goal

pub returns-clause-time : goal.returns-clause-time
returns-clause-time c = elapses c.args.self.now _ c.in_ok-change.ensures.past
