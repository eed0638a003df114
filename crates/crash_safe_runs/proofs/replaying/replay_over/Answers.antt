-- The device is settled as it is lent.
use Rattle.crash_safe_runs.proofs.replaying.replay_over.Goals as goal

pub replay_since-requires-clause-lent : goal.replay_since-requires-clause-lent
replay_since-requires-clause-lent g c = c.a_settled_device_is_lent.ensures
