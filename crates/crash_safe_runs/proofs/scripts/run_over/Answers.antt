-- The device is settled as it is lent.
use Rattle.crash_safe_runs.proofs.scripts.run_over.Goals as goal

pub run_since-requires-clause-lent : goal.run_since-requires-clause-lent
run_since-requires-clause-lent g c = c.a_settled_device_is_lent.ensures
