use Rattle.xsi_calls.proofs.FileLockLemmas.{hold_their_file_locks}
use Rattle.xsi_calls.proofs.laws.calls_hold_their_file_locks.Goals as goal

pub returns : goal.returns
returns c = hold_their_file_locks
