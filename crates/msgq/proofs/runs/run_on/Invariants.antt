-- The service is named by what its file was opened on.
use Rattle.bucket_page.specs.Pseudokeys.{sha_key}
use Rattle.workers.specs.Opening.{origin_of}
use Rattle.msgq.proofs.runs.run_on.Given as goal

abbrev pub ghosts-run_prepared-N-Room : goal.ghosts-run_prepared-N-Room
ghosts-run_prepared-N-Room g a = record { table = a.prepared.table }

abbrev pub ghosts-run_prepared-N-Base : goal.ghosts-run_prepared-N-Base
ghosts-run_prepared-N-Base g a = record { origin = origin_of (λ _. sha_key) a.prepared }
