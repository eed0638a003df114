use Rattle.bucket_page.specs.Pseudokeys.{number_key}
use Rattle.workers.specs.Opening.{origin_of}
use Rattle.workers_trials.proofs.playing.play.Given as goal

-- the name of the service that was prepared
abbrev pub ghosts-play_named-N-Room : goal.ghosts-play_named-N-Room
ghosts-play_named-N-Room g a = record { table = a.prepared.table }

abbrev pub ghosts-play_named-N-Base : goal.ghosts-play_named-N-Base
ghosts-play_named-N-Base g a = record { origin = origin_of (λ _. number_key) a.prepared }
