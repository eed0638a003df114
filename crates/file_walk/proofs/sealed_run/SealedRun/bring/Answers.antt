use Rattle.file_walk.proofs.RunLemmas.{no_cause}
use Rattle.file_walk.proofs.sealed_run.SealedRun.bring.Goals as goal

pub returns-then-page-self-clause-cause : goal.returns-then-page-self-clause-cause
returns-then-page-self-clause-cause g c = λ since told. no_cause _ _ _ _ told (λ is. absurd cc)
