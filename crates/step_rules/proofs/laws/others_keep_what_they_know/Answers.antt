use Rattle.step_rules.proofs.KnownLemmas.{IsKnown-kept}
use Rattle.step_rules.proofs.laws.others_keep_what_they_know.Goals as goal

pub returns : goal.returns
returns c = λ hash i j old new fact apart sound leaves h. IsKnown-kept hash i j old new apart sound leaves fact h
