use Rattle.queue_model.proofs.LawfulLemmas.{IsLawful-LeadsAlong}
use Rattle.queue_model.proofs.laws.journals_keep_systems_lawful.Goals as goal

pub returns : goal.returns
returns c = IsLawful-LeadsAlong
