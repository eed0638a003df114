use Rattle.type_chains.proofs.Fitting.{keeps_fitting}
use Rattle.type_chains.proofs.laws.calls_keep_numbers_that_fit.Goals as goal

pub returns : goal.returns
returns c = keeps_fitting
