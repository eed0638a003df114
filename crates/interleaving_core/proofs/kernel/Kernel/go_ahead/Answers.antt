-- Where nothing is due nothing is made.
use Rattle.std.proofs.Common.{refl}
use Rattle.interleaving_core.proofs.GoneLemmas.{goes_nowhere}
use Rattle.interleaving_core.proofs.kernel.Kernel.go_ahead.Goals as goal

pub returns-then-not-is_due-clause-goes : goal.returns-then-not-is_due-clause-goes
returns-then-not-is_due-clause-goes g c = goes_nowhere _ _ _ _ refl
