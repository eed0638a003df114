use Rattle.std.proofs.Common.{subst}
use Rattle.workers.specs.Closing.{IsMarked}
use Rattle.workers.proofs.CloseLemmas.{is_marked}
use Rattle.workers.proofs.stopper.Stopper.compare.Goals as goal

-- of the journal the stop is known
pub returns-clause-mark : goal.returns-clause-mark
returns-clause-mark g c =
    subst (λ v. IsMarked v.used c.args.own.now.journal) c.self.view_is
    (is_marked _ _ c.compare.ensures.right c.self.invariant)
