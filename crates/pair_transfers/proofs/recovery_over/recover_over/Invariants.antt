-- Where the recovery has come to, the files are as they are to be, and a crash leaves what recovery gives of these.
use Rattle.pair_transfers.proofs.RecoveryStepLemmas.{IsComing}
use Rattle.pair_transfers.proofs.recovery_over.recover_over.Given as goal

abbrev pub invariant-loop : goal.invariant-loop
invariant-loop g l = IsComing g.P.PagePair.is_honest g.P.PagePair.file g.P.PagePair.journal g.P.PagePair.may_leave
    g.P.PagePair.moment g.P.PagePair.left_since l.fn.pair l.pair l.recovery
