use Rattle.std.proofs.Common.{refl}
use Rattle.replays.proofs.ClosingLemmas.{closed_well}
use Rattle.replays.proofs.ending.end_kernel.Goals as goal

-- it was neither busy nor had a step failed
pub returns-in-Ok-clause-well : goal.returns-in-Ok-clause-well
returns-in-Ok-clause-well g c =
    λ taken none. closed_well c.args.kernel _ _ c.in-Ok.ensures.busy c.in-Ok.ensures.failed c.in-Ok.ensures.ok
    (λ honest. c.in-Ok.ensures.device.synced honest refl)
