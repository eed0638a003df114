-- Where a call stands, by its phase.
use Rattle.std.proofs.Common.{◌≡◌, refl, true}
use Rattle.xsi_calls.specs.declared.conclusion.Conclusion.{Conclusion}
use Rattle.xsi_calls.specs.declared.phase.Phase.{Phase}
use Rattle.xsi_calls.specs.declared.phase.Phase.TheVariants as phases
use Rattle.xsi_calls.specs.Machine.{is_paying, is_undecided}
use Rattle.xsi_calls.specs.Stages.{Paying, Undecided, stage_at}
use Rattle.xsi_calls.specs.Words.{PaymentStage}

-- before its Decide, whatever the places of its payment and its conclusion hold
pub undecided_still : (phase : Phase) (v v' : PaymentStage) (c c' : Conclusion) →
    is_undecided (stage_at phase v c) ≡ true → stage_at phase v' c' ≡ Undecided
undecided_still phases.Undecided v v' c c' is = refl
undecided_still phases.Paying v v' c c' is = absurd cc
undecided_still phases.Releasing v v' c c' is = absurd cc

pub paying_still : (phase : Phase) (v v' : PaymentStage) (c : Conclusion) → is_paying (stage_at phase v c) ≡ true →
    stage_at phase v' c ≡ Paying v' c
paying_still phases.Undecided v v' c is = absurd cc
paying_still phases.Paying v v' c is = refl
paying_still phases.Releasing v v' c is = absurd cc

-- before its Decide its place is the same whatever its room holds
pub undecided_same : (phase : Phase) (v v' : PaymentStage) (c c' : Conclusion) →
    is_undecided (stage_at phase v c) ≡ true → stage_at phase v c ≡ stage_at phase v' c'
undecided_same phases.Undecided v v' c c' is = refl
undecided_same phases.Paying v v' c c' is = absurd cc
undecided_same phases.Releasing v v' c c' is = absurd cc

pub it_pays : (phase : Phase) (v : PaymentStage) (c : Conclusion) → is_paying (stage_at phase v c) ≡ true →
    phase ≡ phases.Paying
it_pays phases.Undecided v c is = absurd cc
it_pays phases.Paying v c is = refl
it_pays phases.Releasing v c is = absurd cc
