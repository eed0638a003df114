-- While a payment owes the Counter it has not written it.
use Rattle.std.proofs.Common.{◌≡◌, refl, ℕ, Bool, true, false, Some, None}
use Rattle.std.specs.Prelude.{◌==◌, ◌&&◌}
use Rattle.xsi_calls.specs.PaySteps.{LeavesPart}
use Rattle.call_writes.specs.PaymentStages as stages
use Rattle.xsi_calls.proofs.UndecidedCounterLemmas.{counter_stands}
use Rattle.xsi_calls.proofs.PlanLemmas.{HasOneCounter}
use Rattle.xsi_calls.proofs.Names.{is_swept}
use Rattle.xsi_calls.specs.Below.{counter_key, owes_at}
use Rattle.xsi_calls.specs.Words.{PaymentStage, Plan, Records, owes_now}

-- no sweep takes the Counter
never_swept : (id : ℕ) → is_swept id counter_key ≡ false
never_swept id = by (counter_key.queue == id)
  where
    by : (b : Bool) → (b && false) ≡ false
    by true = refl
    by false = refl

pub paid_counter : (p : Plan) (v v' : PaymentStage) (records after : Records) → HasOneCounter p →
    LeavesPart p v v' records after → owes_at (owes_now p v') counter_key ≡ true →
    after counter_key ≡ records counter_key
paid_counter p (stages.Sweeping None) v' records after one leaves owed = leaves 0 tt counter_key (never_swept 0)
paid_counter p (stages.Sweeping (Some w)) v' records after one leaves owed =
    leaves w.turn.id refl counter_key (never_swept w.turn.id)
paid_counter p (stages.Writing w) (stages.Sweeping v) records after one leaves owed = absurd leaves
paid_counter p (stages.Writing w) (stages.Writing w') records after one leaves owed =
    counter_stands p one records after w.due w'.due leaves owed
