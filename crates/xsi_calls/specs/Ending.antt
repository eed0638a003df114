-- Where nothing is left to do of what a call makes in one go. docs/STEPS.md, "Calls".
use Rattle.std.specs.Prelude.{◌≡◌, true, ⊤}
use Rattle.xsi_calls.specs.Stages.{Stage, Undecided, Paying, Releasing}
use Rattle.xsi_calls.specs.Words.{Call, CanDecide, IsPaid, UndecidedCall, its_plan}
use Rattle.xsi_calls.specs.Machine.{CallView, is_undecided}

-- of its trials: it has not decided, and can
pub record CanDecideNow (m : CallView) : Type 0 where
  pub undecided : is_undecided m.stage ≡ true
  pub can : CanDecide m.call m.undecided

-- of what it owes: it has decided, and all is paid
abbrev pub HasPaidAt : Call → UndecidedCall → Stage → Type 0
HasPaidAt call u Undecided = ⊥
HasPaidAt call u (Paying payment conclusion) = IsPaid (its_plan call u.questions) payment
HasPaidAt call u (Releasing conclusion) = ⊤

abbrev pub HasPaid : CallView → Type 0
HasPaid m = HasPaidAt m.call m.undecided m.stage
