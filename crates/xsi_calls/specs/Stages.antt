-- Where a call stands. docs/STEPS.md, "Calls".
use Rattle.xsi_calls.specs.declared.conclusion.Conclusion.{Conclusion}
use Rattle.xsi_calls.specs.declared.phase.Phase.{Phase}
use Rattle.xsi_calls.specs.declared.phase.Phase.TheVariants as phases
use Rattle.xsi_calls.specs.Words.{PaymentStage}

pub data Stage : Type 0 where
  -- it has not decided
  Undecided : Stage
  -- it has come to this, and pays what it owes
  Paying : PaymentStage → Conclusion → Stage
  -- all is paid, and its names are given back
  Releasing : Conclusion → Stage

-- before its Decide the places of payment and conclusion say nothing, and after all payments that of the payment
abbrev pub stage_at : Phase → PaymentStage → Conclusion → Stage
stage_at phases.Undecided payment conclusion = Undecided
stage_at phases.Paying payment conclusion = Paying payment conclusion
stage_at phases.Releasing payment conclusion = Releasing conclusion
