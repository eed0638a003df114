-- A payment has few steps left wherever it is.
use Rattle.std.proofs.Common.{ℕ, refl, ◌≤◌, ◌<◌, ◌+◌, ◌*◌, List, Option, Some, None, arith}
use Rattle.xsi_calls.proofs.WriteFewLemmas.{few_left}
use Rattle.call_writes.proofs.WriteLawLemmas.{few_deeds}
use Rattle.call_writes.proofs.WriteNames.{has_few_steps}
use Rattle.xsi_calls.specs.stale_search.Steps.{Sees}
use Rattle.call_writes.specs.WriteWords.{MOST_STEPS}
use Rattle.xsi_inquiry.specs.declared.write.TheConstants.{MAX_WRITES}
use Rattle.call_writes.specs.xsi_remove.SweepSteps.{turns_of}
use Rattle.call_writes.specs.xsi_remove.Words.{MAX_MESSAGES}
use Rattle.call_writes.specs.xsi_remove.Sweeps.{DELETE_STEPS, TURN_STEPS, deeds_left}
use Rattle.call_writes.specs.xsi_remove.declared.work.Deed.{Deed}
use Rattle.call_writes.specs.xsi_remove.declared.work.Deed.TheVariants.{Reading, DeletingMessage, DeletingType}
use Rattle.call_writes.specs.PaymentStages.{Stage}
use Rattle.call_writes.specs.PaymentStages as stages
use Rattle.call_writes.specs.PaymentWords.{Change, Lock, Plan, PoolState, RecordKey, Records, Table, Work, store_of, sweep_facts, sweep_left, without_swept}
use Rattle.call_writes.specs.declared.due.Due.TheVariants.{Writing}
use Rattle.call_writes.specs.Payments.{payment_left}
use Rattle.call_writes.specs.Paying.{IsPaying}
use Rattle.call_writes.proofs.PaymentDecidedLemmas.{few_writes}

-- those of a sweep and of a plan that has not begun, and of the one access under way, as far as others may have moved
-- what it looks for
abbrev pub MOST_PAYMENT_LEFT : ℕ
MOST_PAYMENT_LEFT = 1750568

few_behind : (deed : Deed) → deeds_left deed ≤ 2 * DELETE_STEPS
few_behind Reading = omega arith
few_behind DeletingMessage = omega arith
few_behind (DeletingType mtype) = omega arith

module _ (hash : RecordKey → ℕ) (seat : ℕ) (pool : PoolState) (locks : Table) (change : Change) where
  few_sweep : (v : Option Work) → Sees hash seat (sweep_facts v) pool locks change → turns_of v < MAX_MESSAGES →
      sweep_left v (store_of pool.images) ≤ MOST_STEPS + MAX_MESSAGES * TURN_STEPS
  few_sweep None sees few = omega arith
  few_sweep (Some w) sees few =
      let access = has_few_steps hash seat w.access.operation pool locks change sees in
      let behind = few_behind w.deed in
      omega (arith, access, behind, few)

  pub few_paying : (names : List Lock) (p : Plan) (v : Stage) (records : Records) →
      IsPaying hash seat names p v records pool locks change →
      payment_left p v (store_of pool.images) ≤ MOST_PAYMENT_LEFT
  few_paying names p (stages.Sweeping v) records y =
      let swept = few_sweep v y.faces.sees y.few in
      let few = few_writes p (Writing 0) (without_swept y.id records) y.small
      (y.behind (without_swept y.id records) (λ key held. refl)) in
      omega (arith, swept, few)
  few_paying names p (stages.Writing w) records y =
      let few = few_left hash seat pool locks change names p w records MAX_WRITES y.carries
      (few_deeds p w.due records y.carries.small y.carries.can) in
      omega (arith, few)
