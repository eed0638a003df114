-- A call that writes has few steps left wherever it is.
use Rattle.std.proofs.Common.{ℕ, ◌≤◌, ◌+◌, ◌-◌, ◌*◌, Bool, true, false, List, Option, Some, None, if◌then◌else◌, arith}
use Rattle.call_writes.specs.declared.writes.CallWrites.{CallWrites}
use Rattle.call_writes.specs.WriteWords.{AccessView, Change, Lock, MOST_STEPS, Plan, PoolState, RecordKey, Records, Sees, Table, store_of}
use Rattle.call_writes.specs.Carrying.{IsCarrying}
use Rattle.call_writes.specs.Dues.{deeds_left}
use Rattle.call_writes.specs.Views.{deeds_behind, facts_under, left_under, writes_left_in}
use Rattle.call_writes.proofs.WriteLawLemmas.{times_most}
use Rattle.call_writes.proofs.WriteNames.{has_few_steps}

few_behind : (o : Option AccessView) (deeds : ℕ) → deeds_behind o deeds ≤ deeds
few_behind None deeds = omega arith
few_behind (Some a) deeds = by a.written
  where
    by : (b : Bool) → (if b then deeds else deeds - 1) ≤ deeds
    by true = omega arith
    by false = omega arith

module _ (hash : RecordKey → ℕ) (seat : ℕ) (pool : PoolState) (locks : Table) (change : Change) where
  few_under : (o : Option AccessView) → Sees hash seat (facts_under o) pool locks change →
      left_under o (store_of pool.images) ≤ MOST_STEPS
  few_under None sees = omega arith
  few_under (Some a) sees = has_few_steps hash seat a.operation pool locks change sees

  -- those of its access, as far as others may have moved what it looks for, and of so many deeds at most
  pub few_left : (names : List Lock) (p : Plan) (w : CallWrites) (records : Records) (most : ℕ) →
      IsCarrying hash seat names p w records pool locks change → deeds_left p w.due ≤ most →
      writes_left_in p w (store_of pool.images) ≤ MOST_STEPS + most * MOST_STEPS
  few_left names p w records most c few =
      let under = few_under w.access c.sees in
      let behind = few_behind w.access (deeds_left p w.due) in
      let deeds = times_most (deeds_behind w.access (deeds_left p w.due)) most MOST_STEPS
      (omega (arith, behind, few)) in
      omega (arith, under, deeds)
