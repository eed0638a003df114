-- The first record that a system does not need.
use Rattle.std.proofs.Common.{ℕ, ◌<◌, List, length, take, ◌⊎◌, inl, inr}
use Rattle.std.specs.Prelude.{slice_index}
use Rattle.file_check.specs.Fault.{IsOfMachineToo}
use Rattle.file_check.specs.Strays.{AreNeeded, IsFirstStray, IsStrayIn}
use Rattle.file_check.specs.Words.{CheckFault, State, Store, bucket_at}

module _ (system : State) (s : Store) (ns : List ℕ) where
  pub stray_next : (i : ℕ) (fault : CheckFault) → i < length ns → AreNeeded system s (take i ns) →
      IsOfMachineToo fault ⊎ IsStrayIn system (bucket_at s (slice_index ns i)) (slice_index ns i) fault →
      IsOfMachineToo fault ⊎ IsFirstStray system s ns fault
  stray_next i fault within before (inl machine) = inl machine
  stray_next i fault within before (inr stray) =
      inr (record { place = i; within = within; before = before; stray = stray })
