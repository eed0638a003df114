-- Pages that were read one after the other, and what is known of them.
use Rattle.std.specs.Prelude.{◌≡◌, ℕ, ◌+◌, ◌-◌, ◌<◌, ◌≤◌, Bool, false, List, [], length, slice_index_or, Result, IsErrOf, IsTrue}
use Rattle.page_device.specs.Device.{HasRisen}
use Rattle.page_device.specs.Sealed.{IsSealed, payload_of}
use Rattle.digests.specs.declared.run.TheConstants.{LANES}
use Rattle.file_walk.specs.declared.fault.StructureFault.{StructureFault}
use Rattle.file_walk.specs.declared.fault.StructureFault.TheVariants as faults
use Rattle.file_walk.specs.declared.sealed_run.SealedRun.{SealedRun}
use Rattle.file_walk.specs.Files.{page_on}
use Rattle.file_walk.specs.Readings.{IsPayloadOf}

-- page n as it lies in the room
abbrev pub held_at : SealedRun → ℕ → List ℕ
held_at run n = slice_index_or run.pages.items (n - run.first) []

-- page n lies in the room
pub record HasPage (run : SealedRun) (n : ℕ) : Type 0 where
  pub behind : run.first ≤ n
  pub within : n - run.first < length run.pages.items

-- the room begins with the pages of the device from `first` up to `end`, where it is honest
abbrev pub AreHeld : Bool → List (List ℕ) → ℕ → ℕ → List (List ℕ) → Type 0
AreHeld honest content first end room = IsTrue honest → (n : ℕ) → first ≤ n → n < end
    → slice_index_or room (n - first) [] ≡ page_on content n

-- all pages of the room are sealed
abbrev pub AreSealedFrom : ℕ → ℕ → List (List ℕ) → Type 0
AreSealedFrom first end room = (n : ℕ) → first ≤ n → n < end → IsSealed n (slice_index_or room (n - first) [])

-- the run has pages of the device, and they are sealed where it says so
pub record HoldsRun (honest : Bool) (content : List (List ℕ)) (run : SealedRun) : Type 0 where
  pub room : length run.pages.items ≡ LANES
  pub short : run.end ≤ run.first + LANES
  pub pages : AreHeld honest content run.first run.end run.pages.items
  pub sealed : IsTrue run.sealed → AreSealedFrom run.first run.end run.pages.items

-- the run has no page, and no read failed
pub record IsNoRun (run : SealedRun) : Type 0 where
  pub room : length run.pages.items ≡ LANES
  pub none : run.end ≡ 0
  pub calm : run.failed ≡ false

-- page n is one of the run
pub record HasInRun (run : SealedRun) (n : ℕ) : Type 0 where
  pub behind : run.first ≤ n
  pub within : n < run.end

-- page n lies in the room, and is sealed
pub record IsReached (honest : Bool) (content : List (List ℕ)) (n : ℕ) (run : SealedRun) : Type 0 where
  pub has : HasPage run n
  pub payload : IsTrue honest → IsPayloadOf content n (payload_of (held_at run n))

-- ---- failed reads

-- the count of failed transfers never fell since it was so many, and a read failed only where it rose or can't rise
pub record IsToldSince (since now : ℕ) (run : SealedRun) : Type 0 where
  pub later : since ≤ now
  pub failed : IsTrue run.failed → HasRisen since now

-- and `Device` comes only there
pub record HasRunCause {T : Type 0} (since now : ℕ) (run : SealedRun) (result : Result T StructureFault) : Type 0 where
  pub later : since ≤ now
  pub told : IsErrOf result faults.Device → HasRisen since now
  pub failed : IsTrue run.failed → HasRisen since now

-- pages were read before this one, up to the last, or to where a read failed
pub record HasReadTo (old new reached end : ℕ) : Type 0 where
  pub later : old ≤ new
  pub failed : reached < end → HasRisen old new
