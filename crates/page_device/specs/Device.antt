-- What the calls of a device leave, and why they fail.
use Rattle.std.specs.Prelude.{◌≡◌, ◌≢◌, ◌⊎◌, ℕ, ◌-◌, ◌^◌, ◌<◌, ◌≤◌, List, length, slice_get, Result, IsErrOf, IfErr, ⊤}
use Rattle.page_device.specs.declared.fault.DeviceFault.{DeviceFault}
use Rattle.page_device.specs.declared.fault.DeviceFault.TheVariants.{Device, BadDigest, PastEnd, DeviceFull, NoMemory}

-- both have as many pages, and but for this one the same
pub record DiffersAtMostAt (page : ℕ) (old new : List (List ℕ)) : Type 0 where
  pub as_many : length new ≡ length old
  pub others : (other : ℕ) → other ≢ page → slice_get new other ≡ slice_get old other

-- the greatest count that a `u64` holds
abbrev pub MOST_FAULTS : ℕ
MOST_FAULTS = 2 ^ 64 - 1

-- the count of faults rose, or stands at its greatest value
abbrev pub HasRisen : ℕ → ℕ → Type 0
HasRisen old new = (old < new) ⊎ (new ≡ MOST_FAULTS)

-- the count of faults never falls, `Device` comes only where it rose or can't rise, and any other
-- fault is one that the call may tell
pub record HasCause {T : Type 0} (MayTell : DeviceFault → Type 0) (old new : ℕ)
    (result : Result T DeviceFault) : Type 0 where
  pub later : old ≤ new
  pub failed : IsErrOf result Device → HasRisen old new
  pub told : IfErr result MayTell

-- what a read or a write of a page may tell
abbrev pub MayMeetTheEnd : DeviceFault → Type 0
MayMeetTheEnd Device = ⊤
MayMeetTheEnd BadDigest = ⊥
MayMeetTheEnd PastEnd = ⊤
MayMeetTheEnd DeviceFull = ⊥
MayMeetTheEnd NoMemory = ⊥

-- what the addition of a page may tell
abbrev pub MayBeFull : DeviceFault → Type 0
MayBeFull Device = ⊤
MayBeFull BadDigest = ⊥
MayBeFull PastEnd = ⊥
MayBeFull DeviceFull = ⊤
MayBeFull NoMemory = ⊤

-- what a sync may tell
abbrev pub MayOnlyFail : DeviceFault → Type 0
MayOnlyFail Device = ⊤
MayOnlyFail BadDigest = ⊥
MayOnlyFail PastEnd = ⊥
MayOnlyFail DeviceFull = ⊥
MayOnlyFail NoMemory = ⊥
