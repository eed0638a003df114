-- Laws of kernels that refine a system and serve for long. Each is the contract of a function of renewing.rt.
use Rattle.std.specs.Prelude.{ℕ, ◌<◌, List, length}
use Rattle.page_device.specs.Device.{HasRisen}
use Rattle.interleaving_core.specs.Renewing.{FailsToRead, HasFlushed, IsBetweenCalls, IsFailedBy, IsRenewed, IsWithdrawn, KeepsPages, PoolFault}
use Rattle.interleavings.specs.Words.{Call, Entry, IsFileOf, IsLawful, KernelState, RecordKey, State, after, restarted}
use Rattle.interleavings.specs.Refining.{Refines}

-- by what Kernel::withdraw promises
abbrev pub WithdrawsRefine : Type 0 → Type 0
WithdrawsRefine K = (hash : RecordKey → ℕ) (base : State) (seat : ℕ) (call : Call) (old new : KernelState K) →
    Refines hash base old → IsWithdrawn seat call old new → Refines hash base new

-- the kernel refines the system after the journal that was taken out
pub record RefinesAnew {K : Type 0} (hash : RecordKey → ℕ) (base : State) (taken : List Entry) (old new : KernelState K)
    : Type 0 where
  pub led : Refines hash (after old.callers taken base) new
  pub lawful : IsLawful base → IsLawful (after old.callers taken base)

-- by what Kernel::renew promises
abbrev pub RenewsRefine : Type 0 → Type 0
RenewsRefine K = (hash : RecordKey → ℕ) (base : State) (taken : List Entry) (old new : KernelState K) →
    Refines hash base old → IsRenewed taken old new → RefinesAnew hash base taken old new

-- by what Kernel::page promises of a kernel between calls
abbrev pub PagesRefine : Type 0 → Type 0
PagesRefine K = (hash : RecordKey → ℕ) (base : State) (old new : KernelState K) → Refines hash base old →
    IsBetweenCalls old → KeepsPages old new → Refines hash base new

-- such a page is read, unless a transfer fails
abbrev pub ReadsFailWithTheDevice : Type 0 → Type 0
ReadsFailWithTheDevice K = (hash : RecordKey → ℕ) (base : State) (page : ℕ) (fault : PoolFault)
    (old new : KernelState K) → Refines hash base old → IsBetweenCalls old → page < length old.pool.images →
    FailsToRead page fault old new → HasRisen old.pool.faults new.pool.faults

-- the kernel refines the same system, and its device has the file of the system after the journal
pub record HasItsFile {K : Type 0} (hash : RecordKey → ℕ) (base : State) (k : KernelState K) : Type 0 where
  pub led : Refines hash base k
  pub file : IsFileOf hash k.pool.stored (restarted (after k.callers k.journal base))

-- by what Kernel::flush promises of an honest device, as that of a kernel which refines a system is
abbrev pub FlushesRefine : Type 0 → Type 0
FlushesRefine K = (hash : RecordKey → ℕ) (base : State) (old new : KernelState K) → Refines hash base old →
    IsBetweenCalls old → HasFlushed old new → HasItsFile hash base new

-- by what both promise where they fail
abbrev pub FailuresRefine : Type 0 → Type 0
FailuresRefine K = (hash : RecordKey → ℕ) (base : State) (fault : PoolFault) (old new : KernelState K) →
    Refines hash base old → IsFailedBy fault old new → Refines hash base new
