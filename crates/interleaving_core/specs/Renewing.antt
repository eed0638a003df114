-- What is done with a kernel between calls, so that it serves for long: a call is taken back, the journal is taken out,
-- another caller sits at a seat, and the pages are written or read. docs/STEPS.md, "Calls"; docs/QUEUES.md, "Journals".
use Rattle.std.specs.Prelude.{ℕ, zero, suc, ◌≡◌, ◌≢◌, ◌≤◌, Bool, true, false, IsSome, IsTrue, List, [], Option, Some, None, Result, Ok, Err, map, option_map, slice_set, ⊤}
use Rattle.std.specs.List.{All}
use Rattle.page_device.specs.Device.{HasRisen}
use Rattle.page_device.specs.Sealed.{IsSealed, payload_of}
use Rattle.page_device.specs.declared.fault.DeviceFault.TheVariants as device
use Rattle.buffer_pool.specs.Pool.{KeepsImages, MayNotPin, image_of}
pub use Rattle.buffer_pool.specs.declared.fault.PoolFault.{PoolFault}
use Rattle.buffer_pool.specs.declared.fault.PoolFault.TheVariants.{Device, TooFewFrames}
use Rattle.file_pages.specs.declared.fault.FileFault.TheVariants.{Pool}
use Rattle.xsi_calls.specs.Machine.{IsNew}
use Rattle.interleaving_core.specs.Words.{Call, CallView, Caller, Entry, PoolState, answer_of_call, call_locks, caller_at, spared}
use Rattle.interleaving_core.specs.Active.{ActiveView}
use Rattle.interleaving_core.specs.Closing.{IsFlushedTo}
use Rattle.interleaving_core.specs.Kernel.{KernelState, call_at, with_call}
use Rattle.interleaving_core.specs.Waiting.{stays_waiting}
use Rattle.interleaving_core.specs.declared.fault.CloseFault.{CloseFault}
use Rattle.interleaving_core.specs.declared.fault.CloseFault.TheVariants as closes
use Rattle.interleaving_core.specs.declared.fault.Failure.{Failure}

-- ---- a call is taken back

-- of a seat: its call comes back, which has no answer yet
pub record GivesBack (call : Call) (old new : Option ActiveView) : Type 0 where
  pub active : ActiveView
  pub there : old ≡ Some active
  pub unanswered : answer_of_call active.machine ≡ None
  pub call_is : call ≡ active.machine.call
  pub none : new ≡ None

-- or it has none such
pub record KeepsCall (old new : Option ActiveView) : Type 0 where
  pub same : new ≡ old
  pub answered : (a : ActiveView) → old ≡ Some a → answer_of_call a.machine ≡ None → ⊥

abbrev pub MayGiveBack : Option Call → (old new : Option ActiveView) → Type 0
MayGiveBack None old new = KeepsCall old new
MayGiveBack (Some call) old new = GivesBack call old new

-- it holds no lock and has no answer yet: it has just begun, or waits
pub record HasNothing (m : CallView) : Type 0 where
  pub free : call_locks m ≡ []
  pub unanswered : answer_of_call m ≡ None

-- such a call of a seat comes back, and nothing else is changed
pub record IsWithdrawn {K : Type 0} (seat : ℕ) (call : Call) (old new : KernelState K) : Type 0 where
  pub active : ActiveView
  pub there : call_at old.seats seat ≡ Some active
  pub nothing : HasNothing active.machine
  pub call_is : call ≡ active.machine.call
  pub is : new ≡ record old { seats = with_call old.seats seat None }

-- or the seat has none such, and nothing is changed
pub record HasNone {K : Type 0} (seat : ℕ) (old new : KernelState K) : Type 0 where
  pub same : new ≡ old
  pub none : (a : ActiveView) → call_at old.seats seat ≡ Some a → HasNothing a.machine → ⊥

abbrev pub Withdraws : {K : Type 0} → ℕ → Option Call → (old new : KernelState K) → Type 0
Withdraws seat None old new = HasNone seat old new
Withdraws seat (Some call) old new = IsWithdrawn seat call old new

-- ---- between calls

-- its seat was told that it waits; so it has begun anew, and holds nothing
pub record IsWaiting (a : ActiveView) : Type 0 where
  pub told : IsSome a.wait
  pub new : IsNew a.machine

-- a seat has no call, or one that waits
abbrev pub IsIdleOrWaits : Option ActiveView → Type 0
IsIdleOrWaits None = ⊤
IsIdleOrWaits (Some a) = IsWaiting a

-- what is always so of a seat's call
abbrev pub IsNewWhileWaiting : Option ActiveView → Type 0
IsNewWhileWaiting None = ⊤
IsNewWhileWaiting (Some a) = IsSome a.wait → IsNew a.machine

-- no step has failed, and no seat has a call but one that waits
pub record IsBetweenCalls {K : Type 0} (s : KernelState K) : Type 0 where
  pub sound : s.failed ≡ false
  pub seats : All IsIdleOrWaits s.seats

-- ---- the journal is taken out

-- where it stays waiting it has looked at the whole of an empty journal
abbrev pub looks_anew : Bool → Option ℕ
looks_anew true = Some 0
looks_anew false = None

-- the same call beside an empty journal, once this one is taken out: where that wakes it, it waits no more
abbrev pub outlasting : List Entry → ActiveView → ActiveView
outlasting journal a = record a {
  begun = 0;
  decided = 0;
  wait = looks_anew (stays_waiting a.wait a.machine.call journal);
}

-- it comes out whole, the calls that wait go on beside an empty one, and nothing else is changed
pub record IsRenewed {K : Type 0} (taken : List Entry) (old new : KernelState K) : Type 0 where
  pub taken_is : taken ≡ old.journal
  pub is : new ≡ record old {
    seats = map (option_map (outlasting old.journal)) old.seats;
    journal = [];
    room = new.room;
  }

-- ---- another caller sits at a seat

-- the callers once this one sits at a seat
abbrev pub with_caller : List Caller → ℕ → Caller → List Caller
with_caller callers zero caller = callers
with_caller callers (suc place) caller = slice_set callers place caller

-- a seat without a call is this caller's from here on. The journal is let go, since its entries name the seats of those
-- who sat there when they were decided; nothing else is changed
pub record IsReseated {K : Type 0} (seat : ℕ) (caller : Caller) (old new : KernelState K) : Type 0 where
  pub free : call_at old.seats seat ≡ None
  pub between : IsBetweenCalls old
  pub sits : caller_at new.callers seat ≡ Some caller
  pub is : new ≡ record old {
    callers = with_caller old.callers seat caller;
    seats = map (option_map (outlasting old.journal)) old.seats;
    journal = [];
  }

-- or the seat has one, or the kernel is not between calls
pub record KeepsCaller {K : Type 0} (seat : ℕ) (old new : KernelState K) : Type 0 where
  pub same : new ≡ old
  pub busy : IsBetweenCalls old → call_at old.seats seat ≢ None

abbrev pub Reseats : {K : Type 0} → ℕ → Caller → Bool → (old new : KernelState K) → Type 0
Reseats seat caller true old new = IsReseated seat caller old new
Reseats seat caller false old new = KeepsCaller seat old new

-- ---- its pages

-- they stay as they are, whatever of them has come to the device
pub record KeepsPages {K : Type 0} (old new : KernelState K) : Type 0 where
  pub is : new ≡ record old { pool = new.pool }
  pub pins : new.pool.pins ≡ old.pool.pins
  pub later : old.pool.faults ≤ new.pool.faults
  pub keeps : KeepsImages true old.pool new.pool

-- what failed a kernel, where it was no step of a seat
abbrev pub failure_of_pool : PoolFault → Option Failure
failure_of_pool fault = Some (record { seat = 0; fault = Pool fault })

-- the pool was refused something, and that fails the kernel as a step's failure does
pub record IsFailedBy {K : Type 0} (fault : PoolFault) (old new : KernelState K) : Type 0 where
  pub is : new ≡ record old { pool = new.pool; failed = true; failure = failure_of_pool fault }
  pub pins : new.pool.pins ≡ old.pool.pins
  pub later : old.pool.faults ≤ new.pool.faults
  pub keeps : KeepsImages false old.pool new.pool

-- the device has the pages, all of them written there, to outlast the program
pub record HasPages {K : Type 0} (old new : KernelState K) : Type 0 where
  pub written : IsFlushedTo old.pool new.pool.stored
  pub synced : IsTrue new.pool.synced

-- as an honest one has
pub record HasFlushed {K : Type 0} (old new : KernelState K) : Type 0 where
  pub stay : KeepsPages old new
  pub has : IsTrue old.pool.honest → HasPages old new

-- a transfer failed
pub record FailsToFlush {K : Type 0} (told : CloseFault) (old new : KernelState K) : Type 0 where
  pub told_is : told ≡ closes.Device
  pub by : IsFailedBy (Device device.Device) old new
  pub cause : HasRisen old.pool.faults new.pool.faults

abbrev pub Flushes : {K : Type 0} → Result Unit CloseFault → (old new : KernelState K) → Type 0
Flushes (Ok done) old new = HasFlushed old new
Flushes (Err told) old new = FailsToFlush told old new

-- a page as it is written: the image of this number, sealed
pub record IsPage (page : ℕ) (bytes : List ℕ) (pool : PoolState) : Type 0 where
  pub payload : payload_of bytes ≡ image_of pool page
  pub sealed : IsSealed page bytes

pub record IsRead {K : Type 0} (page : ℕ) (bytes : List ℕ) (old new : KernelState K) : Type 0 where
  pub stay : KeepsPages old new
  -- where there is a frame for each page the device has what it had
  pub stored : spared new.pool ≡ spared old.pool
  pub is : IsPage page bytes new.pool

-- the page did not come to a frame
pub record FailsToRead {K : Type 0} (page : ℕ) (fault : PoolFault) (old new : KernelState K) : Type 0 where
  pub by : IsFailedBy fault old new
  pub stored : spared new.pool ≡ spared old.pool
  -- it was there, and there were frames: so a transfer failed, or what the device has is no such page
  pub there : fault ≢ Device device.PastEnd
  pub room : fault ≢ TooFewFrames
  pub told : MayNotPin page old.pool fault
  pub failed : fault ≡ Device device.Device → HasRisen old.pool.faults new.pool.faults

abbrev pub Reads : {K : Type 0} → ℕ → Result (List ℕ) PoolFault → (old new : KernelState K) → Type 0
Reads page (Ok bytes) old new = IsRead page bytes old new
Reads page (Err fault) old new = FailsToRead page fault old new
