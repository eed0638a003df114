-- A session over the pages of a device: the system that it holds, and what its calls are answered.
-- docs/QUEUES.md, "Calls"; docs/FORMAT.md, "Pages".
use Rattle.std.specs.Prelude.{ℕ, ◌≡◌, ◌≢◌, ◌⊎◌, ◌*◌, ◌/◌, ◌%◌, ◌<◌, ◌≤◌, Bool, true, false, IsTrue, List, [], Option, Some, None, Result, Ok, Err, drop, length, slice_index_or, take}
use Rattle.bucket_page.specs.Pseudokeys.{sha_key}
use Rattle.page_device.specs.Device.{HasRisen}
use Rattle.page_device.specs.declared.fault.DeviceFault.{DeviceFault}
use Rattle.page_device.specs.declared.fault.DeviceFault.TheVariants as devices
use Rattle.page_device.specs.declared.page.TheConstants.{MAX_PAGES, PAGE_BYTES}
use Rattle.file_pages.specs.Files.{listed}
use Rattle.queue_model.specs.Journal.{outcome_for}
use Rattle.file_walk.specs.declared.fault.StructureFault.TheVariants as structure
use Rattle.interleavings.specs.files_at_rest.Files.{no_queues}
use Rattle.interleaving_core.specs.Beginning.{IsStopped, MayRefuseUnchecked}
use Rattle.interleaving_core.specs.Closing.{IsReleased}
use Rattle.interleaving_core.specs.Fault.{device_failed}
use Rattle.interleaving_core.specs.file_check.declared.fault.CheckFault.TheVariants.{Structure}
use Rattle.interleaving_core.specs.Renewing.{IsPage}
use Rattle.interleaving_core.specs.declared.fault.CloseFault.{CloseFault}
use Rattle.interleaving_core.specs.declared.fault.CloseFault.TheVariants as closes
use Rattle.interleaving_core.specs.declared.fault.OpenFault.{OpenFault}
use Rattle.interleaving_core.specs.declared.fault.OpenFault.TheVariants as opens
use Rattle.interleavings.specs.Lone.{RestsOver}
use Rattle.interleavings.specs.LoneKernelLaws.{LacksInPages}
use Rattle.interleavings.specs.LoneKernelWords.{Answer, Call, Caller, HasCall, IsFileOf, IsSeat, State, restarted}
pub use Rattle.session.specs.Making.{SessionState, caller_of}
use Rattle.session.specs.Making.{Goes, Makes}
use Rattle.session.specs.declared.session.TheConstants.{SEAT}
use Rattle.session.specs.declared.unanswered.Unanswered.{Unanswered}
use Rattle.session.specs.declared.unanswered.Unanswered.TheVariants.{Waits, NoRoom, NoMemory, Failed}

-- the file of the pages is at rest with this system, and no call is under way
abbrev pub Holds : State → SessionState → Type 0
Holds s k = RestsOver sha_key s k

-- how many pages the file has
abbrev pub pages_of : SessionState → ℕ
pages_of k = length k.pool.images

-- its pages as they were last saved: those that were opened, until it is noted that others are
abbrev pub saved_of : SessionState → List (List ℕ)
saved_of k = k.pool.stored

-- what is so of each session
pub record IsSession (k : SessionState) : Type 0 where
  -- its caller has a seat
  pub seat : IsSeat k.locks SEAT
  -- there is a frame for each page, so that no call brings a page to the device
  pub roomy : length (saved_of k) ≤ k.pool.frames

-- the number of its pages, those that were saved, and whether its device is honest stay, and no transfer that failed is
-- forgotten; whatever the device gives
pub record KeepsFile (old new : SessionState) : Type 0 where
  pub many : pages_of new ≡ pages_of old
  pub saved : saved_of new ≡ saved_of old
  pub honest : new.pool.honest ≡ old.pool.honest
  pub later : old.pool.faults ≤ new.pool.faults

-- ---- it is opened

-- the first so many pages of these bytes
abbrev pub pages_in : ℕ → List ℕ → List (List ℕ)
pages_in many bytes = listed many (λ page. take PAGE_BYTES (drop (page * PAGE_BYTES) bytes))

-- the pages are the file of a system, which the session holds for this caller
pub record Opens (caller : Caller) (content : List (List ℕ)) (k : SessionState) : Type 0 where
  pub system : State
  pub file : IsFileOf sha_key content system
  pub holds : Holds system k
  pub sits : caller_of k ≡ Some caller
  pub many : pages_of k ≡ length content
  pub saved : saved_of k ≡ content

-- a session is opened for this caller over a device that had failed so often, whatever that gives
pub record OpensAny (caller : Caller) (content : List (List ℕ)) (honest : Bool) (was : ℕ) (k : SessionState) : Type 0
  where
    pub honest_is : k.pool.honest ≡ honest
    pub sound : k.failed ≡ false
    pub sits : caller_of k ≡ Some caller
    pub many : pages_of k ≡ length content
    pub saved : saved_of k ≡ content
    pub later : was ≤ k.pool.faults
    -- an honest one has the file of a system
    pub opens : IsTrue honest → Opens caller content k

-- or those of a new file, which has no queue
pub record OpensNew (caller : Caller) (pages : ℕ) (k : SessionState) : Type 0 where
  pub holds : Holds no_queues k
  pub sits : caller_of k ≡ Some caller
  pub many : pages_of k ≡ pages

-- ---- it is not opened

-- why pages are not opened: by the first thing that is wrong with the file that they are, or there is no memory. There
-- are frames enough, and no transfer fails in memory
pub record MayNotOpen (content : List (List ℕ)) (fault : OpenFault) : Type 0 where
  pub cause : MayRefuseUnchecked sha_key content fault
  pub framed : fault ≢ opens.TooFewFrames
  pub sound : fault ≢ device_failed

-- what is told of bytes that are no pages of a file
abbrev pub unloaded_by : DeviceFault → OpenFault
unloaded_by devices.Device = opens.NoMemory
unloaded_by devices.BadDigest = opens.NoMemory
unloaded_by devices.PastEnd = opens.NoMemory
unloaded_by devices.DeviceFull = opens.Wrong (Structure structure.BadHeader)
unloaded_by devices.NoMemory = opens.NoMemory

-- the last page is cut
pub record IsCut (bytes : List ℕ) (fault : OpenFault) : Type 0 where
  pub told : fault ≡ opens.Wrong (Structure structure.PastEnd)
  pub rest : length bytes % PAGE_BYTES ≢ 0

-- a file has fewer
pub record HasTooManyPages (bytes : List ℕ) (fault : OpenFault) : Type 0 where
  pub told : fault ≡ opens.Wrong (Structure structure.BadHeader)
  pub more : MAX_PAGES < length bytes / PAGE_BYTES

-- why bytes are no pages of a file; or there is no memory for them
abbrev pub MayNotLoad : List ℕ → OpenFault → Type 0
MayNotLoad bytes fault = IsCut bytes fault ⊎ HasTooManyPages bytes fault ⊎ (fault ≡ opens.NoMemory)

-- why a file is not opened that is given by its bytes
abbrev pub MayNotOpenBytes : List ℕ → OpenFault → Type 0
MayNotOpenBytes bytes fault = MayNotLoad bytes fault ⊎ MayNotOpen (pages_in (length bytes / PAGE_BYTES) bytes) fault

-- ---- its calls

-- its calls are this caller's from here on; it holds what it held
pub record IsSeated (caller : Caller) (old new : SessionState) : Type 0 where
  pub holds : (s : State) → Holds s old → Holds s new
  pub pool : new.pool ≡ old.pool
  pub locks : new.locks ≡ old.locks
  pub sits : caller_of new ≡ Some caller

-- the rules have this answer for whom the call is made, and the session holds the system after it
pub record IsAnswered (by : Option Caller) (call : Call) (s : State) (answer : Answer) (new : SessionState) : Type 0
  where
    pub after : State
    pub by_rules : outcome_for by call s ≡ Some (answer, after)
    pub holds : Holds after new

-- a record that the call was to insert had no room in the pages at a step of it, and nothing has changed
pub record LacksRoom (by : Option Caller) (call : Call) (s : State) (old new : SessionState) : Type 0 where
  pub caller : Caller
  pub sits : by ≡ Some caller
  -- it began at this caller's seat, over the same pages and locks, and was driven
  pub first : SessionState
  pub seated : IsSeated caller old first
  pub begun : SessionState
  pub begins : HasCall SEAT call first begun
  pub lacks : LacksInPages sha_key SEAT caller call s begun
  pub holds : Holds s new

-- the file has failed, as a transfer of its device did
pub record HasFailed (old new : SessionState) : Type 0 where
  pub failed : new.failed ≡ true
  pub cause : HasRisen old.pool.faults new.pool.faults

-- what a call comes to that is made for somebody, of this system
abbrev pub Becomes : Option Caller → Call → State → Result Answer Unanswered → (old new : SessionState) → Type 0
Becomes by call s (Ok answer) old new = IsAnswered by call s answer new
-- the rules have no answer, and nothing has changed
Becomes by call s (Err Waits) old new = (outcome_for by call s ≡ None) × Holds s new
Becomes by call s (Err NoRoom) old new = LacksRoom by call s old new
-- nothing has changed
Becomes by call s (Err NoMemory) old new = Holds s new
Becomes by call s (Err Failed) old new = HasFailed old new

-- no call is answered once it has failed, and it stays so, with the same pages
pub record IsLost (result : Result Answer Unanswered) (old new : SessionState) : Type 0 where
  pub told : result ≡ Err Failed
  pub failed : new.failed ≡ true
  pub pool : new.pool ≡ old.pool

abbrev pub StaysFailed : Result Answer Unanswered → (old new : SessionState) → Type 0
StaysFailed result old new = old.failed ≡ true → IsLost result old new

-- what is left of it where it was lent: one that has to wait is as it was
abbrev pub IsLeft : Call → (left : Call) → Result Answer Unanswered → SessionState → Type 0
IsLeft call left result old = (s : State) → Holds s old → result ≡ Err Waits → left ≡ call

-- whoever sits there makes a call that is lent
pub record MakesLent (call left : Call) (result : Result Answer Unanswered) (old new : SessionState) : Type 0 where
  pub becomes : (s : State) → Holds s old → Becomes (caller_of old) call s result old new
  pub is_left : IsLeft call left result old
  pub keeps : KeepsFile old new
  pub goes : Goes call result old new
  pub caller : caller_of new ≡ caller_of old

-- it is made for somebody
pub record CallsLent (by : Option Caller) (call left : Call) (result : Result Answer Unanswered)
    (old new : SessionState) : Type 0 where
  -- from a system that is held it is answered by the rules
  pub becomes : (s : State) → Holds s old → Becomes by call s result old new
  pub is_left : IsLeft call left result old
  -- and whatever the device gives
  pub keeps : KeepsFile old new
  pub lost : StaysFailed result old new
  pub made : Makes by call result old new

-- for this caller, whose the session is from here on
abbrev pub CallsAs : Caller → (call left : Call) → Result Answer Unanswered → (old new : SessionState) → Type 0
CallsAs caller call left result old new = CallsLent (Some caller) call left result old new

-- or for whose it was
pub record Calls (call : Call) (result : Result Answer Unanswered) (old new : SessionState) : Type 0 where
  pub left : Call
  pub calls : CallsLent (caller_of old) call left result old new
  pub caller : caller_of new ≡ caller_of old

-- it is stopped: from here on a call that would wait is refused
pub record Stops (old new : SessionState) : Type 0 where
  pub stops : (s : State) → Holds s old → Holds (record s { stopped = true }) new
  pub caller : caller_of new ≡ caller_of old
  -- and whatever the device gives
  pub pool : new.pool ≡ old.pool
  pub failed : new.failed ≡ old.failed
  pub stopped : IsStopped old new

-- ---- its pages

-- a page of the file of its system, and the others are as they were
pub record IsGiven (page : ℕ) (s : State) (bytes : List ℕ) (old new : SessionState) : Type 0 where
  pub is : IsPage page bytes new.pool
  pub holds : Holds s new
  pub images : new.pool.images ≡ old.pool.images

-- or the file has failed
abbrev pub PageBecomes : ℕ → State → Option (List ℕ) → (old new : SessionState) → Type 0
PageBecomes page s (Some bytes) old new = IsGiven page s bytes old new
PageBecomes page s None old new = HasFailed old new

pub record GivesPage (page : ℕ) (given : Option (List ℕ)) (old new : SessionState) : Type 0 where
  pub becomes : (s : State) → Holds s old → PageBecomes page s given old new
  pub caller : caller_of new ≡ caller_of old
  pub many : pages_of new ≡ pages_of old
  pub saved : saved_of new ≡ saved_of old
  pub later : old.pool.faults ≤ new.pool.faults

-- these are all of them
pub record AreItsPages (content : List (List ℕ)) (k : SessionState) : Type 0 where
  pub many : length content ≡ pages_of k
  pub each : (page : ℕ) → page < length content → IsPage page (slice_index_or content page []) k.pool

-- so they are the file of the system that it holds, which is not stopped for who opens it next
abbrev pub PagesAreTheFile : Type 0
PagesAreTheFile = (s : State) (k : SessionState) (content : List (List ℕ)) → Holds s k → AreItsPages content k →
    IsFileOf sha_key content (restarted s)

-- ---- which of them have changed since they were saved

-- each page from one on up to another was saved as it is to be written
abbrev pub AreAsSaved : (from to : ℕ) → SessionState → Type 0
AreAsSaved from to k =
    (page : ℕ) → from ≤ page → page < to → IsPage page (slice_index_or (saved_of k) page []) k.pool

-- a page from one on, and those between are as they were saved
pub record IsNextChanged (from page : ℕ) (k : SessionState) : Type 0 where
  pub behind : from ≤ page
  pub within : page < pages_of k
  pub others : AreAsSaved from page k

-- or all others are
abbrev pub IsToldOf : (from : ℕ) → Option ℕ → SessionState → Type 0
IsToldOf from None k = AreAsSaved from (pages_of k) k
IsToldOf from (Some page) k = IsNextChanged from page k

abbrev pub TellsChanges : (from : ℕ) → Option ℕ → SessionState → Type 0
TellsChanges from told k = (s : State) → Holds s k → IsToldOf from told k

-- from here on its pages, as they are to be written, are those that were saved
pub record AreSaved (s : State) (old new : SessionState) : Type 0 where
  pub all : AreItsPages (saved_of new) new
  pub holds : Holds s new
  pub images : new.pool.images ≡ old.pool.images

-- or the file has failed
abbrev pub SaveBecomes : State → (saved : Bool) → (old new : SessionState) → Type 0
SaveBecomes s true old new = AreSaved s old new
SaveBecomes s false old new = HasFailed old new

pub record NotesSave (saved : Bool) (old new : SessionState) : Type 0 where
  pub becomes : (s : State) → Holds s old → SaveBecomes s saved old new
  pub caller : caller_of new ≡ caller_of old
  pub many : pages_of new ≡ pages_of old

-- ---- it is closed

-- an honest device has the file of its system, with as many pages, or has failed
abbrev pub ClosesOn : State → SessionState → Option CloseFault → List (List ℕ) → (faults : ℕ) → Type 0
ClosesOn s k None content faults = IsFileOf sha_key content (restarted s) × (length content ≡ pages_of k)
ClosesOn s k (Some closes.Device) content faults = HasRisen k.pool.faults faults
ClosesOn s k (Some closes.Failed) content faults = ⊥

-- what the device has that comes back, and why it was not written well, if it was not
pub record IsClosed (k : SessionState) (fault : Option CloseFault) (content : List (List ℕ)) (honest is_synced : Bool)
    (faults : ℕ) : Type 0 where
  pub ends : (s : State) → Holds s k → ClosesOn s k fault content faults
  -- and whatever the device gives: of a session that has failed nothing is written
  pub released : IsReleased k fault content honest is_synced faults
  pub failed : k.failed ≡ true → fault ≡ Some closes.Failed

-- what is so of the device that comes back, in either case
abbrev pub OnDevice : {D : Type 0} → (Option CloseFault → D → Type 0) → Result D (D × CloseFault) → Type 0
OnDevice Is (Ok device) = Is None device
OnDevice Is (Err refusal) = Is (Some refusal.1) refusal.0
