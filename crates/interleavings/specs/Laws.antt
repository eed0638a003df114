-- Laws of kernels that refine a system. Each is the contract of a function of laws.rt.
use Rattle.std.specs.Prelude.{ℕ, ◌≡◌, ◌≢◌, ◌≤◌, ◌+◌, ◌⊎◌, Bool, IsTrue, List, None, Some, length, true, false, ⊤}
use Rattle.interleavings.specs.Together.{owes_of}
use Rattle.interleavings.specs.ConcurrentWords.{Records, StandsAt, overlaid, owes_at, record_of}
use Rattle.files_at_rest.specs.file_check.Fault.{IsOfMachineToo}
use Rattle.interleaving_core.specs.Beginning.{MayRefuse}
use Rattle.interleaving_core.specs.Owing.{is_failure}
use Rattle.interleaving_core.specs.declared.fault.OpenFault.{OpenFault}
use Rattle.interleaving_core.specs.declared.fault.OpenFault.TheVariants as opens
use Rattle.interleaving_core.specs.xsi_calls.Laws.{MOST_CALL_STEPS, MOST_STEPS_LEFT}
use Rattle.interleaving_core.specs.xsi_calls.Stages.{Undecided}
use Rattle.interleaving_core.specs.xsi_calls.ToldNames.{AreNamesIn}
use Rattle.interleaving_core.specs.xsi_calls.Words.{AreNamesOf}
use Rattle.page_device.specs.Device.{HasRisen}
use Rattle.page_locks.specs.Locks.{kind_of}
use Rattle.page_locks.specs.Table.{held}
use Rattle.page_locks.specs.declared.lock.Lock.{Lock}
use Rattle.page_locks.specs.declared.lock.LockName.{LockName}
use Rattle.page_locks.specs.declared.lock.LockName.TheVariants as lock_names
use Rattle.step_rules.specs.Words.{Change}
use Rattle.interleavings.specs.Words.{ActiveView, BeginFault, Call, Caller, Entry, HasCall, HasSystem, IsDriven, IsFifo, IsFileOf, IsFlushedTo, IsLawful, IsLegal, IsOpened, IsRefused, IsSeat, IsSpent, IsStep, IsStopped, KernelState, MAX_SEATS, RecordKey, State, Step, after, call_at, restarted, store_of}
use Rattle.interleavings.specs.Doing.{DoesAsTold}
use Rattle.interleaving_core.specs.Counting.{count_at}
use Rattle.interleavings.specs.Counting.{HopsFew}
use Rattle.interleavings.specs.Refining.{Refines, RefinesIn, calls_of}
use Rattle.interleavings.specs.Headline.{IsAsPlainLists}
use Rattle.interleavings.specs.Runs.{AreOfSeats, Runs}
use Rattle.interleavings.specs.declared.event.Event.{Event}
use Rattle.interleavings.specs.declared.event.Outcome.{Outcome}

-- it refines the system whose file the pages of the device were
pub record RefinesFile {K : Type 0} (hash : RecordKey → ℕ) (content : List (List ℕ)) (k : KernelState K) :
    Type 0 where
  pub base : State
  pub file : IsFileOf hash content base
  pub led : Refines hash base k

-- by what Kernel::open promises of an honest device
abbrev pub OpensRefine : Type 0 → Type 0
OpensRefine K = (hash : RecordKey → ℕ) (keys : K) (content : List (List ℕ)) (honest : Bool) (callers : List Caller)
    (frames : ℕ) (k : KernelState K) → IsOpened keys content honest callers frames k → IsTrue honest →
    HasSystem hash content → 1 ≤ length callers → length callers ≤ MAX_SEATS →
    RefinesFile hash content k

-- by what Kernel::begin promises
abbrev pub BeginsRefine : Type 0 → Type 0
BeginsRefine K = (hash : RecordKey → ℕ) (base : State) (seat : ℕ) (call : Call) (old new : KernelState K) →
    IsSeat old.locks seat → Refines hash base old → HasCall seat call old new →
    Refines hash base new

abbrev pub RefusalsRefine : Type 0 → Type 0
RefusalsRefine K = (hash : RecordKey → ℕ) (base : State) (seat : ℕ) (call : Call) (refusal : Call × BeginFault)
    (old new : KernelState K) → Refines hash base old → IsRefused seat call refusal old new →
    Refines hash base new

-- by what Kernel::step promises
abbrev pub StepsRefine : Type 0 → Type 0
StepsRefine K = (hash : RecordKey → ℕ) (base : State) (seat : ℕ) (did : Step) (old new : KernelState K) →
    IsSeat old.locks seat → Refines hash base old → IsStep hash seat did old new → Refines hash base new

-- the kernel still refines it, in the phase to which this step has come from the phase before
pub record RefinesOn {K : Type 0} (hash : RecordKey → ℕ) (base : State) (seat : ℕ) (a : ActiveView) (did : Step)
    (before : Change) (old new : KernelState K) : Type 0 where
  pub behind : Change
  pub led : RefinesIn hash base new behind
  pub does : DoesAsTold hash base seat a did before behind old new

-- and so it does to the file and the locks, until a step has failed: from the phase in which the kernel was
abbrev pub StepsRefineAndDo : Type 0 → Type 0
StepsRefineAndDo K = (hash : RecordKey → ℕ) (base : State) (seat : ℕ) (a : ActiveView) (did : Step)
    (old new : KernelState K) (led : Refines hash base old) → call_at old.seats seat ≡ Some a →
    (sound : old.failed ≡ false) → IsStep hash seat did old new →
    RefinesOn hash base seat a did (led.together sound).calls.change old new

-- by what Kernel::drive promises
abbrev pub DrivesRefine : Type 0 → Type 0
DrivesRefine K = (hash : RecordKey → ℕ) (base : State) (seat : ℕ) (did : Step) (old new : KernelState K) →
    IsSeat old.locks seat → Refines hash base old → IsDriven hash seat did old new → Refines hash base new

-- what is so of a drive from a kernel in which no step has failed
pub record ComesToItsEnd {K : Type 0} (hash : RecordKey → ℕ) (seat : ℕ) (did : Step) (old new : KernelState K)
    (driven : IsDriven hash seat did old new) : Type 0 where
  -- it moves no more often than its call has steps left, and a call that begins: where the one was decided to wait, and
  -- woken, it begins anew once
  pub few : driven.moves ≤ MOST_STEPS_LEFT + MOST_CALL_STEPS
  -- so it never makes the most steps
  pub unspent : IsSpent seat driven.moves did driven.before new → ⊥
  -- the file fails it only where a transfer of the device failed
  pub cause : is_failure did ≡ true → HasRisen old.pool.faults new.pool.faults

-- by what Kernel::drive promises
abbrev pub DrivesEnd : Type 0 → Type 0
DrivesEnd K = (hash : RecordKey → ℕ) (base : State) (seat : ℕ) (did : Step) (old new : KernelState K) →
    IsSeat old.locks seat → Refines hash base old → old.failed ≡ false → (driven : IsDriven hash seat did old new) →
    ComesToItsEnd hash seat did old new driven

abbrev pub StopsRefine : Type 0 → Type 0
StopsRefine K = (hash : RecordKey → ℕ) (base : State) (old new : KernelState K) → Refines hash base old →
    IsStopped old new → Refines hash base new

-- events one after the other, whatever seats they are of
abbrev pub EventsRefine : Type 0 → Type 0
EventsRefine K = (hash : RecordKey → ℕ) (base : State) (es : List Event) (os : List Outcome) (old new : KernelState K) →
    AreOfSeats (length old.locks) es → Refines hash base old → Runs hash es os old new →
    Refines hash base new

-- from a lawful system
abbrev pub AnswersAsPlainLists : Type 0 → Type 0
AnswersAsPlainLists K = (hash : RecordKey → ℕ) (base : State) (k : KernelState K) → IsLawful base →
    Refines hash base k → IsAsPlainLists hash base k

-- from the system of a file, of each type messages are received in the order in which they were sent, each once
abbrev pub JournalsAreFifo : Type 0
JournalsAreFifo = (hash : RecordKey → ℕ) (content : List (List ℕ)) (base : State) (callers : List Caller)
    (journal : List Entry) → IsFileOf hash content base → IsLegal callers journal base → IsFifo callers journal base

-- what a kernel counts of a seat's last search, until a step has failed, from the grant of the directory up to the Look
-- that answers it: at most one hop more than there were WriteOlds and Tombstones of all seats, and none where no
-- structure change was under way
abbrev pub SearchesHopFew : Type 0 → Type 0
SearchesHopFew K = (hash : RecordKey → ℕ) (base : State) (k : KernelState K) (seat : ℕ) → Refines hash base k →
    k.failed ≡ false → 1 ≤ seat → seat ≤ length k.locks → HopsFew (count_at k.searches.counts seat)

-- by what Kernel::close promises of an honest device: the file is that of the system after the journal, which is not
-- stopped for who opens it next
abbrev pub ClosesRefine : Type 0 → Type 0
ClosesRefine K = (hash : RecordKey → ℕ) (base : State) (content : List (List ℕ)) (k : KernelState K) →
    Refines hash base k → ((seat : ℕ) → call_at k.seats seat ≡ None) → k.failed ≡ false →
    IsFlushedTo k.pool content → IsFileOf hash content (restarted (after k.callers k.journal base))

-- ---- opened again

-- want of frames or of memory, or a transfer that failed
abbrev pub IsOfMachine : OpenFault → Type 0
IsOfMachine opens.TooFewFrames = ⊤
IsOfMachine opens.NoMemory = ⊤
IsOfMachine (opens.Wrong fault) = IsOfMachineToo fault

-- by what Kernel::open promises of these pages over an honest device: it opens on this system, or for want of something
pub record OpensOn (K : Type 0) (hash : RecordKey → ℕ) (content : List (List ℕ)) (s : State) : Type 0 where
  pub system : (found : State) → IsFileOf hash content found → found ≡ s
  pub opens : (keys : K) (honest : Bool) (callers : List Caller) (frames : ℕ) (k : KernelState K) →
      IsOpened keys content honest callers frames k → IsTrue honest → 1 ≤ length callers →
      length callers ≤ MAX_SEATS → Refines hash s k
  pub refuses : (fault : OpenFault) → MayRefuse hash content fault → IsOfMachine fault

-- the pages that Kernel::close leaves of an honest device, once no seat has a call and until a step has failed
abbrev pub ClosedOpens : Type 0 → Type 0
ClosedOpens K = (hash : RecordKey → ℕ) (base : State) (content : List (List ℕ)) (k : KernelState K) →
    Refines hash base k → ((seat : ℕ) → call_at k.seats seat ≡ None) → k.failed ≡ false →
    IsFlushedTo k.pool content → OpensOn K hash content (restarted (after k.callers k.journal base))

-- ---- the names that are held

-- the name of the Counter, of a key or of a queue, under which records are read and written
abbrev pub IsOfRecords : LockName → Type 0
IsOfRecords (lock_names.Key key) = ⊤
IsOfRecords lock_names.Counter = ⊤
IsOfRecords (lock_names.Queue id) = ⊤
IsOfRecords lock_names.Directory = ⊥
IsOfRecords (lock_names.Page page) = ⊥

-- besides the directory and pages a seat holds names of its call, in their kinds, and no others
pub record HoldsItsNames {K : Type 0} (seat : ℕ) (s : State) (a : ActiveView) (k : KernelState K) : Type 0 where
  pub names : List Lock
  pub of_call : AreNamesOf a.machine.call names
  -- until its Decide the queue that a Get names is the next id of the system after the journal, and the key that a
  -- Remove names, unless it is refused, that of its queue
  pub there : a.machine.stage ≡ Undecided → AreNamesIn a.machine.call a.machine.undecided.questions.inquiry s names
  pub holds : (name : LockName) → IsOfRecords name → held k.locks seat name ≡ kind_of names name

-- at each place of its call, until a step has failed
abbrev pub SeatsHoldTheirNames : Type 0 → Type 0
SeatsHoldTheirNames K = (hash : RecordKey → ℕ) (base : State) (k : KernelState K) (seat : ℕ) (a : ActiveView) →
    Refines hash base k → k.failed ≡ false → call_at k.seats seat ≡ Some a →
    HoldsItsNames seat (after k.callers k.journal base) a k

-- ---- pending writes

-- no seat owes the record at this key
abbrev pub IsOwedByNone : {K : Type 0} → RecordKey → KernelState K → Type 0
IsOwedByNone key k = (seat : ℕ) → owes_at (owes_of (calls_of k.seats seat)) key ≡ false

-- this seat owes it, and no other
pub record IsOwedBy {K : Type 0} (seat : ℕ) (key : RecordKey) (k : KernelState K) : Type 0 where
  pub owes : owes_at (owes_of (calls_of k.seats seat)) key ≡ true
  pub others : (other : ℕ) → other ≢ seat → owes_at (owes_of (calls_of k.seats other)) key ≡ false

-- the system has there what stands; or what will, once the one seat that owes the record has paid
abbrev pub IsRestAt : {K : Type 0} → RecordKey → Records → State → KernelState K → Type 0
IsRestAt key records s k =
    (IsOwedByNone key k × (records key ≡ record_of s key))
    ⊎ ((seat : ℕ) × IsOwedBy seat key k × (overlaid (owes_of (calls_of k.seats seat)) records key ≡ record_of s key))

-- key by key what stands in the file, and what seats owe it, are the records of the system after the journal
pub record OwesTheRest {K : Type 0} (hash : RecordKey → ℕ) (base : State) (k : KernelState K) : Type 0 where
  pub records : Records
  pub stands : (key : RecordKey) → StandsAt (store_of k.pool.images) key (records key)
  pub rest : (key : RecordKey) → IsRestAt key records (after k.callers k.journal base) k

abbrev pub OwedIsTheRest : Type 0 → Type 0
OwedIsTheRest K = (hash : RecordKey → ℕ) (base : State) (k : KernelState K) → Refines hash base k →
    k.failed ≡ false → OwesTheRest hash base k
