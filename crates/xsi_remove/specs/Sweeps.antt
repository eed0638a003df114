-- A sweep under way: what it holds, knows and asks for, what stands meanwhile, and the steps that are left.
-- docs/STEPS.md, "Remove".
use Rattle.std.specs.Prelude.{ℕ, ◌≡◌, ◌≤◌, ◌+◌, ◌*◌, ◌-◌, Bool, true, List, [], length, if◌then◌else◌, Option, Some, None, IsSome}
use Rattle.std.specs.List.{find}
use Rattle.page_locks.specs.declared.lock.LockName.TheVariants as names
use Rattle.queue_model.specs.Rules.{has_id}
use Rattle.xsi_remove.specs.declared.work.Deed.{Deed}
use Rattle.xsi_remove.specs.declared.work.Deed.TheVariants.{Reading, DeletingMessage, DeletingType}
use Rattle.xsi_remove.specs.declared.work.Work.{Work}
use Rattle.xsi_remove.specs.Deeds.{begun_work, last_type, message_of, purpose_of}
use Rattle.xsi_remove.specs.Words.{RecordKey, PoolState, Table, Lock, Change, Store, row_of, store_of, HasEnded, HasNoFileLock, IsKeyed, Known, Sees, StepTurn, kind_of, Exclusive, StandsAt, aimed_at, AccessView, Allows, Serves, access_answer, access_facts, access_left, access_locks, access_turn, Queue, State, key_of_type, is_swept, IsTurn, swept, IsFiled, Records, with_at, Turn, IsAtTurn, MAX_MESSAGES, Sweep, begun_turn, turn_next, turn_plan}

-- ---- its beginning

-- from the first message of the queue on, where it has one
abbrev pub begun_at : (RecordKey → ℕ) → ℕ → Option ℕ → Option Work
begun_at hash id None = None
begun_at hash id (Some first) = Some (begun_work hash (begun_turn id first) (MAX_MESSAGES - 1))

abbrev pub begun_sweep : (RecordKey → ℕ) → Sweep → Option Work
begun_sweep hash sweep = begun_at hash sweep.id sweep.first

-- ---- locks, access, facts and turns; none where it is over

abbrev pub sweep_locks : Option Work → List Lock → List Lock
sweep_locks None before = before
sweep_locks (Some w) before = access_locks w.access before

abbrev pub sweep_access : Option Work → Option AccessView
sweep_access None = None
sweep_access (Some w) = Some w.access

abbrev pub sweep_facts : Option Work → List Known
sweep_facts None = []
sweep_facts (Some w) = access_facts w.access

abbrev pub sweep_turn : Option Work → Store → StepTurn
sweep_turn None s = record { ask = None; write = None }
sweep_turn (Some w) s = access_turn w.access s

-- ---- the steps that are left

-- those of a find, and of a deletion, that begin
abbrev pub FIND_STEPS : ℕ
FIND_STEPS = 9

abbrev pub DELETE_STEPS : ℕ
DELETE_STEPS = 305

abbrev pub TURN_STEPS : ℕ
TURN_STEPS = FIND_STEPS + 2 * DELETE_STEPS

-- those of the deeds behind this one
abbrev pub deeds_left : Deed → ℕ
deeds_left Reading = 2 * DELETE_STEPS
deeds_left DeletingMessage = DELETE_STEPS
deeds_left (DeletingType mtype) = 0

-- if no other seat steps
abbrev pub sweep_left : Option Work → Store → ℕ
sweep_left None s = 0
sweep_left (Some w) s = access_left w.access s + (deeds_left w.deed + w.turns * TURN_STEPS)

-- ---- what stands

-- before a deed and after it: between the two deletions of a turn the Message alone is gone
abbrev pub before_deed : Deed → Turn → Records → Records
before_deed Reading t records = records
before_deed DeletingMessage t records = records
before_deed (DeletingType mtype) t records = with_at (message_of t) None records

abbrev pub behind_deed : Deed → Turn → Records → Records
behind_deed Reading t records = records
behind_deed DeletingMessage t records = with_at (message_of t) None records
behind_deed (DeletingType mtype) t records = with_at (key_of_type t.id mtype) None (with_at (message_of t) None records)

abbrev pub left_in : Bool → Deed → Turn → Records → Records
left_in written deed t records = if written then behind_deed deed t records else before_deed deed t records

-- once so many messages of the queue of an id were swept, and these deletions made
abbrev pub records_left : ℕ → ℕ → State → Option Work → Records
records_left id count s None = swept id count s
records_left id count s (Some w) = left_in w.access.written w.deed w.turn (swept id count s)

-- ---- a turn under way

-- a find that has been answered was told to the turn; what is deleted was read
abbrev pub IsRead : Deed → Work → Type 0
IsRead Reading w = w.turn.read ≡ None → access_answer w.access ≡ None
IsRead DeletingMessage w = IsSome w.turn.read
IsRead (DeletingType mtype) w = last_type w.turn.read ≡ Some mtype

pub record IsAtWork (hash : RecordKey → ℕ) (id count : ℕ) (q : Queue) (s : State) (w : Work) : Type 0 where
  -- its message is the first that is left, and was read as it stood
  pub its : w.turn.id ≡ id
  pub at : IsAtTurn count q s w.turn
  pub read : IsRead w.deed w
  pub told : IsSome w.turn.read → IsTurn id count q s (turn_next w.turn) (turn_plan w.turn)
  -- turns are left for the messages behind it
  pub enough : length q.messages ≤ count + 1 + w.turns
  -- its access is that of its deed, and has not ended
  pub serves : Serves (purpose_of w.deed w.turn) w.access
  pub keyed : IsKeyed hash w.access.operation
  pub allows : Allows (purpose_of w.deed w.turn) w.access
      (records_left id count s (Some w) (aimed_at (purpose_of w.deed w.turn)))
  pub goes_on : HasEnded w.access.operation → ⊥

-- where it is over each message was swept
abbrev pub IsWorking : (RecordKey → ℕ) → (id count : ℕ) → Queue → State → Option Work → Type 0
IsWorking hash id count q s None = count ≡ length q.messages
IsWorking hash id count q s (Some w) = IsAtWork hash id count q s w

-- so many messages of the queue of an id were swept, and the file holds what is left
pub record IsSweeping (hash : RecordKey → ℕ) (id count : ℕ) (q : Queue) (s : State) (v : Option Work) (file : Store)
    : Type 0 where
  pub filed : IsFiled s
  pub alive : find (has_id id) s.queues ≡ Some q
  pub stands : (key : RecordKey) → is_swept id key ≡ true → StandsAt file key (records_left id count s v key)
  pub works : IsWorking hash id count q s v

-- a sweep of a seat, under these names
pub record Faces (hash : RecordKey → ℕ) (seat : ℕ) (held : List Lock) (id count : ℕ) (q : Queue) (s : State)
    (v : Option Work) (pool : PoolState) (locks : Table) (change : Change) : Type 0 where
  pub sees : Sees hash seat (sweep_facts v) pool locks change
  -- no lock of the file is among the names, and the queue's is exclusive
  pub bare : HasNoFileLock held
  pub owns : kind_of held (names.Queue id) ≡ Some Exclusive
  -- the locks of its access stand behind them
  pub row : row_of locks seat ≡ sweep_locks v held
  pub sweeps : IsSweeping hash id count q s v (store_of pool.images)
