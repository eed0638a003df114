-- From what a service began.
use Rattle.std.specs.Prelude.{ℕ, ◌≡◌, ◌≤◌, Bool, false, List, [], length}
use Rattle.workers.specs.Words.{Caller, Entry, IsFifo, IsFileOf, IsLegal, RecordKey, State, after, restarted}

pub record Origin : Type 0 where
  -- the pages that its device had, whether the device gives back what was written, and how often a transfer had failed
  pub content : List (List ℕ)
  pub honest : Bool
  pub faults : ℕ
  -- so many pages fit in memory
  pub frames : ℕ
  -- the pseudokeys of the file
  pub hash : RecordKey → ℕ
  -- who sits at its seats, one caller a seat
  pub callers : List Caller

-- that of no service
abbrev pub no_origin : Origin
no_origin = record { content = []; honest = false; faults = 0; frames = 0; hash = λ key. 0; callers = [] }

-- there is a frame for each page, so that the device is spared until the service ends
abbrev pub HasFrames : Origin → Type 0
HasFrames o = length o.content ≤ o.frames

-- a journal that is legal from the one system whose file the device had, and in which of each type messages are
-- received in the order in which they were sent, each once
pub record IsJournalOf (o : Origin) (journal : List Entry) : Type 0 where
  pub base : State
  pub file : IsFileOf o.hash o.content base
  pub legal : IsLegal o.callers journal base
  pub fifo : IsFifo o.callers journal base

-- and these pages are the file of the system after it, as many as before
pub record LeavesFile (o : Origin) (journal : List Entry) (content : List (List ℕ)) : Type 0 where
  pub plain : IsJournalOf o journal
  pub left : IsFileOf o.hash content (restarted (after o.callers journal plain.base))
  pub pages : length content ≡ length o.content
