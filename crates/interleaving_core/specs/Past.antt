-- What the journal has of a seat's call, and what the call keeps of the journal. docs/STEPS.md, "Calls";
-- docs/QUEUES.md, "Journals".
use Rattle.std.specs.Prelude.{ℕ, ◌≡◌, ◌≤◌, false, List, [], ◌∷◌, Option, Some, None, drop, length, take, ⊤}
use Rattle.queue_model.specs.Journal.{part_of}
use Rattle.queue_model.specs.declared.entry.Entry.TheVariants.{Decided}
use Rattle.interleaving_core.specs.Active.{ActiveView}
use Rattle.interleaving_core.specs.Waiting.{is_woken}
use Rattle.interleaving_core.specs.Words.{Answer, Call, Entry, answer_of_call}

-- ---- its entry

-- the call under way
abbrev pub call_of : Option ActiveView → Option Call
call_of None = None
call_of (Some a) = Some a.machine.call

-- the entry of a call with an answer
abbrev pub entry_of : ℕ → Option Call → Option Answer → List Entry
entry_of seat None answer = []
entry_of seat (Some call) None = []
entry_of seat (Some call) (Some answer) = Decided seat call answer ∷ []

-- the entry that a seat's call has in the journal, and of which the seat was not told yet
abbrev pub untold : ℕ → Option ActiveView → List Entry
untold seat None = []
untold seat (Some a) = entry_of seat (Some a.machine.call) (answer_of_call a.machine)

-- ---- what it keeps

-- a call that waits has looked at so much of the journal, and there nothing wakes it from its Decide on
pub record HasLooked (journal : List Entry) (a : ActiveView) (since : ℕ) : Type 0 where
  pub from : a.decided ≤ since
  pub within : since ≤ length journal
  pub unwoken : is_woken a.machine.call a.decided (take since journal) ≡ false

pub record IsOfJournal (seat : ℕ) (journal : List Entry) (a : ActiveView) : Type 0 where
  -- it began, and decided, when the journal was no longer than it is
  pub begun : a.begun ≤ length journal
  pub decided : a.decided ≤ length journal
  -- of what joined since it began, the part of its seat is the entry of which that was not told yet
  pub joined : part_of seat (drop a.begun journal) ≡ untold seat (Some a)
  pub looked : (since : ℕ) → a.wait ≡ Some since → HasLooked journal a since

-- of a seat, with its call if it has one
abbrev pub KeepsJournal : ℕ → List Entry → Option ActiveView → Type 0
KeepsJournal seat journal None = ⊤
KeepsJournal seat journal (Some a) = IsOfJournal seat journal a
