-- A note of calls: what is done next, and what the files are meanwhile. docs/FORMAT.md, "The journal".
use Rattle.std.specs.Prelude.{◌≡◌, ◌⊎◌, ℕ, Bool, true, List, length, Option, Some, None}
use Rattle.safe_device.specs.Crash.{Follows, HasFile, Keeps, Noted as NotedBy}
use Rattle.safe_device.specs.Left.{Left, noted, with_calls}
use Rattle.safe_device.specs.Safe.{IsAtRest, committed}
use Rattle.safe_device.specs.declared.journal.Journal.{Journal}
use Rattle.pair_transfers.specs.Acts.{Pages, SyncsJournal}
use Rattle.pair_transfers.specs.Recovering.{IsUntouched}
use Rattle.pair_transfers.specs.declared.note.NoteAct.{NoteAct}
use Rattle.pair_transfers.specs.declared.note.NoteAct.TheVariants.{Add, Sync}
use Rattle.pair_transfers.specs.declared.note.NotePlace.{NotePlace}
use Rattle.pair_transfers.specs.declared.note.NotePlace.TheVariants.{Unnoted, Added, Noted, Failed}

-- what is done next; none where all is done
abbrev pub next_of_note : NotePlace → Option NoteAct
next_of_note Unnoted = Some Add
next_of_note Added = Some Sync
next_of_note Noted = None
next_of_note Failed = None

-- where it has come to once that is done
abbrev pub behind_note : NotePlace → NotePlace
behind_note Unnoted = Added
behind_note Added = Noted
behind_note Noted = Noted
behind_note Failed = Failed

module _ {P : Type 0} (file : P → Pages) (journal : P → Option Journal) (may_leave : P → Left → Type 0) where
  -- the calls are added to a journal of so many pages
  pub record AddsCalls (count : ℕ) (calls : List ℕ) (done : Bool) (old new : P) : Type 0 where
    pub file_is : file new ≡ file old
    pub added_so : done ≡ true → journal new ≡ Some (noted count calls (journal old))
    pub crash : Follows (NotedBy count calls) (may_leave old) (may_leave new)

  -- what an act does that is done, or has failed
  abbrev pub DoesNote : (count : ℕ) → (calls : List ℕ) → NoteAct → Bool → (old new : P) → Type 0
  DoesNote count calls Add done old new = AddsCalls count calls done old new
  DoesNote count calls Sync done old new = SyncsJournal file journal may_leave done old new

  -- the calls stand in the journal, which need not be on the disk yet
  pub record IsAdded (calls : List ℕ) (first pair : P) : Type 0 where
    pub file_is : file pair ≡ file first
    pub journal_is : journal pair ≡ Some (noted (length (file first)) calls (journal first))
    pub file_left : Keeps (HasFile (file first)) (may_leave pair)
    pub journal_left : (c : Left) → may_leave pair c →
        (c.journal ≡ journal first) ⊎ (c.journal ≡ Some (noted (length (file first)) calls (journal first)))

  -- recovery gives what it gave with these calls, no crash takes that back, and nothing is to be put back
  pub record HasNoted (calls : List ℕ) (first pair : P) : Type 0 where
    pub at_rest : IsAtRest file journal may_leave pair
    pub file_is : file pair ≡ file first
    pub gives : committed file journal pair ≡ with_calls calls (committed file journal first)

  -- what the files are where a note has come to
  abbrev pub NoteStands : NotePlace → (calls : List ℕ) → (first pair : P) → Type 0
  NoteStands Unnoted calls first pair = IsUntouched file journal may_leave first pair
  NoteStands Added calls first pair = IsAdded calls first pair
  NoteStands Noted calls first pair = HasNoted calls first pair
  NoteStands Failed calls first pair = ⊥
