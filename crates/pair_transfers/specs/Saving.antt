-- A save: what is told of pages that have changed, what may be done next, and what the files are meanwhile.
-- docs/FORMAT.md, "The journal".
use Rattle.std.specs.Prelude.{◌≡◌, ◌⊎◌, ℕ, ◌+◌, ◌≤◌, ◌<◌, Bool, true, false, min, List, [], ◌∷◌, ◌++◌, length, slice_get, slice_index_or, is_some, IsTrue, Option, Some, None}
use Rattle.std.specs.List.{All}
use Rattle.safe_device.specs.Crash.{HasFile, HasJournal, Keeps}
use Rattle.safe_device.specs.Left.{Left, Saved, alone, images_of}
use Rattle.safe_device.specs.Safe.{IsAtRest, IsEither, StandsFor, numbers}
use Rattle.safe_device.specs.declared.journal.Journal.{Journal}
use Rattle.safe_device.specs.declared.journal.PageImage.{PageImage}
use Rattle.pair_transfers.specs.Acts.{Pages}
use Rattle.pair_transfers.specs.declared.save.Act.{Act}
use Rattle.pair_transfers.specs.declared.save.Act.TheVariants.{Guard, SyncImages, Write, SyncFile, End, SyncEnd}
use Rattle.pair_transfers.specs.declared.save.Place.{Place}
use Rattle.pair_transfers.specs.declared.save.Place.TheVariants.{Guarding, Writing, Written, Ended, Saved as Over, Failed}

-- ---- pages that have changed since they were saved

abbrev pub page_of : Pages → ℕ → List ℕ
page_of pages page = slice_index_or pages page []

-- each page from one on up to another is as it was saved
abbrev pub AreAsSaved : (from to : ℕ) → (saved content : Pages) → Type 0
AreAsSaved from to saved content =
    (page : ℕ) → from ≤ page → page < to → page_of content page ≡ page_of saved page

-- a page from one on, and those between are as they were saved
pub record IsNextChanged (from page : ℕ) (saved content : Pages) : Type 0 where
  pub behind : from ≤ page
  pub within : page < length content
  pub others : AreAsSaved from page saved content

-- or all others are
abbrev pub IsToldOf : (from : ℕ) → Option ℕ → (saved content : Pages) → Type 0
IsToldOf from None saved content = AreAsSaved from (length content) saved content
IsToldOf from (Some page) saved content = IsNextChanged from page saved content

-- from here on these are the pages that were saved, and that are to be
pub record NotesPages (content saved : Pages) (wants : Pages → Type 0) : Type 0 where
  pub saved_is : saved ≡ content
  pub wanted : wants content

-- ---- what is done

pub record SaveState : Type 0 where
  pub place : Place
  pub has_calls : Bool
  -- the pages that have an image in the journal
  pub guarded : List ℕ

abbrev pub is_over : Place → Bool
is_over Over = true
is_over place = false

abbrev pub begun : Bool → SaveState
begun has_calls = record { place = Guarding 0; has_calls = has_calls; guarded = [] }

abbrev pub one_more : Place → Place
one_more (Writing written) = Writing (min (written + 1) 18446744073709551615)
one_more place = place

-- once an act is done
abbrev pub advanced : Act → SaveState → SaveState
advanced (Guard page) s =
    record s { place = Guarding (min (page + 1) 4294967295); guarded = s.guarded ++ page ∷ [] }
advanced SyncImages s = record s { place = Writing 0 }
advanced (Write page) s = record s { place = one_more s.place }
advanced SyncFile s = record s { place = Written }
advanced End s = record s { place = Ended }
advanced SyncEnd s = record s { place = Over }

-- no other page has changed
pub record AreAllGuarded (from : ℕ) (s : SaveState) (saved content : Pages) : Type 0 where
  pub others : AreAsSaved from (length content) saved content
  -- and some has, or calls stand in the journal
  pub some : s.guarded ≡ [] → s.has_calls ≡ true

-- none has, and no calls stand in the journal
pub record IsNoneGuarded (from : ℕ) (s : SaveState) (saved content : Pages) : Type 0 where
  pub others : AreAsSaved from (length content) saved content
  pub none : s.guarded ≡ []
  pub no_calls : s.has_calls ≡ false

-- which act is next while pages are guarded
abbrev pub IsNextImage : (from : ℕ) → SaveState → Option Act → (saved content : Pages) → Type 0
IsNextImage from s (Some (Guard page)) saved content = IsNextChanged from page saved content
IsNextImage from s (Some SyncImages) saved content = AreAllGuarded from s saved content
IsNextImage from s None saved content = IsNoneGuarded from s saved content
IsNextImage from s act saved content = ⊥

-- the next page that is guarded, as it is to be written
pub record IsUnwritten (written page : ℕ) (bytes : List ℕ) (s : SaveState) (content : Pages) : Type 0 where
  pub within : written < length s.guarded
  pub counted : written < 18446744073709551615
  pub page_is : slice_index_or s.guarded written 0 ≡ page
  pub bytes_are : slice_get content page ≡ Some bytes

-- and while they are written, with these bytes
abbrev pub IsNextPage : (written : ℕ) → SaveState → Option Act → (bytes : List ℕ) → (content : Pages) → Type 0
IsNextPage written s (Some (Write page)) bytes content = IsUnwritten written page bytes s content
IsNextPage written s (Some SyncFile) bytes content = length s.guarded ≤ written
IsNextPage written s act bytes content = ⊥

-- which act is next; none where all is done
abbrev pub IsNextAt : Place → SaveState → Option Act → (bytes : List ℕ) → (saved content : Pages) → Type 0
IsNextAt (Guarding from) s act bytes saved content = IsNextImage from s act saved content
IsNextAt (Writing written) s act bytes saved content = IsNextPage written s act bytes content
IsNextAt Written s act bytes saved content = act ≡ Some End
IsNextAt Ended s act bytes saved content = act ≡ Some SyncEnd
IsNextAt Over s act bytes saved content = act ≡ None
IsNextAt Failed s act bytes saved content = ⊥

abbrev pub IsNext : SaveState → Option Act → (bytes : List ℕ) → (saved content : Pages) → Type 0
IsNext s act bytes saved content = IsNextAt s.place s act bytes saved content

-- a page was told, or nothing was done
abbrev pub IsTurned : {S : Type 0} → (S → S → Type 0) → (old new : S) → Type 0
IsTurned turned old new = (new ≡ old) ⊎ turned old new

-- it is noted that the pages are saved
pub record NotesAll {S : Type 0} (saved : S → Pages) (wants : S → Pages → Type 0) (noted : S → S → Type 0)
    (old new : S) : Type 0 where
  pub pages : (content : Pages) → wants old content → NotesPages content (saved new) (wants new)
  pub noted_so : noted old new

-- that is behind the last act, and behind no other
abbrev pub Ends : {S : Type 0} → (S → Pages) → (S → Pages → Type 0) → (S → S → Type 0) → Act → (old new : S) → Type 0
Ends saved wants noted SyncEnd old new = NotesAll saved wants noted old new
Ends saved wants noted act old new = new ≡ old

-- ---- what the files are meanwhile

-- a journal that restores these pages to themselves, and has these calls
pub record IsJournalOf (saved : Saved) (j : Journal) : Type 0 where
  pub calls : j.calls ≡ saved.calls
  pub count : j.count ≡ length saved.pages
  pub shows : All (λ (i : PageImage). slice_get saved.pages i.page ≡ Some i.bytes) j.images

abbrev pub GivesBack : Saved → Option Journal → Type 0
GivesBack saved None = saved.calls ≡ []
GivesBack saved (Some j) = IsJournalOf saved j

-- a page is one of these, from a place on
pub record IsAmong (guarded : List ℕ) (from page : ℕ) : Type 0 where
  pub place : ℕ
  pub behind : from ≤ place
  pub within : place < length guarded
  pub is_it : slice_index_or guarded place 0 ≡ page

-- a page is guarded, or is as it was saved
abbrev pub IsGuarded : (guarded : List ℕ) → (saved content : Pages) → ℕ → Type 0
IsGuarded guarded saved content page = IsAmong guarded 0 page ⊎ (page_of content page ≡ page_of saved page)

-- a page is as it is to be, or is still to be written
abbrev pub IsBrought : (guarded : List ℕ) → (written : ℕ) → (content pages : Pages) → ℕ → Type 0
IsBrought guarded written content pages page =
    (page_of pages page ≡ page_of content page) ⊎ IsAmong guarded written page

module _ {P : Type 0} (file : P → Pages) (journal : P → Option Journal) (may_leave : P → Left → Type 0) where
  -- a crash leaves what a read gives, which are these pages, and nothing is to be put back
  pub record IsReady (saved : Pages) (pair : P) : Type 0 where
    pub rests : IsAtRest file journal may_leave pair
    pub pages_are : file pair ≡ saved

  -- these pages, and no calls behind them
  pub record IsSaved (content : Pages) (pair : P) : Type 0 where
    pub ready : IsReady content pair
    pub none : journal pair ≡ None

  -- nothing is written: whatever a crash leaves of the journal, it gives the pages back
  pub record IsGuarding (from : ℕ) (s : SaveState) (saved : Saved) (content : Pages) (pair : P) : Type 0 where
    pub file_is : file pair ≡ saved.pages
    pub found : GivesBack saved (journal pair)
    pub images_are : numbers (images_of (journal pair)) ≡ s.guarded
    pub begun_by : s.has_calls ≡ true → IsTrue (is_some (journal pair))
    pub guarded_so : (page : ℕ) → page < from → IsGuarded s.guarded saved.pages content page
    pub file_left : Keeps (HasFile saved.pages) (may_leave pair)
    pub journal_left : (c : Left) → may_leave pair c → GivesBack saved c.journal
    pub untouched : s.guarded ≡ [] → s.has_calls ≡ false → IsSaved saved.pages pair

  -- the images outlast a crash, so that these pages may be written
  pub record IsWriting (written : ℕ) (s : SaveState) (saved : Saved) (content : Pages) (pair : P) : Type 0 where
    pub journal_of : Journal
    pub journal_is : journal pair ≡ Some journal_of
    pub images_are : numbers journal_of.images ≡ s.guarded
    pub brought : (page : ℕ) → page < length content → IsBrought s.guarded written content (file pair) page
    pub many : length (file pair) ≡ length content
    pub journal_left : Keeps (HasJournal (Some journal_of)) (may_leave pair)
    pub left : Keeps (StandsFor saved) (may_leave pair)

  -- all pages are on the disk
  pub record IsWritten (saved : Saved) (content : Pages) (pair : P) : Type 0 where
    pub file_is : file pair ≡ content
    pub file_left : Keeps (HasFile content) (may_leave pair)
    pub left : Keeps (StandsFor saved) (may_leave pair)

  -- the journal is ended, which need not be on the disk yet
  pub record IsEnded (saved : Saved) (content : Pages) (pair : P) : Type 0 where
    pub file_is : file pair ≡ content
    pub none : journal pair ≡ None
    pub file_left : Keeps (HasFile content) (may_leave pair)
    pub left : Keeps (IsEither saved (alone content)) (may_leave pair)

  -- what the files are where a save has come to
  abbrev pub StandsAt : Place → SaveState → Saved → (content : Pages) → P → Type 0
  StandsAt (Guarding from) s saved content pair = IsGuarding from s saved content pair
  StandsAt (Writing written) s saved content pair = IsWriting written s saved content pair
  StandsAt Written s saved content pair = IsWritten saved content pair
  StandsAt Ended s saved content pair = IsEnded saved content pair
  StandsAt Over s saved content pair = IsSaved content pair
  StandsAt Failed s saved content pair = ⊥

  -- the files have these pages, and no calls behind them, and it is noted that they are saved
  pub record HasSaved {S : Type 0} (saved_of : S → Pages) (wants : S → Pages → Type 0) (content : Pages) (pair : P)
      (pages : S) : Type 0 where
    pub files : IsSaved content pair
    pub noted : saved_of pages ≡ content
    pub wanted : wants pages content
