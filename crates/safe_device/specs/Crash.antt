-- What each call on a file and its journal may leave at a crash, and when.
use Rattle.std.specs.Prelude.{◌≡◌, ◌⊎◌, ℕ, ◌≤◌, List, ◌++◌, Option, Some, None, take, slice_set}
use Rattle.safe_device.specs.declared.journal.Journal.{Journal}
use Rattle.safe_device.specs.declared.journal.PageImage.{PageImage}
use Rattle.safe_device.specs.Left.{Left, added, noted, rest_of, without_images}

-- the page is as it was, or holds anything; all others are the same
abbrev pub IsTornAt : ℕ → List (List ℕ) → List (List ℕ) → Type 0
IsTornAt page old new = (new ≡ old) ⊎ ((bytes : List ℕ) × (new ≡ slice_set old page bytes))

-- after the old end anything may stand
abbrev pub IsLongerBy : List (List ℕ) → List (List ℕ) → Type 0
IsLongerBy old new = (more : List (List ℕ)) × (new ≡ old ++ more)

-- a page is torn, and the journal is the same
pub record TornAt (page : ℕ) (old new : Left) : Type 0 where
  pub file : IsTornAt page old.file new.file
  pub journal : new.journal ≡ old.journal

-- the file is longer, and the journal the same
pub record LongerBy (old new : Left) : Type 0 where
  pub file : IsLongerBy old.file new.file
  pub journal : new.journal ≡ old.journal

-- the file ends at some place from so many pages on, and the journal is the same
pub record CutTo (pages : ℕ) (old new : Left) : Type 0 where
  pub file : (end : ℕ) × (pages ≤ end) × (new.file ≡ take end old.file)
  pub journal : new.journal ≡ old.journal

-- the journal is as it was, or has the first of the images, up to any place; the file is the same
pub record Appended (count : ℕ) (images : List PageImage) (old new : Left) : Type 0 where
  pub file : new.file ≡ old.file
  pub journal : (new.journal ≡ old.journal)
      ⊎ ((many : ℕ) × (new.journal ≡ Some (added count (take many images) old.journal)))

-- the journal is as it was, or has this addition of calls too; the file is the same
pub record Noted (count : ℕ) (calls : List ℕ) (old new : Left) : Type 0 where
  pub file : new.file ≡ old.file
  pub journal : (new.journal ≡ old.journal) ⊎ (new.journal ≡ Some (noted count calls old.journal))

-- the journal is as it was, or has no image; the file is the same
pub record Emptied (old new : Left) : Type 0 where
  pub file : new.file ≡ old.file
  pub journal : (new.journal ≡ old.journal) ⊎ (new.journal ≡ without_images old.journal)

-- the journal is as it was or is none; the file is the same
pub record Removed (old new : Left) : Type 0 where
  pub file : new.file ≡ old.file
  pub journal : (new.journal ≡ old.journal) ⊎ (new.journal ≡ None)

-- of this journal there is all, or what is left of it once its images are put back; the file is the same
pub record Cleared (journal : Option Journal) (old new : Left) : Type 0 where
  pub file : new.file ≡ old.file
  pub left : (new.journal ≡ journal) ⊎ (new.journal ≡ rest_of journal)

-- each new outcome of a crash is an old outcome after a step
abbrev pub Follows : (Left → Left → Type 0) → (Left → Type 0) → (Left → Type 0) → Type 0
Follows step old new = (c : Left) → new c → (d : Left) × old d × step d c

-- each outcome of a crash has P
abbrev pub Keeps : (Left → Type 0) → (Left → Type 0) → Type 0
Keeps P may_leave = (c : Left) → may_leave c → P c

abbrev pub HasFile : List (List ℕ) → Left → Type 0
HasFile file left = left.file ≡ file

abbrev pub HasJournal : Option Journal → Left → Type 0
HasJournal journal left = left.journal ≡ journal

-- the file and the journal are these
pub record HasBoth (pages : List (List ℕ)) (found : Option Journal) (left : Left) : Type 0 where
  pub file : HasFile pages left
  pub journal : HasJournal found left

-- Time goes on: a crash since t might have left what it might have left before, or what it may leave now.
pub record Elapses {P : Type 0} (moment : P → ℕ) (left_since : P → ℕ → Left → Type 0)
    (may_leave : P → Left → Type 0) (old new : P) : Type 0 where
  pub later : moment old ≤ moment new
  pub nothing_else : (t : ℕ) (c : Left) → t ≤ moment old → left_since new t c → left_since old t c ⊎ may_leave new c
  pub keeps : (t : ℕ) (c : Left) → t ≤ moment old → left_since old t c → left_since new t c

-- A crash at any moment since old leaves what has Q.
pub record LeavesOnly {P : Type 0} (moment : P → ℕ) (left_since : P → ℕ → Left → Type 0) (old new : P)
    (Q : Left → Type 0) : Type 0 where
  pub later : moment old ≤ moment new
  pub each : (c : Left) → left_since new (moment old) c → Q c
  -- for a run that began earlier
  pub before : (t : ℕ) (c : Left) → t ≤ moment old → left_since new t c → left_since old t c ⊎ Q c
