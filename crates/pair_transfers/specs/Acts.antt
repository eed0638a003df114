-- What each act of a save does to a file and its journal.
use Rattle.std.specs.Prelude.{◌≡◌, ◌⊎◌, ℕ, Bool, true, false, List, [], ◌∷◌, length, slice_get, slice_set, Option, Some, None}
use Rattle.safe_device.specs.Crash.{Appended, Follows, HasFile, HasJournal, Keeps, Removed, TornAt}
use Rattle.safe_device.specs.Left.{Left, added}
use Rattle.safe_device.specs.declared.journal.Journal.{Journal}
use Rattle.safe_device.specs.declared.journal.PageImage.{PageImage}
use Rattle.pair_transfers.specs.declared.save.Act.{Act}
use Rattle.pair_transfers.specs.declared.save.Act.TheVariants.{Guard, SyncImages, Write, SyncFile, End, SyncEnd}

abbrev pub Pages : Type 0
Pages = List (List ℕ)

-- a page with its number
abbrev pub image : ℕ → List ℕ → PageImage
image page bytes = record { page = page; bytes = bytes }

module _ {P : Type 0} (file : P → Pages) (journal : P → Option Journal) (may_leave : P → Left → Type 0) where
  -- the image of a page, as the file has it, is added to the journal
  pub record AddsImage (page : ℕ) (was : List ℕ) (done : Bool) (old new : P) : Type 0 where
    pub was_there : slice_get (file old) page ≡ Some was
    pub file_is : file new ≡ file old
    pub added_so : done ≡ true →
        journal new ≡ Some (added (length (file old)) (image page was ∷ []) (journal old))
    pub crash : Follows (Appended (length (file old)) (image page was ∷ [])) (may_leave old) (may_leave new)

  -- or the page was not read
  pub record ReadsNothing (done : Bool) (old new : P) : Type 0 where
    pub failed : done ≡ false
    pub same : new ≡ old

  pub record SyncsJournal (done : Bool) (old new : P) : Type 0 where
    pub file_is : file new ≡ file old
    pub journal_is : journal new ≡ journal old
    pub kept : done ≡ true → Keeps (HasJournal (journal old)) (may_leave new)
    pub crash : (c : Left) → may_leave new c → may_leave old c

  pub record SyncsFile (done : Bool) (old new : P) : Type 0 where
    pub file_is : file new ≡ file old
    pub journal_is : journal new ≡ journal old
    pub kept : done ≡ true → Keeps (HasFile (file old)) (may_leave new)
    pub crash : (c : Left) → may_leave new c → may_leave old c

  pub record Stores (page : ℕ) (bytes : List ℕ) (done : Bool) (old new : P) : Type 0 where
    pub stored : done ≡ true → file new ≡ slice_set (file old) page bytes
    pub journal_is : journal new ≡ journal old
    pub crash : Follows (TornAt page) (may_leave old) (may_leave new)

  pub record EndsJournal (done : Bool) (old new : P) : Type 0 where
    pub file_is : file new ≡ file old
    pub ended : done ≡ true → journal new ≡ None
    pub crash : Follows Removed (may_leave old) (may_leave new)

  abbrev pub Guards : (page : ℕ) → Bool → (old new : P) → Type 0
  Guards page done old new =
      ReadsNothing done old new ⊎ ((was : List ℕ) × AddsImage page was done old new)

  -- what an act does that is done, or has failed; a page is written with these bytes
  abbrev pub Makes : Act → (bytes : List ℕ) → Bool → (old new : P) → Type 0
  Makes (Guard page) bytes done old new = Guards page done old new
  Makes SyncImages bytes done old new = SyncsJournal done old new
  Makes (Write page) bytes done old new = Stores page bytes done old new
  Makes SyncFile bytes done old new = SyncsFile done old new
  Makes End bytes done old new = EndsJournal done old new
  Makes SyncEnd bytes done old new = SyncsJournal done old new
