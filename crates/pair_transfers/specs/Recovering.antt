-- A recovery: what is seen of a journal, what is done next, and what the files are meanwhile. docs/FORMAT.md,
-- "The journal".
use Rattle.std.specs.Prelude.{◌≡◌, ◌⊎◌, ℕ, ◌+◌, ◌==◌, ◌&&◌, nat_lt, Bool, true, false, length, take, slice_get, if◌then◌else◌, Option, Some, None, Result, Ok, Err}
use Rattle.safe_device.specs.Crash.{CutTo, Emptied, Follows, HasFile, HasJournal, Keeps}
use Rattle.safe_device.specs.Left.{Left, found_of, images_of, put_back, rest_of, without_images}
use Rattle.safe_device.specs.Safe.{Fits, Holds, IsAtRest, IsFoundOrLeft, IsRestoring, IsResting, StandsFor, committed}
use Rattle.safe_device.specs.declared.journal.Journal.{Journal}
use Rattle.safe_device.specs.declared.journal.PageImage.{PageImage}
use Rattle.safe_device.specs.declared.page_pair.FoundJournal.{FoundJournal}
use Rattle.pair_transfers.specs.Acts.{EndsJournal, Pages, ReadsNothing, Stores, SyncsFile, SyncsJournal}
use Rattle.pair_transfers.specs.declared.recovery.RecoverFault.{RecoverFault}
use Rattle.pair_transfers.specs.declared.recovery.RecoverFault.TheVariants as fault
use Rattle.pair_transfers.specs.declared.recovery.Recovery.{Recovery}
use Rattle.pair_transfers.specs.declared.recovery.RecoveryAct.{RecoveryAct}
use Rattle.pair_transfers.specs.declared.recovery.RecoveryAct.TheVariants.{SyncJournal, Cut, PutBack, SyncFile, EndImages, End}
use Rattle.pair_transfers.specs.declared.recovery.RecoveryPlace.{RecoveryPlace}
use Rattle.pair_transfers.specs.declared.recovery.RecoveryPlace.TheVariants.{Resting, Settled, Found, Durable, Putting, Restored, Cleared, Recovered, Failed}
use Rattle.pair_transfers.specs.declared.recovery.Seen.{Seen}
use Rattle.pair_transfers.specs.declared.recovery.Seen.TheVariants.{Nothing, Whole, Foreign, OtherVersion}

-- ---- what is seen

-- a journal of these pages, which has only images of them
pub record SeesWhole (found : FoundJournal) (many : ℕ) (journal : Option Journal) (pages : Pages) : Type 0 where
  pub found_is : Some found ≡ found_of journal
  pub many_is : many ≡ length pages
  pub fits : Fits journal pages

abbrev pub Sees : Seen → Option Journal → Pages → Type 0
Sees Nothing journal pages = journal ≡ None
Sees (Whole found many) journal pages = SeesWhole found many journal pages
Sees Foreign journal pages = Fits journal pages → ⊥
Sees OtherVersion journal pages = ⊥

-- ---- what is done

-- calls alone stand behind the pages
abbrev pub is_resting : FoundJournal → (pages : ℕ) → Bool
is_resting found pages = nat_lt 0 found.calls && found.images == 0 && found.count == pages

abbrev pub begun : Seen → Result Recovery RecoverFault
begun Nothing = Ok (record { place = Resting; found = record { count = 0; calls = 0; images = 0 } })
begun (Whole found pages) =
    Ok (record { place = if is_resting found pages then Resting else Found; found = found })
begun Foreign = Err fault.Foreign
begun OtherVersion = Err fault.OtherVersion

-- while an image is left that is not in its place
abbrev pub put_or_sync : Bool → ℕ → RecoveryAct
put_or_sync true index = PutBack index
put_or_sync false index = SyncFile

abbrev pub one_put : Bool → ℕ → RecoveryPlace
one_put true index = Putting (index + 1)
one_put false index = Restored

-- calls stay in the journal
abbrev pub ending : Bool → RecoveryAct
ending true = EndImages
ending false = End

-- what is done next; none where all is done
abbrev pub next_act : FoundJournal → RecoveryPlace → Option RecoveryAct
next_act found Resting = Some SyncFile
next_act found Settled = Some SyncJournal
next_act found Found = Some SyncJournal
next_act found Durable = Some (Cut found.count)
next_act found (Putting index) = Some (put_or_sync (nat_lt index found.images) index)
next_act found Restored = Some (ending (nat_lt 0 found.calls))
next_act found Cleared = Some SyncJournal
next_act found Recovered = None
next_act found Failed = None

-- where it has come to once that is done
abbrev pub behind : FoundJournal → RecoveryPlace → RecoveryPlace
behind found Resting = Settled
behind found Settled = Recovered
behind found Found = Durable
behind found Durable = Putting 0
behind found (Putting index) = one_put (nat_lt index found.images) index
behind found Restored = Cleared
behind found Cleared = Recovered
behind found Recovered = Recovered
behind found Failed = Failed

module _ {P : Type 0} (file : P → Pages) (journal : P → Option Journal) (may_leave : P → Left → Type 0) where
  -- ---- what each act does

  pub record Cuts (pages : ℕ) (done : Bool) (old new : P) : Type 0 where
    pub cut_so : done ≡ true → file new ≡ take pages (file old)
    pub journal_is : journal new ≡ journal old
    pub crash : Follows (CutTo pages) (may_leave old) (may_leave new)

  pub record PutsBack (index : ℕ) (image : PageImage) (done : Bool) (old new : P) : Type 0 where
    pub image_is : slice_get (images_of (journal old)) index ≡ Some image
    pub stores : Stores file journal may_leave image.page image.bytes done old new

  pub record EndsImages (done : Bool) (old new : P) : Type 0 where
    pub file_is : file new ≡ file old
    pub ended : done ≡ true → journal new ≡ without_images (journal old)
    pub crash : Follows Emptied (may_leave old) (may_leave new)

  -- what an act does that is done, or has failed
  abbrev pub Recovers : RecoveryAct → Bool → (old new : P) → Type 0
  Recovers SyncJournal done old new = SyncsJournal file journal may_leave done old new
  Recovers (Cut pages) done old new = Cuts pages done old new
  Recovers (PutBack index) done old new =
      ReadsNothing file journal may_leave done old new ⊎ ((image : PageImage) × PutsBack index image done old new)
  Recovers SyncFile done old new = SyncsFile file journal may_leave done old new
  Recovers EndImages done old new = EndsImages done old new
  Recovers End done old new = EndsJournal file journal may_leave done old new

  -- ---- what the files are meanwhile

  -- nothing was written, and what a crash leaves it might have left before
  pub record IsUntouched (first pair : P) : Type 0 where
    pub file_is : file pair ≡ file first
    pub journal_is : journal pair ≡ journal first
    pub left : (c : Left) → may_leave pair c → may_leave first c

  -- nor is anything to be put back
  pub record IsLying (first pair : P) : Type 0 where
    pub untouched : IsUntouched first pair
    pub rests : IsResting (journal first) (file first)

  pub record IsSettled (first pair : P) : Type 0 where
    pub lying : IsLying first pair
    pub file_left : Keeps (HasFile (file first)) (may_leave pair)

  -- the journal of the first pair is this one, and speaks of pages that are there
  pub record IsOf (found : FoundJournal) (first : P) : Type 0 where
    pub found_is : Some found ≡ found_of (journal first)
    pub fits : Fits (journal first) (file first)

  pub record IsFound (found : FoundJournal) (first pair : P) : Type 0 where
    pub its : IsOf found first
    pub untouched : IsUntouched first pair

  pub record IsDurable (found : FoundJournal) (first pair : P) : Type 0 where
    pub was : IsFound found first pair
    pub journal_left : Keeps (HasJournal (journal first)) (may_leave pair)

  -- the first images are in their places, and a crash leaves what these put back
  pub record IsPutting (index : ℕ) (found : FoundJournal) (first pair : P) : Type 0 where
    pub its : IsOf found first
    pub file_is : file pair ≡ put_back (take found.count (file first)) (take index (images_of (journal first)))
    pub journal_is : journal pair ≡ journal first
    pub restoring : IsRestoring (journal first) (may_leave first) (may_leave pair)

  pub record IsRestored (found : FoundJournal) (first pair : P) : Type 0 where
    pub its : IsOf found first
    pub file_is : file pair ≡ (committed file journal first).pages
    pub journal_is : journal pair ≡ journal first
    pub restoring : IsRestoring (journal first) (may_leave first) (may_leave pair)
    pub file_left : Keeps (HasFile (file pair)) (may_leave pair)

  -- the images are let go, which need not be on the disk yet
  pub record IsCleared (found : FoundJournal) (first pair : P) : Type 0 where
    pub its : IsOf found first
    pub file_is : file pair ≡ (committed file journal first).pages
    pub journal_is : journal pair ≡ rest_of (journal first)
    pub file_left : Keeps (HasFile (file pair)) (may_leave pair)
    pub left : Keeps (IsFoundOrLeft (committed file journal first) (may_leave first)) (may_leave pair)

  -- the files hold what recovery gives, which outlasts a crash, and nothing is to be put back
  pub record IsRecovered (first pair : P) : Type 0 where
    pub at_rest : IsAtRest file journal may_leave pair
    pub holds : Holds file journal (committed file journal first) pair
    pub durable : Keeps (StandsFor (committed file journal first)) (may_leave pair)

  -- what the files are where a recovery has come to
  abbrev pub RecoveryStands : RecoveryPlace → FoundJournal → (first pair : P) → Type 0
  RecoveryStands Resting found first pair = IsLying first pair
  RecoveryStands Settled found first pair = IsSettled first pair
  RecoveryStands Found found first pair = IsFound found first pair
  RecoveryStands Durable found first pair = IsDurable found first pair
  RecoveryStands (Putting index) found first pair = IsPutting index found first pair
  RecoveryStands Restored found first pair = IsRestored found first pair
  RecoveryStands Cleared found first pair = IsCleared found first pair
  RecoveryStands Recovered found first pair = IsRecovered first pair
  RecoveryStands Failed found first pair = ⊥
