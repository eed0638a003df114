-- What a safe device shows, and what is true of it.
use Rattle.std.specs.Prelude.{◌≡◌, ◌≤◌, ◌<◌, ◌==◌, ◌||◌, ℕ, Bool, true, false, not, List, [], ◌∷◌, ◌++◌, length, replicate, Option, IsTrue}
use Rattle.page_device.specs.Device.{HasRisen}
use Rattle.safe_device.specs.declared.device.TheConstants.{MOST_PENDING}
use Rattle.safe_device.specs.Crash.{LeavesOnly}
use Rattle.safe_device.specs.Left.{Left, Saved, alone, restored, with_calls}
use Rattle.safe_device.specs.Safe.{IsSafe, IsEither, StandsFor, committed}
use Rattle.safe_device.specs.declared.guarded_file.GuardedFile.{GuardedFile}
use Rattle.safe_device.specs.declared.journal.Journal.{Journal}
use Rattle.safe_device.specs.declared.journal.PageImage.{PageImage}

pub record DeviceState (P : Type 0) : Type 0 where
  -- both files
  pub pair : P
  -- the pages as they were last written
  pub content : List (List ℕ)
  -- the additions of calls that were noted behind the pages of the last sync
  pub calls : List (List ℕ)
  -- how many pages there are, and how many wait to be written to the file
  pub pages : ℕ
  pub pending : ℕ
  -- how many transfers have failed
  pub failed : ℕ
  -- one failed that changes a file
  pub is_broken : Bool
  -- nothing was written since the last sync
  pub is_synced : Bool

-- the pages of the file, where each that waits was put in its place; of files that are not honest nothing is
-- known but how many pages they have
abbrev pub content_of : Bool → ℕ → List PageImage → List (List ℕ) → List (List ℕ)
content_of true count pending file = restored count pending file
content_of false count pending file = replicate count []

-- no page has an image in the journal, and none was added since it was begun
abbrev pub is_unchanged : Bool → ℕ → List ℕ → ℕ → Bool
is_unchanged begun count [] pages = not begun || count == pages
is_unchanged begun count (page ∷ guarded) pages = false

abbrev pub is_synced : Bool → ℕ → List ℕ → ℕ → List PageImage → Bool
is_synced begun count guarded pages [] = is_unchanged begun count guarded pages
is_synced begun count guarded pages (image ∷ pending) = false

-- what is true of each device
pub record IsSound {P : Type 0} (honest : Bool) (file : P → List (List ℕ)) (journal : P → Option Journal)
    (may_leave : P → Left → Type 0) (safe : GuardedFile P) (count : ℕ) (is_broken : Bool) (room : ℕ) : Type 0 where
  -- there is room for each page that waits
  pub roomy : MOST_PENDING ≤ room
  -- the file has all its pages, and no more until an addition has failed
  pub many : IsTrue honest → count ≤ length (file safe.pair)
  pub whole : IsTrue honest → is_broken ≡ false → length (file safe.pair) ≡ count
  -- until a transfer has failed a crash leaves the pages of the last sync
  pub safe_file : IsTrue honest → is_broken ≡ false → IsSafe file journal may_leave safe

-- the pages of a device, and the calls behind them
abbrev pub held : {P : Type 0} → DeviceState P → Saved
held device = record { pages = device.content; calls = device.calls }

-- the device of a pair: nothing has failed, nothing waits
pub record IsOpened {P : Type 0} (honest : Bool) (file : P → List (List ℕ)) (journal : P → Option Journal) (given : P)
    (device : DeviceState P) : Type 0 where
  pub pair : device.pair ≡ given
  pub content : IsTrue honest → device.content ≡ file given
  pub failed : device.failed ≡ 0
  pub usable : device.is_broken ≡ false
  pub synced : IsTrue device.is_synced
  -- recovery gives what it holds
  pub commits : IsTrue honest → committed file journal given ≡ held device

-- what was written stands in the file, and a crash leaves what it left
pub record IsWrittenOut {P : Type 0} (honest : Bool) (file : P → List (List ℕ)) (journal : P → Option Journal)
    (old new : DeviceState P) : Type 0 where
  pub usable : new.is_broken ≡ false
  pub none : new.pending ≡ 0
  pub failed : new.failed ≡ old.failed
  pub written : IsTrue honest → file new.pair ≡ old.content
  pub commits : IsTrue honest → committed file journal new.pair ≡ committed file journal old.pair

-- A device that is broken asks nothing of its files. Until then a crash at any moment leaves the pages of the
-- last sync, and the calls behind them; and where the call succeeds, they stay those, and the device may be asked
-- more.
pub record StaysCommitted {P : Type 0} (honest : Bool) (file : P → List (List ℕ)) (journal : P → Option Journal)
    (moment : P → ℕ) (left_since : P → ℕ → Left → Type 0) (succeeded : Bool) (old new : DeviceState P) : Type 0 where
  pub broken : IsTrue old.is_broken → (new.pair ≡ old.pair) × IsTrue new.is_broken
  pub any_moment : IsTrue honest → old.is_broken ≡ false
      → LeavesOnly moment left_since old.pair new.pair (StandsFor (committed file journal old.pair))
  pub stays : IsTrue honest → IsTrue succeeded
      → committed file journal new.pair ≡ committed file journal old.pair
  pub usable : IsTrue succeeded → new.is_broken ≡ false

-- A device that is broken asks nothing of its files. Until then a crash at any moment of a sync leaves the pages
-- of the last one with the calls behind them, or the pages that there are now and no call; and where it succeeds,
-- the latter.
pub record Commits {P : Type 0} (honest : Bool) (file : P → List (List ℕ)) (journal : P → Option Journal)
    (moment : P → ℕ) (left_since : P → ℕ → Left → Type 0) (succeeded : Bool) (old new : DeviceState P) : Type 0 where
  pub broken : IsTrue old.is_broken → (new.pair ≡ old.pair) × IsTrue new.is_broken
  pub any_moment : IsTrue honest → old.is_broken ≡ false
      → LeavesOnly moment left_since old.pair new.pair (IsEither (committed file journal old.pair) (alone old.content))
  pub commits : IsTrue honest → IsTrue succeeded → committed file journal new.pair ≡ alone old.content

-- A device that is broken asks nothing of its files. Until then a crash at any moment of a note leaves what was
-- committed, or that with these calls; and where it succeeds, the latter.
pub record Notes {P : Type 0} (honest : Bool) (file : P → List (List ℕ)) (journal : P → Option Journal)
    (moment : P → ℕ) (left_since : P → ℕ → Left → Type 0) (calls : List ℕ) (succeeded : Bool)
    (old new : DeviceState P) : Type 0 where
  pub broken : IsTrue old.is_broken → (new.pair ≡ old.pair) × IsTrue new.is_broken
  pub any_moment : IsTrue honest → old.is_broken ≡ false
      → LeavesOnly moment left_since old.pair new.pair
      (IsEither (committed file journal old.pair) (with_calls calls (committed file journal old.pair)))
  pub commits : IsTrue honest → IsTrue succeeded
      → committed file journal new.pair ≡ with_calls calls (committed file journal old.pair)

-- calls were noted: the device may be asked more, and nothing else has changed
pub record HasNoted {P : Type 0} (honest : Bool) (calls : List ℕ) (old new : DeviceState P) : Type 0 where
  pub usable : new.is_broken ≡ false
  pub synced : IsTrue honest → IsTrue new.is_synced
  pub calls_are : IsTrue honest → new.calls ≡ old.calls ++ calls ∷ []
  pub failed : new.failed ≡ old.failed

-- the device may be asked more, and no calls stand behind its pages
pub record HasEnded {P : Type 0} (honest : Bool) (device : DeviceState P) : Type 0 where
  pub usable : device.is_broken ≡ false
  pub ended : IsTrue honest → device.calls ≡ []

-- a transfer failed, or the device was broken: it is to be opened again
pub record FailsToNote {P : Type 0} (old new : DeviceState P) : Type 0 where
  pub risen : HasRisen old.failed new.failed
  pub broken : IsTrue new.is_broken

-- one more page can wait, and a crash leaves what it left
pub record HasRoom {P : Type 0} (honest : Bool) (file : P → List (List ℕ)) (journal : P → Option Journal)
    (old new : DeviceState P) : Type 0 where
  pub usable : new.is_broken ≡ false
  pub room : new.pending < MOST_PENDING
  pub failed : new.failed ≡ old.failed
  pub commits : IsTrue honest → committed file journal new.pair ≡ committed file journal old.pair
