-- What a guarded file keeps, and what recovery gives.
use Rattle.std.specs.Prelude.{◌≡◌, ◌⊎◌, ℕ, ◌≤◌, ◌<◌, Bool, true, false, List, [], map, length, Option, Some, None, if◌then◌else◌, ⊤}
use Rattle.std.specs.List.{All}
use Rattle.safe_device.specs.declared.journal.Journal.{Journal}
use Rattle.safe_device.specs.declared.journal.PageImage.{PageImage}
use Rattle.safe_device.specs.declared.guarded_file.GuardedFile.{GuardedFile}
use Rattle.safe_device.specs.Left.{Left, Saved, calls_of, recovered, recovered_by}

-- the numbers of the pages that have images
abbrev pub numbers : List PageImage → List ℕ
numbers images = map (λ (image : PageImage). image.page) images

-- there is a journal where a session is under way, or calls were noted; which pages have images in it is known
abbrev pub IsSession : Bool → ℕ → List ℕ → List (List ℕ) → Option Journal → Type 0
IsSession begun count guarded pages None = (begun ≡ false) × (guarded ≡ [])
IsSession begun count guarded pages (Some journal) =
    (begun ≡ true) × (count ≡ journal.count) × (guarded ≡ numbers journal.images) × (count ≤ length pages)

-- nothing was written since the last sync: no page has an image, and there are as many
abbrev pub IsUnchanged : Bool → ℕ → List ℕ → ℕ → Type 0
IsUnchanged begun count guarded pages = (guarded ≡ []) × (begun ≡ true → count ≡ pages)

-- how many pages there were when the session began, or are now where none has begun
abbrev pub first_count : Bool → ℕ → List (List ℕ) → ℕ
first_count begun count pages = if begun then count else length pages

-- it has calls of these pages, and nothing to put back
pub record HasCallsAlone (journal : Journal) (pages : List (List ℕ)) : Type 0 where
  pub some : 1 ≤ length journal.calls
  pub whole : journal.count ≡ length pages
  pub no_image : journal.images ≡ []

-- there is no journal, or one of calls alone
abbrev pub IsResting : Option Journal → List (List ℕ) → Type 0
IsResting None pages = ⊤
IsResting (Some journal) pages = HasCallsAlone journal pages

module _ {P : Type 0} (file : P → List (List ℕ)) (journal : P → Option Journal) where
  -- the pages at the last sync that is done, and the calls that were noted since: recovery gives them
  abbrev pub committed : P → Saved
  committed pair = recovered_by (journal pair) (file pair)

  -- each outcome of a crash has the journal that a reader finds, and stands for what was committed
  pub record IsSafe (may_leave : P → Left → Type 0) (safe : GuardedFile P) : Type 0 where
    pub journal_kept : (c : Left) → may_leave safe.pair c → c.journal ≡ journal safe.pair
    pub pages_kept : (c : Left) → may_leave safe.pair c → recovered c ≡ committed safe.pair
    pub session : IsSession safe.begun safe.count safe.guarded.items (file safe.pair) (journal safe.pair)

  -- the journal restores nothing, and a crash leaves what a read returns
  pub record IsAtRest (may_leave : P → Left → Type 0) (pair : P) : Type 0 where
    pub rests : IsResting (journal pair) (file pair)
    pub same_journal : (c : Left) → may_leave pair c → c.journal ≡ journal pair
    pub same_file : (c : Left) → may_leave pair c → c.file ≡ file pair

  -- the files hold what was committed, and restore nothing
  pub record Holds (saved : Saved) (pair : P) : Type 0 where
    pub pages : file pair ≡ saved.pages
    pub calls : calls_of (journal pair) ≡ saved.calls

-- recovery gives this
abbrev pub StandsFor : Saved → Left → Type 0
StandsFor saved left = recovered left ≡ saved

-- recovery gives the one or the other
abbrev pub IsEither : Saved → Saved → Left → Type 0
IsEither before after left = (recovered left ≡ before) ⊎ (recovered left ≡ after)

-- recovery gives what it gives of something that a crash might have left before
abbrev pub IsLeftBefore : (Left → Type 0) → Left → Type 0
IsLeftBefore might_leave left = (d : Left) × might_leave d × (recovered left ≡ recovered d)

-- recovery gives what it gives of what was found, or of what a crash might have left before
abbrev pub IsFoundOrLeft : Saved → (Left → Type 0) → Left → Type 0
IsFoundOrLeft found might_leave left = (recovered left ≡ found) ⊎ IsLeftBefore might_leave left

-- each outcome of a crash has this journal, and is one of before but for what the journal restores
pub record IsRestoring (journal : Option Journal) (might_leave may_leave : Left → Type 0) : Type 0 where
  pub journal_kept : (c : Left) → may_leave c → c.journal ≡ journal
  pub pages_kept : (c : Left) → may_leave c → IsLeftBefore might_leave c

-- a journal speaks of pages that are there
abbrev pub Fits : Option Journal → List (List ℕ) → Type 0
Fits None pages = ⊥
Fits (Some journal) pages =
    (journal.count ≤ length pages) × All (λ (image : PageImage). image.page < journal.count) journal.images
