-- What the exports promise that open, read, stop and close a session.
use Rattle.std.specs.Prelude.{ℕ, ◌≡◌, ◌≤◌, ◌/◌, ◌⊎◌, List, [], false, Option, Some, None, Result, Ok, Err, length}
use Rattle.page_device.specs.declared.page.TheConstants.{PAGE_BYTES}
use Rattle.queue_model.specs.declared.caller.Caller.{Caller}
use Rattle.call_entries.specs.Log.{empty}
use Rattle.pair_transfers.specs.NoteTransfers.{notes_over}
use Rattle.pair_transfers.specs.Transfers.{none_under_way}
use Rattle.session.specs.Words.{IsFaultNumber, OpenFault, open_number_of}
use Rattle.session.specs.Session.{GivesPage, Opens, OpensNew, SessionState, Stops, pages_in, pages_of}
use Rattle.msgq_c.specs.Held.{KeptSession}
use Rattle.msgq_c.specs.Keeping.{AreNotes, MakesAll}
use Rattle.msgq_c.specs.declared.codes.TheConstants.{DONE, DUE, FAILED, FOREIGN, IN_USE, NO_MEMORY, NO_PAGE, NO_SESSION}
use Rattle.msgq_c.specs.declared.files.Owner.{Owner}
use Rattle.msgq_c.specs.declared.kept.Kept.{Kept}

abbrev pub caller_of : Owner → Caller
caller_of owner = record { pid = owner.pid; uid = owner.uid; gid = owner.gid }

-- a session for a caller, of which nothing is to be noted
abbrev pub fresh : Caller → SessionState → Kept
fresh caller k = record {
  session = k;
  caller = caller;
  log = empty;
  lacked_room = false;
  transfers = none_under_way;
  noting = notes_over;
}

-- what came of opening is put into a handle that has none, or a number says why not
abbrev pub IsKept : Caller → Result SessionState OpenFault → ℕ → (after : KeptSession) → Type 0
IsKept caller (Ok k) code after =
    ((code ≡ DONE) × (after ≡ Some (fresh caller k))) ⊎ ((code ≡ NO_MEMORY) × (after ≡ None))
IsKept caller (Err fault) code after = (code ≡ open_number_of fault) × (after ≡ None)

-- a session that this is so of, whose calls are this caller's, and of which nothing is to be noted
pub record IsFor (Is : SessionState → Type 0) (caller : Caller) (k : Kept) : Type 0 where
  pub is : Is k.session
  pub fresh_is : k ≡ fresh caller k.session

-- a session that this is so of is in the handle, or the number of a fault says why there is none
pub record HasOpened (Is : Kept → Type 0) (code : ℕ) (after : KeptSession) : Type 0 where
  pub kept : code ≡ DONE → (k : Kept) × (after ≡ Some k) × Is k
  pub refused : (code ≡ DONE → ⊥) → after ≡ None
  pub fault : (code ≡ DONE → ⊥) → IsFaultNumber code

-- a handle that has a session keeps it
abbrev pub Keeps : (Kept → Type 0) → ℕ → (old after : KeptSession) → Type 0
Keeps Is code None after = HasOpened Is code after
Keeps Is code (Some old) after = (code ≡ IN_USE) × (after ≡ Some old)

abbrev pub OpensHandle : Owner → List ℕ → ℕ → (old after : KeptSession) → Type 0
OpensHandle owner bytes =
    Keeps (IsFor (Opens (caller_of owner) (pages_in (length bytes / PAGE_BYTES) bytes)) (caller_of owner))

abbrev pub Creates : Owner → (pages : ℕ) → ℕ → (old after : KeptSession) → Type 0
Creates owner pages = Keeps (IsFor (OpensNew (caller_of owner) pages) (caller_of owner))

-- no file has so many pages
abbrev pub HasNoSuchSize : ℕ → (old after : KeptSession) → Type 0
HasNoSuchSize code None after = (code ≡ NO_PAGE) × (after ≡ None)
HasNoSuchSize code (Some old) after = (code ≡ IN_USE) × (after ≡ Some old)

-- a handle that has no session is told so, and stays
abbrev pub Of : (Kept → ℕ → KeptSession → Type 0) → ℕ → (old after : KeptSession) → Type 0
Of Does code None after = (code ≡ NO_SESSION) × (after ≡ None)
Of Does code (Some old) after = Does old code after

abbrev pub Counts : (pages : ℕ) → ℕ → (old after : KeptSession) → Type 0
Counts pages = Of (λ old code after. (code ≡ DONE) × (after ≡ Some old) × (pages ≡ pages_of old.session))

-- what a page was copied from
abbrev pub Copied : List ℕ → Option (List ℕ) → ℕ → Type 0
Copied into (Some bytes) code = (code ≡ DONE) × (into ≡ bytes)
Copied into None code = code ≡ FAILED

pub record IsCopied (page : ℕ) (into : List ℕ) (code : ℕ) (old : Kept) (after : KeptSession) : Type 0 where
  pub new : SessionState
  pub after_is : after ≡ Some (record old { session = new })
  pub given : Option (List ℕ)
  pub gives : GivesPage page given old.session new
  pub copied : Copied into given code

-- there is no such page
pub record IsPastEnd (page code : ℕ) (old : Kept) (after : KeptSession) : Type 0 where
  pub past : pages_of old.session ≤ page
  pub code_is : code ≡ NO_PAGE
  pub after_is : after ≡ Some old

abbrev pub CopiesPage : ℕ → (into : List ℕ) → ℕ → (old after : KeptSession) → Type 0
CopiesPage page into = Of (λ old code after. IsPastEnd page code old after ⊎ IsCopied page into code old after)

-- the entries of the calls that are to be noted were copied, or the pages are to be saved
abbrev pub Copies : (count : ℕ) → (into : List ℕ) → ℕ → Kept → Type 0
Copies count into code k = ((code ≡ DONE) × AreNotes into count k) ⊎ (code ≡ DUE)

abbrev pub CopiesHandle : (count : ℕ) → (into : List ℕ) → ℕ → (old after : KeptSession) → Type 0
CopiesHandle count into = Of (λ old code after. Copies count into code old × (after ≡ Some old))

-- the calls of an addition were made again
pub record HasRemade (calls : List ℕ) (code : ℕ) (old : Kept) (after : KeptSession) : Type 0 where
  pub code_is : code ≡ DONE
  pub new : Kept
  pub after_is : after ≡ Some new
  pub makes : MakesAll calls [] old new

-- or the session was let go: one of them was not answered as it was, or there was no memory
pub record HasNotRemade (code : ℕ) (after : KeptSession) : Type 0 where
  pub told : (code ≡ FOREIGN) ⊎ (code ≡ NO_MEMORY)
  pub after_is : after ≡ None

abbrev pub RemakesHandle : List ℕ → ℕ → (old after : KeptSession) → Type 0
RemakesHandle calls = Of (λ old code after. HasRemade calls code old after ⊎ HasNotRemade code after)

-- it is stopped
pub record IsStopped (code : ℕ) (old : Kept) (after : KeptSession) : Type 0 where
  pub code_is : code ≡ DONE
  pub new : SessionState
  pub after_is : after ≡ Some (record old { session = new })
  pub stops : Stops old.session new

abbrev pub StopsHandle : ℕ → (old after : KeptSession) → Type 0
StopsHandle = Of (λ old code after. IsStopped code old after)

abbrev pub Closes : ℕ → (old after : KeptSession) → Type 0
Closes = Of (λ old code after. (code ≡ DONE) × (after ≡ None))
