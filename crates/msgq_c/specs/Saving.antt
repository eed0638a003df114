-- A session is saved, transfer by transfer. docs/FORMAT.md, "The journal".
use Rattle.std.specs.Prelude.{ℕ, ◌≡◌, ◌⊎◌, ◌*◌, Bool, true, false, List, length, Option, Some, None}
use Rattle.queue_model.specs.State.{State}
use Rattle.session.specs.Session.{AreItsPages, Holds, pages_of, saved_of}
use Rattle.pair_transfers.specs.Transfers.{Asks, Tells, begins_at, laid_over, none_under_way, written_of}
use Rattle.pair_transfers.specs.declared.save.SaveFault.{SaveFault}
use Rattle.pair_transfers.specs.declared.save.SaveFault.TheVariants.{Device, Pages, NoMemory}
use Rattle.pair_transfers.specs.declared.transfers.Standing.{Standing}
use Rattle.pair_transfers.specs.declared.transfers.Transfer.{Transfer}
use Rattle.pair_transfers.specs.declared.transfers.Transfer.TheVariants.{ReadHead, ReadJournal, ReadPage, WriteHead, WriteImage, WriteEntry, WritePage, CutFile, CutJournal, SyncJournal, SyncFile, Remake, WriteZeros, WriteCalls}
use Rattle.msgq_c.specs.Files.{Of}
use Rattle.msgq_c.specs.Held.{KeptSession}
use Rattle.msgq_c.specs.Keeping.{IsSaved}
use Rattle.msgq_c.specs.declared.codes.TheConstants.{DONE, FAILED, NO_MEMORY}
use Rattle.msgq_c.specs.declared.kept.Kept.{Kept}
use Rattle.msgq_c.specs.declared.saving.Order.{Order}
use Rattle.msgq_c.specs.declared.saving.Stands.{Stands}
use Rattle.msgq_c.specs.declared.saving.TheConstants.{CUT_FILE, CUT_JOURNAL, OVER, READ_FILE, READ_JOURNAL, REMAKE, SYNC_FILE, SYNC_FILE_BYTES, SYNC_JOURNAL, SYNC_JOURNAL_BYTES, WRITE_CALLS, WRITE_FILE, WRITE_JOURNAL, WRITE_ZEROS}

-- ---- its pages, as a save sees them

abbrev pub saved_by : Kept → List (List ℕ)
saved_by k = saved_of k.session

-- it holds a system, and these are all its pages, as they are to be written
pub record Wants (k : Kept) (content : List (List ℕ)) : Type 0 where
  pub system : State
  pub holds : Holds system k.session
  pub its : AreItsPages content k.session
  pub as_many : length content ≡ length (saved_of k.session)

-- a page was told: it holds what it held
pub record Turns (old new : Kept) : Type 0 where
  pub holds : (s : State) → Holds s old.session → Holds s new.session
  pub others : new ≡ record old { session = new.session }

-- ---- transfers

-- while a transfer is asked for, or told, its save stands apart
abbrev pub without : Kept → Kept
without k = record k { transfers = none_under_way }

pub record AsksKept (old new : Kept) (told : Option Transfer) : Type 0 where
  pub after : Kept
  pub asks : Asks saved_by Wants Turns (without old) after old.transfers new.transfers told
  pub new_is : new ≡ record after { transfers = new.transfers }

pub record TellsKept (read : List ℕ) (done : Bool) (old new : Kept) : Type 0 where
  pub after : Kept
  pub done_so : done ≡ true
  pub tells : Tells saved_by Wants (IsSaved true) read (without old) after old.transfers new.transfers
      old.transfers.step
  pub new_is : new ≡ record after { transfers = new.transfers }

-- ---- what C is told

abbrev pub order_at : (kind length at : ℕ) → Order
order_at kind length at = record { kind = kind; length = length; at = at }

abbrev pub order_of : Option Transfer → Order
order_of None = order_at OVER 0 0
order_of (Some ReadHead) = order_at READ_JOURNAL 80 0
order_of (Some (ReadJournal at length)) = order_at READ_JOURNAL length at
order_of (Some (ReadPage page)) = order_at READ_FILE 4096 (page * 4096)
order_of (Some WriteHead) = order_at WRITE_JOURNAL 80 0
order_of (Some (WriteImage at)) = order_at WRITE_JOURNAL 4132 at
order_of (Some (WriteEntry at)) = order_at WRITE_JOURNAL 36 at
order_of (Some (WritePage page)) = order_at WRITE_FILE 4096 (page * 4096)
order_of (Some (CutFile pages)) = order_at CUT_FILE 0 (pages * 4096)
order_of (Some CutJournal) = order_at CUT_JOURNAL 0 0
order_of (Some (SyncJournal true)) = order_at SYNC_JOURNAL 0 0
order_of (Some (SyncJournal false)) = order_at SYNC_JOURNAL_BYTES 0 0
order_of (Some (SyncFile true)) = order_at SYNC_FILE 0 0
order_of (Some (SyncFile false)) = order_at SYNC_FILE_BYTES 0 0
-- behind the word of the entry
order_of (Some (Remake calls)) = order_at REMAKE calls 4
order_of (Some (WriteZeros at zeros)) = order_at WRITE_ZEROS zeros at
order_of (Some (WriteCalls at length)) = order_at WRITE_CALLS length at

abbrev pub fault_code : SaveFault → ℕ
fault_code Device = FAILED
fault_code Pages = FAILED
fault_code NoMemory = NO_MEMORY

abbrev pub standing_of : Stands → List ℕ → Standing
standing_of stands sum =
    record { size = stands.size; end = stands.end; number = stands.number; sum = sum }

abbrev pub BeginsHandle : Standing → ℕ → (old after : KeptSession) → Type 0
BeginsHandle journal = Of (λ old code after.
    (code ≡ DONE) × (after ≡ Some (record old { transfers = begins_at (pages_of old.session) journal old.transfers })))

-- the next transfer was told, and the bytes that are to be written stand first; or there is a fault
pub record HasAsked (order : Order) (room bytes : List ℕ) (code : ℕ) (old : Kept) (after : KeptSession) : Type 0 where
  pub new : Kept
  pub after_is : after ≡ Some new
  pub asked : ((told : Option Transfer) × (code ≡ DONE) × AsksKept old new told × (order ≡ order_of told)
      × (bytes ≡ laid_over (written_of new.transfers new.transfers.step) room))
      ⊎ ((fault : SaveFault) × (code ≡ fault_code fault))

abbrev pub AsksHandle : Order → (room bytes : List ℕ) → ℕ → (old after : KeptSession) → Type 0
AsksHandle order room bytes = Of (λ old code after. HasAsked order room bytes code old after)

-- it was told how a transfer went, or there is a fault
pub record HasTold (read : List ℕ) (done : Bool) (code : ℕ) (old : Kept) (after : KeptSession) : Type 0 where
  pub new : Kept
  pub after_is : after ≡ Some new
  pub told : ((code ≡ DONE) × TellsKept read done old new) ⊎ ((fault : SaveFault) × (code ≡ fault_code fault))

abbrev pub TellsHandle : (read : List ℕ) → Bool → ℕ → (old after : KeptSession) → Type 0
TellsHandle read done = Of (λ old code after. HasTold read done code old after)
