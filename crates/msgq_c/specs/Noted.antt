-- The calls of a session are noted, transfer by transfer. docs/FORMAT.md, "The journal".
use Rattle.std.specs.Prelude.{ℕ, ◌≡◌, ◌⊎◌, ⊤, Bool, true, false, IsTrue, List, [], length, Option, Some}
use Rattle.journal_bytes.specs.Entries.{calls_sum}
use Rattle.pair_transfers.specs.NoteTransfers.{asked_note, begins_note, front_of_note, is_noted, told_note, transfer_of_note}
use Rattle.pair_transfers.specs.declared.save.SaveFault.{SaveFault}
use Rattle.pair_transfers.specs.declared.transfers.Standing.{Standing}
use Rattle.pair_transfers.specs.declared.transfers.Transfer.{Transfer}
use Rattle.pair_transfers.specs.declared.transfers.Transfer.TheVariants as transfer
use Rattle.session.specs.Session.{pages_of}
use Rattle.msgq_c.specs.Files.{Of}
use Rattle.msgq_c.specs.Held.{KeptSession}
use Rattle.msgq_c.specs.Keeping.{noted}
use Rattle.msgq_c.specs.Saving.{fault_code, order_of, standing_of}
use Rattle.msgq_c.specs.declared.codes.TheConstants.{DONE, DUE}
use Rattle.msgq_c.specs.declared.kept.Kept.{Kept}
use Rattle.msgq_c.specs.declared.saving.Order.{Order}
use Rattle.msgq_c.specs.declared.saving.Stands.{Stands}

-- a note of all calls that are to be noted begins; none of them lacked room
pub record BeginsAll (journal : Standing) (old new : Kept) : Type 0 where
  pub whole : IsTrue old.log.is_whole
  pub room : old.lacked_room ≡ true → old.log.bytes ≡ []
  pub new_is : new ≡ record old { noting = begins_note (pages_of old.session) (length old.log.bytes) journal }

-- or the pages are to be saved
abbrev pub BeginsNote : Standing → Bool → (old new : Kept) → Type 0
BeginsNote journal true old new = BeginsAll journal old new
BeginsNote journal false old new = new ≡ old

-- the next transfer was asked for
abbrev pub asked_with : Option Transfer → (old new : Kept) → Type 0
asked_with told old new =
    (new ≡ record old { noting = asked_note old.noting }) × (told ≡ transfer_of_note new.noting)

-- ---- what is written with the calls

pub record IsSpelled (k : Kept) (front before back behind : List ℕ) : Type 0 where
  pub front_is : before ≡ front_of_note k.noting k.log.bytes front
  pub back_is : behind ≡ calls_sum k.noting.journal.sum k.log.bytes

abbrev pub HasSpelled : Option Transfer → Kept → (front before back behind : List ℕ) → Type 0
HasSpelled (Some (transfer.WriteCalls at length)) k front before back behind =
    IsSpelled k front before back behind
HasSpelled told k front before back behind = ⊤

-- ---- what C is told

-- a note begins, or the pages are to be saved
pub record HasBegunNote (journal : Standing) (code : ℕ) (old : Kept) (after : KeptSession) : Type 0 where
  pub new : Kept
  pub after_is : after ≡ Some new
  pub begun : ((code ≡ DONE) × BeginsAll journal old new) ⊎ ((code ≡ DUE) × (new ≡ old))

abbrev pub BeginsNoteOf : Standing → ℕ → (old after : KeptSession) → Type 0
BeginsNoteOf journal = Of (λ old code after. HasBegunNote journal code old after)

-- the next transfer was told, or there is a fault
pub record HasAskedNote (order : Order) (front before back behind : List ℕ) (code : ℕ) (old : Kept)
    (after : KeptSession) : Type 0 where
  pub new : Kept
  pub after_is : after ≡ Some new
  pub asked : ((told : Option Transfer) × (code ≡ DONE) × asked_with told old new × (order ≡ order_of told)
      × HasSpelled told new front before back behind)
      ⊎ ((fault : SaveFault) × (code ≡ fault_code fault))

abbrev pub AsksNote : Order → (front before back behind : List ℕ) → ℕ → (old after : KeptSession) → Type 0
AsksNote order front before back behind =
    Of (λ old code after. HasAskedNote order front before back behind code old after)

-- behind the last transfer no call is left to be noted
abbrev pub behind_told : Bool → Kept → Kept
behind_told true k = noted k
behind_told false k = k

abbrev after_told : (read : List ℕ) → Kept → Kept
after_told read k = record k { noting = told_note read k.log.bytes k.noting }

pub record TellsNote (read : List ℕ) (done : Bool) (old new : Kept) : Type 0 where
  pub done_so : done ≡ true
  pub new_is : new ≡ behind_told (is_noted (told_note read old.log.bytes old.noting).note.place) (after_told read old)

-- it was told how a transfer went, or there is a fault
pub record HasToldNote (read : List ℕ) (done : Bool) (code : ℕ) (old : Kept) (after : KeptSession) : Type 0 where
  pub new : Kept
  pub after_is : after ≡ Some new
  pub told : ((code ≡ DONE) × TellsNote read done old new) ⊎ ((fault : SaveFault) × (code ≡ fault_code fault))

abbrev pub TellsNoteOf : (read : List ℕ) → Bool → ℕ → (old after : KeptSession) → Type 0
TellsNoteOf read done = Of (λ old code after. HasToldNote read done code old after)

-- what is known of the journal
abbrev pub StandsOfNote : Stands → (sum : List ℕ) → ℕ → (old after : KeptSession) → Type 0
StandsOfNote stands sum = Of (λ old code after.
    (code ≡ DONE) × (after ≡ Some old) × (standing_of stands sum ≡ old.noting.journal))
