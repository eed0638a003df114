-- What a call is told of the records of a system.
-- docs/STEPS.md, "What a call reads".
use Rattle.std.specs.Prelude.{◌≡◌, ℕ, nat_lt, Bool, Option, Some, None, Result, Ok, Err, ⊤}
use Rattle.type_chains.specs.bucket_page.declared.record_key.RecordKey.{RecordKey}
use Rattle.queue_model.specs.declared.call.Call.{Call}
use Rattle.queue_model.specs.declared.call.Call.TheVariants.{Get, Send, Receive, Stat, Set, Remove}
use Rattle.queue_model.specs.Lawful.{IsLawful}
use Rattle.queue_model.specs.State.{State}
use Rattle.type_chains.specs.queue_records.declared.record.Record.{Record}
use Rattle.type_chains.specs.Fits.{HasFittingNumbers}
use Rattle.type_chains.specs.RecordOf.{record_of}
use Rattle.xsi_inquiry.specs.declared.wanted.Wanted.{Wanted}
use Rattle.xsi_inquiry.specs.declared.wanted.Wanted.TheVariants.{At, Given}

-- a system that records can spell
pub record IsFiled (s : State) : Type 0 where
  pub lawful : IsLawful s
  pub fits : HasFittingNumbers s

-- it asks for a record, or whether an id was given out
abbrev pub AsksRecord : Option Wanted → Type 0
AsksRecord None = ⊥
AsksRecord (Some (At key)) = ⊤
AsksRecord (Some (Given id)) = ⊥

abbrev pub AsksGiven : Option Wanted → Type 0
AsksGiven None = ⊥
AsksGiven (Some (At key)) = ⊥
AsksGiven (Some (Given id)) = ⊤

-- what was found at the key that was asked for is what the system has there
abbrev pub IsTold : State → Option Wanted → Option Record → Type 0
IsTold s wanted found = (key : RecordKey) → wanted ≡ Some (At key) → found ≡ record_of s key

-- the id that was asked for was given out exactly so
abbrev pub IsToldGiven : State → Option Wanted → Bool → Type 0
IsToldGiven s wanted given = (id : ℕ) → wanted ≡ Some (Given id) → given ≡ nat_lt id s.next_id

-- it succeeds, with a value of which this is so
abbrev pub Gives : {T E : Type 0} → Result T E → (T → Type 0) → Type 0
Gives (Ok value) IsSo = IsSo value
Gives (Err e) IsSo = ⊥

-- a call asks at most as many questions: a Send its Queue, its Type, and the Types of as many as stand on a queue
abbrev pub most_asked : Call → ℕ
most_asked (Get a) = 2
most_asked (Send a) = 1027
most_asked (Receive a) = 3
most_asked (Stat id) = 2
most_asked (Set a) = 2
most_asked (Remove id) = 4
