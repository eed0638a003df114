-- A server: what it does, one after another, and what it then holds for the relay. docs/PROTOCOL.md.
use Rattle.std.specs.Prelude.{ℕ, ◌≡◌, ◌++◌, Bool, List, [], ◌∷◌}
use Rattle.safe_device.specs.Left.{Left}
use Rattle.durable_desk.specs.Durable.{DurableState}
use Rattle.durable_desk.specs.History.{Commit, Does, Event, HappenAlong, NoneFails}
use Rattle.serving.specs.Told.{note_parts, record_to, told_by}
use Rattle.serving.specs.declared.durability.Durability.{Durability}
use Rattle.serving.specs.declared.note.Note.{Note}

pub record ServerState (P : Type 0) : Type 0 where
  pub desk : DurableState P
  -- the records that clients are to get, and may not have yet
  pub held : List ℕ
  pub durability : Durability

-- what a server does
pub data Deed : Type 0 where
  -- something with its desk, or a commit
  Works : (e : Event) → Deed
  -- a client is told what is no answer of the rules
  Says : (client : ℕ) → (note : Note) → Deed

-- what is told behind each, and nothing else is
abbrev pub said_by : Deed → List ℕ
said_by (Works (Does e)) = told_by e
said_by (Works (Commit told)) = []
said_by (Says client note) = record_to client (note_parts note)

abbrev pub said : List Deed → List ℕ
said [] = []
said (d ∷ ds) = said_by d ++ said ds

-- what is done with the desk
abbrev pub events : List Deed → List Event
events [] = []
events (Works e ∷ ds) = e ∷ events ds
events (Says client note ∷ ds) = events ds

module _ {P : Type 0} (honest : Bool) (moment : P → ℕ) (left_since : P → ℕ → Left → Type 0)
    (may_leave : P → Left → Type 0) where
  -- a server comes from one state to another by what it does, none of which fails: the file and the desk are as these
  -- leave them, and what is held grows by what is told behind each, in this order
  pub record Comes (old new : ServerState P) : Type 0 where
    pub deeds : List Deed
    pub happen : HappenAlong honest moment left_since may_leave (events deeds) old.desk new.desk
    pub none_fails : NoneFails (events deeds)
    pub held : new.held ≡ old.held ++ said deeds
    pub durability : new.durability ≡ old.durability

  -- wherever it came from, it goes on so
  abbrev pub GoesOn : (old new : ServerState P) → Type 0
  GoesOn old new = (first : ServerState P) → Comes first old → Comes first new
