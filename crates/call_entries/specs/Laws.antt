-- What the bytes of calls stand for. docs/FORMAT.md, "Calls".
use Rattle.std.specs.Prelude.{ℕ, ◌≡◌, List, ◌++◌}
use Rattle.queue_model.specs.State.{State}
use Rattle.call_entries.specs.Entries.{FitsEntry, LeadsBy, entry_bytes}
use Rattle.call_entries.specs.declared.entry.CallEntry.{CallEntry}

-- bytes begin with at most one entry
abbrev pub AreOfOneCall : Type 0
AreOfOneCall = (a b : CallEntry) (behind after : List ℕ) → FitsEntry a → FitsEntry b →
    entry_bytes a ++ behind ≡ entry_bytes b ++ after → (a ≡ b) × (behind ≡ after)

abbrev pub LeadToOneSystem : Type 0
LeadToOneSystem = (es : List CallEntry) (s t u : State) → LeadsBy es s t → LeadsBy es s u → t ≡ u
