-- The parts of an entry, and what is read of them.
use Rattle.std.specs.Prelude.{ℕ, ◌≡◌, ◌==◌, ◌&&◌, if◌then◌else◌, List, ◌++◌, Option, Some, None, drop, length}
use Rattle.queue_model.specs.declared.call.Call.{Call}
use Rattle.queue_model.specs.declared.caller.Caller.{Caller}
use Rattle.frames.specs.Little.{eight, eight_at}
use Rattle.frames.specs.Records.{IsFirst}
use Rattle.frames.specs.declared.incoming.Incoming.{Incoming}
use Rattle.frames.specs.declared.incoming.Kind.{Kind}
use Rattle.frames.specs.declared.incoming.Kind.TheVariants as kinds
use Rattle.frames.specs.declared.incoming.Operation.{Operation}
use Rattle.frames.specs.declared.incoming.Operation.TheVariants as operations
use Rattle.call_entries.specs.Entries.{FitsEntry, entry_bytes, moment_of}
use Rattle.call_entries.specs.declared.entry.CallEntry.{CallEntry}
use Rattle.call_entries.specs.declared.reading.Parts.{Parts}

-- the bytes are the parts, one behind the other, and the record is the first behind the moment
pub record IsCutInto (bytes : List ℕ) (p : Parts) : Type 0 where
  pub moment : p.moment ≡ eight_at 0 bytes
  pub is : bytes ≡ eight p.moment ++ (p.request.now ++ (eight p.check ++ p.rest.now))
  pub first : IsFirst (drop 8 bytes) (length p.request.now)

abbrev pub BeginsWithNone : List ℕ → Type 0
BeginsWithNone bytes = (e : CallEntry) (rest : List ℕ) → FitsEntry e → bytes ≡ entry_bytes e ++ rest → ⊥

abbrev pub Cuts : List ℕ → Option Parts → Type 0
Cuts bytes None = BeginsWithNone bytes
Cuts bytes (Some parts) = IsCutInto bytes parts

abbrev pub entry_at : (moment check : ℕ) → Caller → Operation → Option CallEntry
entry_at moment check caller (operations.Call call) =
    if moment_of call == moment then Some (record { caller = caller; call = call; check = check }) else None
entry_at moment check caller (operations.Next after) = None
entry_at moment check caller (operations.Nth place) = None
entry_at moment check caller operations.Save = None
entry_at moment check caller operations.Info = None
entry_at moment check caller (operations.Cancel number) = None
entry_at moment check caller (operations.Reserve id mtype nowait) = None
entry_at moment check caller (operations.Acknowledge id) = None
entry_at moment check caller (operations.Release id) = None

abbrev pub entry_of_kind : (moment check : ℕ) → Caller → Kind → Option CallEntry
entry_of_kind moment check caller (kinds.Request r) =
    if r.number == 0 then entry_at moment check caller r.operation else None
entry_of_kind moment check caller kinds.Gone = None
entry_of_kind moment check caller kinds.Tick = None
entry_of_kind moment check caller kinds.End = None

-- the entry of what was asked for, where it is a call of nobody's at its moment
abbrev pub entry_in : (moment check : ℕ) → Incoming → Option CallEntry
entry_in moment check i = if i.connection == 0 then entry_of_kind moment check i.caller i.kind else None
