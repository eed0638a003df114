-- What the parts of a step do to a turn under way. docs/STEPS.md, "Remove".
use Rattle.std.specs.Prelude.{◌≡◌, ◌≢◌, Bool, true, false, Option, Some, None, IsSome, IsErr, IsOk, Result, Ok, Err}
use Rattle.file_pages.specs.declared.fault.FileFault.{FileFault}
use Rattle.file_pages.specs.declared.fault.FileFault.TheVariants.{Failed}
use Rattle.queue_records.specs.declared.message_entry.MessageEntry.{MessageEntry}
use Rattle.queue_records.specs.declared.record.Record.TheVariants as records
use Rattle.xsi_remove.specs.declared.work.Work.{Work}
use Rattle.xsi_remove.specs.Words.{Progress, Moved, Look, AccessView, HasFound, access_answer, MessageRead, read_of}

-- the same turn with this access, of whose Message this was read
abbrev pub heard_with : Option MessageRead → AccessView → Work → Work
heard_with read a w = record w { turn = record w.turn { read = read }; access = a }

-- what was read before a step of the access, and after it
pub record HearsBy {F : Type 0} (did : Progress F) (a : AccessView) (before after : Option MessageRead) : Type 0 where
  pub quiet : (did ≡ Moved Look → ⊥) → after ≡ before
  pub once : IsSome before → after ≡ before
  pub unanswered : before ≡ None → access_answer a ≡ None → after ≡ None
  pub told : (m : MessageEntry) → did ≡ Moved Look → before ≡ None → HasFound a (Some (records.Message m)) →
      after ≡ Some (read_of m)

-- what was found is no Message
pub record IsNoMessage (a : AccessView) : Type 0 where
  pub answered : access_answer a ≢ None
  pub other : (m : MessageEntry) → HasFound a (Some (records.Message m)) → ⊥

-- the turn is told what its access has found by a step, or that is no Message
pub record Hears {X E : Type 0} (did : Progress FileFault) (result : Result X E) (old new : Work) : Type 0 where
  pub same : new ≡ heard_with new.turn.read old.access old
  pub hears : IsOk result → HearsBy did old.access old.turn.read new.turn.read
  pub err : IsErr result → (did ≡ Moved Look) × (new ≡ old) × (old.turn.read ≡ None)
  pub cause : IsErr result → IsNoMessage old.access

-- what follows is under way, or there is nothing left, or none can be so
abbrev pub LeadsOn : Result Bool FileFault → Option (Option Work) → (old new : Work) → Type 0
LeadsOn (Ok true) next old new = next ≡ Some (Some new)
LeadsOn (Ok false) next old new = (next ≡ Some None) × (new ≡ old)
LeadsOn (Err fault) next old new = (next ≡ None) × (new ≡ old) × (fault ≡ Failed)

abbrev pub is_move : {F : Type 0} → Progress F → Bool
is_move (Moved kind) = true
is_move did = false
