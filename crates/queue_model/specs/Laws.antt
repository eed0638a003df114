-- The laws of the rules and of journals.
-- docs/QUEUES.md, "Journals" and "Order".
use Rattle.std.specs.Prelude.{◌≡◌, ℕ, suc, pos, negsuc, ◌<ℤ◌, List, [], ◌∷◌, ◌++◌, Some, None}
use Rattle.std.specs.List.{All}
use Rattle.queue_model.specs.declared.answer.Answer.TheVariants.{Refused}
use Rattle.queue_model.specs.declared.call.Call.{Call}
use Rattle.queue_model.specs.declared.caller.Caller.{Caller}
use Rattle.queue_model.specs.declared.entry.Entry.{Entry}
use Rattle.queue_model.specs.declared.errno.Errno.{Errno}
use Rattle.queue_model.specs.declared.message.Message.{Message}
use Rattle.queue_model.specs.Journal.{Leads, LeadsAlong, after}
use Rattle.queue_model.specs.Lawful.{IsLawful}
use Rattle.queue_model.specs.Order.{IsFifo}
use Rattle.queue_model.specs.Rules.{outcome}
use Rattle.queue_model.specs.Selection.{selected, IsFirstOfLowest}
use Rattle.queue_model.specs.State.{State}

-- a refusal leaves the system
abbrev pub RefusalsLeave : Type 0
RefusalsLeave = (c : Caller) (call : Call) (s t : State) (e : Errno) → outcome c call s ≡ Some (Refused e, t) → t ≡ s

-- from a lawful system a legal journal leads to a lawful one
abbrev pub KeepsLawful : Type 0
KeepsLawful = (callers : List Caller) (es : List Entry) (s t : State) →
    IsLawful s → LeadsAlong callers es s t → IsLawful t

-- a legal journal and an entry that leads on are a legal journal
abbrev pub Grows : Type 0
Grows = (callers : List Caller) (es : List Entry) (e : Entry) (s t u : State) →
    LeadsAlong callers es s t → Leads callers e t u → LeadsAlong callers (es ++ e ∷ []) s u

-- a legal journal leads to the system after it
abbrev pub IsDetermined : Type 0
IsDetermined = (callers : List Caller) (es : List Entry) (s t : State) →
    LeadsAlong callers es s t → after callers es s ≡ t

-- what a receive of the type -(n + 1) takes
pub record SelectsLowestWithin (n : ℕ) (ms : List Message) : Type 0 where
  -- a message taken is the first of the lowest type in range
  pub taken : (m : Message) → selected (negsuc n) ms ≡ Some m → IsFirstOfLowest (pos (suc n)) ms m
  -- none is taken only where no type is in range
  pub none : selected (negsuc n) ms ≡ None → All (λ (m : Message). pos (suc n) <ℤ m.mtype) ms

abbrev pub SelectsLowest : Type 0
SelectsLowest = (n : ℕ) (ms : List Message) → SelectsLowestWithin n ms

-- from a lawful system a legal journal is first in, first out
abbrev pub KeepsOrder : Type 0
KeepsOrder = (callers : List Caller) (es : List Entry) (s t : State) →
    IsLawful s → LeadsAlong callers es s t → IsFifo callers es s
