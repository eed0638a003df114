-- Calls are written down as they are made. docs/FORMAT.md, "Calls".
use Rattle.std.specs.Prelude.{ℕ, ◌≡◌, Bool, true, false, if◌then◌else◌, IsTrue, List, [], ◌++◌, Option, Some, None}
use Rattle.queue_model.specs.declared.answer.Answer.{Answer}
use Rattle.queue_model.specs.declared.call.Call.{Call}
use Rattle.queue_model.specs.declared.caller.Caller.{Caller}
use Rattle.frames.specs.Little.{eight}
use Rattle.call_entries.specs.Entries.{check_of, entries_of, front, is_refusal, may_change, spelled}

pub record LogState : Type 0 where
  -- the entries, one behind the other
  pub bytes : List ℕ
  -- a call is under way that may change the system, and is written down but for its answer
  pub is_begun : Bool
  pub begun : List ℕ
  -- no entry is left out
  pub is_whole : Bool

abbrev pub empty : LogState
empty = record { bytes = []; is_begun = false; begun = []; is_whole = true }

-- these bytes stand behind the others, where none are left out
pub record Notes (noted : List ℕ) (old new : LogState) : Type 0 where
  pub whole : IsTrue new.is_whole → IsTrue old.is_whole
  pub bytes : IsTrue new.is_whole → new.bytes ≡ old.bytes ++ noted

-- a call is written down that is about to be made
pub record Begins (caller : Caller) (call : Call) (old new : LogState) : Type 0 where
  pub notes : Notes [] old new
  pub begun : IsTrue new.is_whole → new.is_begun ≡ may_change call
  pub front_is : IsTrue new.is_whole → IsTrue new.is_begun → new.begun ≡ front caller call

-- what its answer adds to the entries, where it has one
abbrev pub ended : (begun : Bool) → List ℕ → Option Answer → List ℕ
ended false front answer = []
ended true front None = []
ended true front (Some answer) = if is_refusal answer then [] else front ++ eight (check_of answer)

abbrev pub Ends : Option Answer → (old new : LogState) → Type 0
Ends answer old new = Notes (ended old.is_begun old.begun answer) old new

-- what all of it adds
abbrev pub noted : Caller → Call → Option Answer → List ℕ
noted caller call None = []
noted caller call (Some answer) = spelled (entries_of caller call answer)
