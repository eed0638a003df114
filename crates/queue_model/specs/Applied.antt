-- What `apply` answers.
-- docs/QUEUES.md, "Calls".
use Rattle.std.specs.Prelude.{◌≡◌, Some, None, Result, Ok, Err, IsSomeAnd}
use Rattle.queue_model.specs.declared.answer.Answer.TheVariants.{Refused}
use Rattle.queue_model.specs.declared.errno.Errno.{Errno}
use Rattle.queue_model.specs.declared.system.Applied.{Applied}
use Rattle.queue_model.specs.declared.system.Applied.TheVariants.{Answer, Waits, NoMemory}
use Rattle.queue_model.specs.State.{State}
use Rattle.queue_model.specs.Rules.{Outcome, AddsTo}

-- memory is wanting only where the outcome adds to the system, and nothing changes
pub record IsOutOfMemory (out : Outcome) (old new : State) : Type 0 where
  pub adds : IsSomeAnd out (λ o. AddsTo old o.0)
  pub same : new ≡ old

-- the answer and the new system are the outcome; a call that waits has none
abbrev pub Meets : Applied → Outcome → State → State → Type 0
Meets (Answer a) out old new = out ≡ Some (a, new)
Meets Waits out old new = (out ≡ None) × (new ≡ old)
Meets NoMemory out old new = IsOutOfMemory out old new

-- a refusal is an answer too
abbrev pub applied_of : Result Applied Errno → Applied
applied_of (Ok applied) = applied
applied_of (Err errno) = Answer (Refused errno)
