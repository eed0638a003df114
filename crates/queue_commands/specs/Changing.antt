-- What `make`, `remove` and `set` ask. docs/SHELL.md, "What a command asks".
use Rattle.std.specs.Prelude.{◌≡◌, ℕ, List, [], ◌∷◌, ◌++◌, Option, None, Ok, Err}
use Rattle.std.specs.Fmt.{decimal}
use Rattle.queue_model.specs.State.{State}
use Rattle.queue_model.specs.declared.call.Call.TheVariants as calls
use Rattle.queue_model.specs.declared.caller.Caller.{Caller}
use Rattle.queue_commands.specs.Asking.{Asking, Then}
use Rattle.queue_commands.specs.Finding.{FindsAs, IsDone, MakesNewAs, SetsAllAs}
use Rattle.queue_commands.specs.declared.queue_name.QueueName.{QueueName}
use Rattle.queue_commands.specs.declared.request.NewQueue.{NewQueue}
use Rattle.queue_commands.specs.declared.request.Setting.{Setting}

-- a queue is made, and its id printed, as a line
abbrev pub IsMade : ℕ → State → Asking (List ℕ)
IsMade id s (Ok text) t = (text ≡ decimal id ++ 10 ∷ []) × (t ≡ s)
IsMade id s (Err halt) t = ⊥

abbrev pub MakesAs : Caller → ℕ → Option ℕ → NewQueue → State → Asking (List ℕ)
MakesAs c moment key new s = Then (MakesNewAs c moment key new s) IsMade

-- the queue is found and removed
abbrev pub RemovesAs : Caller → ℕ → QueueName → State → Asking (List ℕ)
RemovesAs c moment queue s = Then (FindsAs c moment queue None s) (λ id. IsDone c (calls.Remove id))

-- the queue is found and set
abbrev pub SetsAs : Caller → ℕ → Setting → State → Asking (List ℕ)
SetsAs c moment a s = Then (FindsAs c moment a.queue None s) (SetsAllAs c moment a.settings)
