-- What is asked of a system by calls, one after the other: what it comes to, and the system that it leaves.
-- docs/QUEUES.md, "Calls"; docs/SHELL.md, "What a command asks".
use Rattle.std.specs.Prelude.{◌≡◌, ◌≢◌, ◌⊎◌, Option, None, Some, Result, Ok, Err}
use Rattle.queue_model.specs.Rules.{outcome}
use Rattle.queue_model.specs.State.{State}
use Rattle.queue_model.specs.declared.answer.Answer.{Answer}
use Rattle.queue_model.specs.declared.answer.Answer.TheVariants as answers
use Rattle.queue_model.specs.declared.call.Call.{Call}
use Rattle.queue_model.specs.declared.caller.Caller.{Caller}
use Rattle.queue_model.specs.declared.errno.Errno.{Errno}

-- where asking ends without a value: at a call that is refused, or at one that is not answered
pub data Halt : Type 0 where
  Refuses : (e : Errno) → Halt
  At : (call : Call) → Halt

-- what asking for a value may come to, and the system that it leaves; or the one in which a call is made that is not
-- answered
abbrev pub Asking : Type 0 → Type 1
Asking A = Result A Halt → State → Type 0

-- one call is refused, or not answered
abbrev pub HaltsAt : Caller → Call → State → Halt → State → Type 0
HaltsAt c call s (Refuses e) t = outcome c call s ≡ Some (answers.Refused e, t)
HaltsAt c call s (At made) t = (made ≡ call) × (t ≡ s)

-- one call: it is answered by a value, or ends the asking
abbrev pub IsAnswered : {A : Type 0} → (A → Answer) → Caller → Call → State → Asking A
IsAnswered of c call s (Ok x) t = outcome c call s ≡ Some (of x, t)
IsAnswered of c call s (Err halt) t = HaltsAt c call s halt t

-- the answer of a call that does not wait, and the system that it leaves; or why there is none
abbrev pub IsAsked : Caller → Call → State → (State → Type 0) → Type 0 → Option Answer → Type 0
IsAsked c call s Stands Lacks (Some answer) =
    (t : State) × (outcome c call s ≡ Some (answer, t)) × Stands t
IsAsked c call s Stands Lacks None = Lacks

-- nothing is asked
abbrev pub IsKnown : {A : Type 0} → A → State → Asking A
IsKnown x s (Ok y) t = (y ≡ x) × (t ≡ s)
IsKnown x s (Err halt) t = ⊥

-- two things, the second where the first has a value, by that and in the system that it leaves
abbrev pub Then : {A B : Type 0} → Asking A → (A → State → Asking B) → Asking B
Then {A} first next (Ok y) t = (x : A) × (u : State) × first (Ok x) u × next x u (Ok y) t
Then {A} first next (Err halt) t =
    first (Err halt) t ⊎ ((x : A) × (u : State) × first (Ok x) u × next x u (Err halt) t)

-- the first; and where that is refused so, the second in its place, in the system that it leaves
abbrev pub Unless : {A : Type 0} → Errno → Asking A → (State → Asking A) → Asking A
Unless e first next came t =
    ((came ≢ Err (Refuses e)) × first came t) ⊎ ((u : State) × first (Err (Refuses e)) u × next u came t)
