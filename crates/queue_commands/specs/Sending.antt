-- What `send` asks. docs/SHELL.md, "What a command asks".
use Rattle.std.specs.Prelude.{◌≡◌, ℕ, ◌<◌, Bool, true, false, ℤ, List, [], ◌∷◌, ◌++◌, length, take, slice_index_or, Some, Ok, Err}
use Rattle.std.specs.Fmt.{decimal}
use Rattle.queue_model.specs.Rules.{outcome}
use Rattle.queue_model.specs.State.{State}
use Rattle.queue_model.specs.declared.answer.Answer.TheVariants as answers
use Rattle.queue_model.specs.declared.call.Call.{Call}
use Rattle.queue_model.specs.declared.call.Call.TheVariants as calls
use Rattle.queue_model.specs.declared.caller.Caller.{Caller}
use Rattle.queue_commands.specs.Finding.{FindsAs}
use Rattle.queue_commands.specs.Asking.{Asking, Halt, HaltsAt, IsAnswered, Then}
use Rattle.queue_commands.specs.declared.request.Sending.{Sending}

-- the Send of one body, which does not wait
abbrev pub send_call : ℕ → ℤ → ℕ → List ℕ → Call
send_call moment mtype id body =
    calls.Send (record { id = id; mtype = mtype; body = body; nowait = true; moment = moment })

-- one body, and its serial
abbrev pub SendsOneAs : Caller → ℕ → ℤ → ℕ → List ℕ → State → Asking ℕ
SendsOneAs c moment mtype id body s = IsAnswered answers.Sent c (send_call moment mtype id body) s

-- bodies are taken one after the other, and have these serials
abbrev pub AreSent : Caller → (List ℕ → Call) → List (List ℕ) → State → List ℕ → State → Type 0
AreSent c call [] s [] t = t ≡ s
AreSent c call (body ∷ bodies) s (serial ∷ serials) t =
    (u : State) × (outcome c (call body) s ≡ Some (answers.Sent serial, u)) × AreSent c call bodies u serials t
AreSent c call bodies s serials t = ⊥

-- those before the first that is not were taken
pub record HaltsAtOne (c : Caller) (call : List ℕ → Call) (bodies : List (List ℕ)) (s : State) (halt : Halt)
    (t : State) : Type 0 where
  pub place : ℕ
  pub within : place < length bodies
  pub serials : List ℕ
  pub before : State
  pub sent : AreSent c call (take place bodies) s serials before
  pub halts : HaltsAt c (call (slice_index_or bodies place [])) before halt t

-- a line for each serial, or nothing
abbrev pub serials_text : List ℕ → List ℕ
serials_text [] = []
serials_text (serial ∷ serials) = decimal serial ++ 10 ∷ serials_text serials

abbrev pub told_text : Bool → List ℕ → List ℕ
told_text true serials = serials_text serials
told_text false serials = []

-- all bodies, and the text of their serials
abbrev pub SendsAllAs : Caller → (List ℕ → Call) → Bool → List (List ℕ) → State → Asking (List ℕ)
SendsAllAs c call tells bodies s (Ok text) t =
    (serials : List ℕ) × AreSent c call bodies s serials t × (text ≡ told_text tells serials)
SendsAllAs c call tells bodies s (Err halt) t = HaltsAtOne c call bodies s halt t

-- the queue is found, or made, and the bodies are sent to it
abbrev pub SendsAs : Caller → ℕ → Sending → State → Asking (List ℕ)
SendsAs c moment a s = Then (FindsAs c moment a.queue a.create s)
    (λ id u. SendsAllAs c (send_call moment a.mtype id) a.tells a.bodies.items u)
