-- What `receive` asks. docs/SHELL.md, "What a command asks".
use Rattle.std.specs.Prelude.{◌≡◌, ◌≢◌, ◌⊎◌, ℕ, ◌<◌, ◌≤◌, Bool, true, false, List, [], ◌∷◌, ◌++◌, length, Option, None, Some, Result, Ok, Err, ⊤}
use Rattle.std.specs.Fmt.{decimal, signed_decimal}
use Rattle.queue_model.specs.Rules.{outcome}
use Rattle.queue_model.specs.State.{State}
use Rattle.queue_model.specs.declared.answer.Answer.TheVariants as answers
use Rattle.queue_model.specs.declared.call.Call.{Call}
use Rattle.queue_model.specs.declared.call.Call.TheVariants as calls
use Rattle.queue_model.specs.declared.caller.Caller.{Caller}
use Rattle.queue_model.specs.declared.errno.Errno.TheVariants.{ENOMSG}
use Rattle.queue_model.specs.declared.message.Message.{Message}
use Rattle.queue_commands.specs.Finding.{FindsAs}
use Rattle.queue_commands.specs.Asking.{Asking, Halt, HaltsAt, IsAnswered, Refuses, Then}
use Rattle.queue_commands.specs.declared.error.AskError.{AskError}
use Rattle.queue_commands.specs.declared.error.AskError.TheVariants as errors
use Rattle.queue_commands.specs.declared.request.Receiving.{Receiving}

-- the Receive of one message, which does not wait
abbrev pub receive_call : ℕ → Receiving → ℕ → Call
receive_call moment a id = calls.Receive (record {
  id = id;
  size = a.size;
  mtype = a.mtype;
  nowait = true;
  noerror = a.noerror;
  moment = moment;
})

-- one message
abbrev pub TakesAs : Caller → ℕ → Receiving → ℕ → State → Asking Message
TakesAs c moment a id s = IsAnswered answers.Received c (receive_call moment a id) s

-- the same call is made again and again, and gives these messages
abbrev pub AreTaken : Caller → Call → State → List Message → State → Type 0
AreTaken c call s [] t = t ≡ s
AreTaken c call s (m ∷ ms) t =
    (u : State) × (outcome c call s ≡ Some (answers.Received m, u)) × AreTaken c call u ms t

-- as many as were asked for; or fewer, of which there is one, and no message is left
abbrev pub AreAll : Caller → Call → ℕ → List Message → State → State → Type 0
AreAll c call most ms left t =
    ((length ms ≡ most) × (t ≡ left))
    ⊎ ((0 < length ms) × (outcome c call left ≡ Some (answers.Refused ENOMSG, t)))

-- serial, sender, type and length of a message, with a space (32) between each two, and an LF (10)
abbrev pub head_text : Message → List ℕ
head_text m = decimal m.serial ++ 32 ∷ decimal m.sender ++ 32 ∷ signed_decimal m.mtype ++ 32
    ∷ decimal (length m.bytes) ++ 10 ∷ []

-- the bytes of a message as they are, with that line before them or without
abbrev pub shown_text : Bool → Message → List ℕ
shown_text true m = head_text m ++ m.bytes
shown_text false m = m.bytes

abbrev pub shown_texts : Bool → List Message → List ℕ
shown_texts heads [] = []
shown_texts heads (m ∷ ms) = shown_text heads m ++ shown_texts heads ms

-- messages were taken, and their text is printed
pub record IsTaken (c : Caller) (call : Call) (a : Receiving) (s : State) (text : List ℕ) (t : State) : Type 0 where
  pub messages : List Message
  pub left : State
  pub taken : AreTaken c call s messages left
  pub few : length messages ≤ a.most
  pub all : AreAll c call a.most messages left t
  pub printed : text ≡ shown_texts a.heads messages

-- one is not; that there is none left is no refusal once one was taken
pub record HaltsAfter (c : Caller) (call : Call) (a : Receiving) (s : State) (halt : Halt) (t : State)
    : Type 0 where
  pub messages : List Message
  pub left : State
  pub taken : AreTaken c call s messages left
  pub few : length messages < a.most
  pub halts : HaltsAt c call left halt t
  pub first : halt ≡ Refuses ENOMSG → messages ≡ []

abbrev pub TakesAllAs : Caller → Call → Receiving → State → Asking (List ℕ)
TakesAllAs c call a s (Ok text) t = IsTaken c call a s text t
TakesAllAs c call a s (Err halt) t = HaltsAfter c call a s halt t

-- a message is the one of this serial, and its text is printed; or another, which is refused
abbrev pub IsTheOne : ℕ → Bool → Message → State → Asking (List ℕ)
IsTheOne serial heads m s (Ok text) t = (m.serial ≡ serial) × (text ≡ shown_text heads m) × (t ≡ s)
IsTheOne serial heads m s (Err halt) t = (m.serial ≢ serial) × (halt ≡ Refuses ENOMSG) × (t ≡ s)

-- so, or there is no memory for the text
abbrev pub ShowsTheOne : ℕ → Bool → Message → Result (List ℕ) AskError → Type 0
ShowsTheOne serial heads m (Ok text) = (m.serial ≡ serial) × (text ≡ shown_text heads m)
ShowsTheOne serial heads m (Err (errors.Refused e)) = (m.serial ≢ serial) × (e ≡ ENOMSG)
ShowsTheOne serial heads m (Err errors.Unanswered) = ⊥
ShowsTheOne serial heads m (Err errors.NoMemory) = ⊤

-- the one message of a serial, or as many as may be
abbrev pub TakesFrom : Caller → ℕ → Receiving → Option ℕ → ℕ → State → Asking (List ℕ)
TakesFrom c moment a (Some serial) id s = Then (TakesAs c moment a id s) (IsTheOne serial a.heads)
TakesFrom c moment a None id s = TakesAllAs c (receive_call moment a id) a s

-- the queue is found, and messages are received from it
abbrev pub ReceivesAs : Caller → ℕ → Receiving → State → Asking (List ℕ)
ReceivesAs c moment a s = Then (FindsAs c moment a.queue None s) (TakesFrom c moment a a.serial)
