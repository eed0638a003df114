-- What the exports promise of a handle's session.
use Rattle.std.specs.Prelude.{ℕ, ◌≡◌, Option, Some, None, Result, Ok}
use Rattle.queue_model.specs.declared.answer.Answer.{Answer}
use Rattle.queue_model.specs.declared.call.Call.{Call}
use Rattle.session.specs.declared.unanswered.Unanswered.{Unanswered}
use Rattle.msgq_c.specs.Codes.{code_of}
use Rattle.msgq_c.specs.Held.{KeptSession}
use Rattle.msgq_c.specs.Keeping.{Makes}
use Rattle.msgq_c.specs.declared.codes.TheConstants.{NO_SESSION}
use Rattle.msgq_c.specs.declared.kept.Kept.{Kept}

-- the session makes this call, C is told its number, and of the answer what is told of one
pub record IsServed (call : Call) (Tells : Answer → Type 0) (code : ℕ) (old : Kept) (after : KeptSession)
    : Type 0 where
  pub new : Kept
  pub after_is : after ≡ Some new
  pub result : Result Answer Unanswered
  pub makes : Makes call result old new
  pub code_is : code ≡ code_of result
  pub tells : (answer : Answer) → result ≡ Ok answer → Tells answer

-- what a call comes to on the session of a handle, if it has one
pub record IsMade (call : Call) (result : Result Answer Unanswered) (old : Kept) (after : KeptSession)
    : Type 0 where
  pub new : Kept
  pub after_is : after ≡ Some new
  pub makes : Makes call result old new

abbrev pub Answers : Call → Option (Result Answer Unanswered) → (old after : KeptSession) → Type 0
Answers call None None after = after ≡ None
Answers call None (Some old) after = ⊥
Answers call (Some result) None after = ⊥
Answers call (Some result) (Some old) after = IsMade call result old after

-- where there is none nothing is done
abbrev pub Serves : Call → (Answer → Type 0) → ℕ → (old after : KeptSession) → Type 0
Serves call Tells code None after = (code ≡ NO_SESSION) × (after ≡ None)
Serves call Tells code (Some old) after = IsServed call Tells code old after
