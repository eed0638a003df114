-- Bodies that are sent one after the other.
use Rattle.std.proofs.Common.{◌≡◌, ℕ, Bool, true, false, List, [], ◌∷◌, ◌++◌, Some, Result, Ok, refl, sym, ap, ◌∙◌, subst, append_assoc}
use Rattle.std.specs.Fmt.{decimal}
use Rattle.queue_model.specs.Rules.{outcome}
use Rattle.queue_model.specs.State.{State}
use Rattle.queue_model.specs.declared.call.Call.{Call}
use Rattle.queue_model.specs.declared.caller.Caller.{Caller}
use Rattle.queue_model.specs.declared.answer.Answer.TheVariants as answers
use Rattle.queue_commands.specs.Asking.{IsAnswered}
use Rattle.queue_commands.specs.Coming.{Comes}
use Rattle.queue_commands.specs.Sending.{AreSent, serials_text, told_text}
use Rattle.queue_commands.specs.declared.error.AskError.{AskError}
use Rattle.queue_commands.specs.declared.error.AskError.TheVariants as errors

-- one body more
AreSent-push : (c : Caller) (call : List ℕ → Call) (bodies : List (List ℕ)) (s t u : State) (serials : List ℕ)
    (body : List ℕ) (serial : ℕ) → AreSent c call bodies s serials t →
    outcome c (call body) t ≡ Some (answers.Sent serial, u) →
    AreSent c call (bodies ++ body ∷ []) s (serials ++ serial ∷ []) u
AreSent-push c call [] s t u [] body serial same is =
    (u, subst (λ (v : State). outcome c (call body) v ≡ Some (answers.Sent serial, u)) same is, refl)
AreSent-push c call [] s t u (n ∷ ns) body serial sent is = absurd sent
AreSent-push c call (b ∷ bs) s t u [] body serial sent is = absurd sent
AreSent-push c call (b ∷ bs) s t u (n ∷ ns) body serial (next, first, rest) is =
    (next, first, AreSent-push c call bs next t u ns body serial rest is)

-- one line more
serials_text-push : (serials : List ℕ) (serial : ℕ) →
    serials_text (serials ++ serial ∷ []) ≡ serials_text serials ++ serials_text (serial ∷ [])
serials_text-push [] serial = refl
serials_text-push (n ∷ ns) serial =
    ap (λ text. decimal n ++ 10 ∷ text) (serials_text-push ns serial)
    ∙ sym (append_assoc (decimal n) (10 ∷ serials_text ns) (serials_text (serial ∷ [])))

told_text-push : (tells : Bool) (serials : List ℕ) (serial : ℕ) →
    told_text tells (serials ++ serial ∷ []) ≡ told_text tells serials ++ told_text tells (serial ∷ [])
told_text-push true serials serial = serials_text-push serials serial
told_text-push false serials serial = refl

-- ---- bodies so far

-- bodies were sent, and the system that they left stands
pub record Sent (c : Caller) (call : List ℕ → Call) (tells : Bool) (bodies : List (List ℕ)) (s : State)
    (text : List ℕ) (Stands : State → Type 0) : Type 0 where
  pub serials : List ℕ
  pub system : State
  pub sent : AreSent c call bodies s serials system
  pub printed : text ≡ told_text tells serials
  pub stands : Stands system

told_none : (tells : Bool) → [] ≡ told_text tells []
told_none true = refl
told_none false = refl

module _ (c : Caller) (call : List ℕ → Call) (tells : Bool) (s : State) where
  -- one more was
  pub Sent-push : (bodies : List (List ℕ)) (text more : List ℕ) (Before Stands : State → Type 0)
      (Lacks : Call → State → Type 0) (body : List ℕ) (serial : ℕ) → Sent c call tells bodies s text Before →
      ((u : State) → Before u → Comes Stands Lacks (IsAnswered answers.Sent c (call body) u) (Ok serial)) →
      more ≡ text ++ told_text tells (serial ∷ []) →
      Sent c call tells (bodies ++ body ∷ []) s more Stands
  Sent-push bodies text more Before Stands Lacks body serial before sends is =
      let one = sends before.system before.stands in
      record {
        serials = before.serials ++ serial ∷ [];
        system = one.system;
        sent = AreSent-push c call bodies s before.system one.system before.serials body serial before.sent one.is;
        printed =
            is ∙ ap (λ (t : List ℕ). t ++ told_text tells (serial ∷ [])) before.printed
            ∙ sym (told_text-push tells before.serials serial);
        stands = one.stands;
      }

-- ---- by each caller, from each system that stood first

-- the bodies were sent
abbrev pub SendsOn : (List ℕ → Call) → Bool → List (List ℕ) → List ℕ → (First Stands : Caller → State → Type 0) → Type 0
SendsOn call tells bodies text First Stands =
    (a : Caller) (s : State) → First a s → Sent a call tells bodies s text (Stands a)

-- what comes of the Send of one
abbrev pub Sends : (List ℕ → Call) → List ℕ → (Before Stands : Caller → State → Type 0) →
    (Caller → Call → State → Type 0) → Result ℕ AskError → Type 0
Sends call body Before Stands Lacks came = (a : Caller) (u : State) → Before a u →
    Comes (Stands a) (Lacks a) (IsAnswered answers.Sent a (call body) u) came

module _ (call : List ℕ → Call) (tells : Bool) (bodies : List (List ℕ)) (text : List ℕ)
    (First Before Stands : Caller → State → Type 0) (Lacks : Caller → Call → State → Type 0) where
  pub SendsOn-push : (body more : List ℕ) (serial : ℕ) → SendsOn call tells bodies text First Before →
      Sends call body Before Stands Lacks (Ok serial) → more ≡ text ++ told_text tells (serial ∷ []) →
      SendsOn call tells (bodies ++ body ∷ []) more First Stands
  SendsOn-push body more serial before sends is a s first =
      Sent-push a call tells s bodies text more (Before a) (Stands a) (Lacks a) body serial (before a s first)
      (sends a) is
