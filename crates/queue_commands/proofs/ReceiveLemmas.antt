-- Messages that are received one after the other.
use Rattle.std.proofs.Common.{◌≡◌, ℕ, ◌<◌, ◌+◌, inl, inr, Bool, List, [], ◌∷◌, ◌++◌, length, Some, Result, Ok, Err, refl, sym, ap, ◌∙◌, subst, append_assoc, append-nil, length-append, arith}
use Rattle.queue_model.specs.Rules.{outcome}
use Rattle.queue_model.specs.State.{State}
use Rattle.queue_model.specs.declared.call.Call.{Call}
use Rattle.queue_model.specs.declared.caller.Caller.{Caller}
use Rattle.queue_model.specs.declared.answer.Answer.TheVariants as answers
use Rattle.queue_model.specs.declared.errno.Errno.{Errno}
use Rattle.queue_model.specs.declared.errno.Errno.TheVariants.{ENOMSG}
use Rattle.queue_model.specs.declared.message.Message.{Message}
use Rattle.queue_commands.specs.Asking.{IsAnswered, Refuses}
use Rattle.queue_commands.specs.Coming.{Comes}
use Rattle.queue_commands.specs.Receiving.{AreTaken, TakesAllAs, shown_text, shown_texts}
use Rattle.queue_commands.specs.declared.error.AskError.{AskError}
use Rattle.queue_commands.specs.declared.error.AskError.TheVariants as errors
use Rattle.queue_commands.specs.declared.request.Receiving.{Receiving}
use Rattle.queue_commands.proofs.TableLemmas.{put-then}

-- one message more
AreTaken-push : (c : Caller) (call : Call) (s t u : State) (ms : List Message) (m : Message) →
    AreTaken c call s ms t → outcome c call t ≡ Some (answers.Received m, u) →
    AreTaken c call s (ms ++ m ∷ []) u
AreTaken-push c call s t u [] m same is =
    (u, subst (λ (v : State). outcome c call v ≡ Some (answers.Received m, u)) same is, refl)
AreTaken-push c call s t u (n ∷ ns) m (next, first, rest) is =
    (next, first, AreTaken-push c call next t u ns m rest is)

shown_texts-push : (heads : Bool) (ms : List Message) (m : Message) →
    shown_texts heads (ms ++ m ∷ []) ≡ shown_texts heads ms ++ shown_text heads m
shown_texts-push heads [] m = append-nil (shown_text heads m)
shown_texts-push heads (n ∷ ns) m =
    ap (λ text. shown_text heads n ++ text) (shown_texts-push heads ns m)
    ∙ sym (append_assoc (shown_text heads n) (shown_texts heads ns) (shown_text heads m))

same_errno : (e : Errno) → Refuses e ≡ Refuses ENOMSG → e ≡ ENOMSG
same_errno e is = cc

no_message : (ms : List Message) → length ms ≡ 0 → ms ≡ []
no_message [] is = refl
no_message (m ∷ ms) is = absurd (omega (arith, is))

-- ---- a line of four pieces

-- a piece with a space (32) behind it, and then another
spaced : (a b c xs ys : List ℕ) → b ≡ a ++ xs ++ 32 ∷ [] → c ≡ b ++ ys → c ≡ a ++ (xs ++ 32 ∷ ys)
spaced a b c xs ys first second =
    put-then a b c _ ys (first ∙ append_assoc a xs (32 ∷ [])) second
    ∙ ap (λ l. a ++ l) (append_assoc xs (32 ∷ []) ys)

-- with a space between each two, and a line end (10)
pub put-spaced : (a b c d e f ws xs ys zs : List ℕ) → b ≡ a ++ ws ++ 32 ∷ [] → c ≡ b ++ xs ++ 32 ∷ [] →
    d ≡ c ++ ys → e ≡ d ++ 32 ∷ [] → f ≡ e ++ zs ++ 10 ∷ [] →
    f ≡ a ++ (ws ++ 32 ∷ xs ++ 32 ∷ ys ++ 32 ∷ zs ++ 10 ∷ [])
put-spaced a b c d e f ws xs ys zs first second third space last =
    let rest = 32 ∷ (zs ++ 10 ∷ []) in
    let put : f ≡ a ++ (ws ++ 32 ∷ (xs ++ 32 ∷ (ys ++ rest))) =
    spaced a b f ws _ first
    (spaced b c f xs _ second (put-then c d f ys _ third (put-then d e f (32 ∷ []) _ space
    (last ∙ append_assoc e zs (10 ∷ []))))) in
    put ∙ ap (λ l. a ++ l) (sym (append_assoc (ws ++ 32 ∷ xs ++ 32 ∷ ys) (32 ∷ zs) (10 ∷ [])
    ∙ append_assoc (ws ++ 32 ∷ xs) (32 ∷ ys) rest ∙ append_assoc ws (32 ∷ xs) (32 ∷ (ys ++ rest))))

-- ---- messages so far

-- so many messages were taken, and the system that they left stands
pub record Taken (c : Caller) (call : Call) (heads : Bool) (many : ℕ) (s : State) (text : List ℕ)
    (Stands : State → Type 0) : Type 0 where
  pub messages : List Message
  pub system : State
  pub taken : AreTaken c call s messages system
  pub as_many : length messages ≡ many
  pub printed : text ≡ shown_texts heads messages
  pub stands : Stands system

module _ (c : Caller) (call : Call) (s : State) where
  -- one more was
  pub Taken-push : (heads : Bool) (many : ℕ) (text more : List ℕ) (Before Stands : State → Type 0)
      (Lacks : Call → State → Type 0) (m : Message) → Taken c call heads many s text Before →
      ((u : State) → Before u → Comes Stands Lacks (IsAnswered answers.Received c call u) (Ok m)) →
      more ≡ text ++ shown_text heads m → Taken c call heads (many + 1) s more Stands
  Taken-push heads many text more Before Stands Lacks m before takes is =
      let one = takes before.system before.stands in
      let long = length-append before.messages (m ∷ []) in
      let as_many = before.as_many in
      record {
        messages = before.messages ++ m ∷ [];
        system = one.system;
        taken = AreTaken-push c call s before.system one.system before.messages m before.taken one.is;
        as_many = omega (arith, long, as_many);
        printed =
            is ∙ ap (λ (t : List ℕ). t ++ shown_text heads m) before.printed
            ∙ sym (shown_texts-push heads before.messages m);
        stands = one.stands;
      }

  module _ (a : Receiving) (many : ℕ) (text : List ℕ) (Before Stands : State → Type 0)
      (Lacks : Call → State → Type 0) (before : Taken c call a.heads many s text Before) where
    -- as many as were asked for
    pub Taken-most : many ≡ a.most → Comes Before Lacks (TakesAllAs c call a s) (Ok text)
    Taken-most most =
        let as_many = before.as_many in
        record {
          system = before.system;
          is = record {
            messages = before.messages;
            left = before.system;
            taken = before.taken;
            few = omega (arith, as_many, most);
            all = inl (as_many ∙ most, refl);
            printed = before.printed;
          };
          stands = before.stands;
        }

    module _ (below : many < a.most) where
      -- none is left
      pub Taken-all : 0 < many →
          ((u : State) → Before u →
          Comes Stands Lacks (IsAnswered answers.Received c call u) (Err (errors.Refused ENOMSG))) →
          Comes Stands Lacks (TakesAllAs c call a s) (Ok text)
      Taken-all some takes =
          let one = takes before.system before.stands in
          let as_many = before.as_many in
          record {
            system = one.system;
            is = record {
              messages = before.messages;
              left = before.system;
              taken = before.taken;
              few = omega (arith, as_many, below);
              all = inr (omega (arith, as_many, some), one.is);
              printed = before.printed;
            };
            stands = one.stands;
          }

      -- the next is not
      pub Taken-refused : (error : AskError) → (error ≡ errors.Refused ENOMSG → many ≡ 0) →
          ((u : State) → Before u →
          Comes Stands Lacks (IsAnswered answers.Received c call u) (Err error)) →
          Comes Stands Lacks (TakesAllAs c call a s) (Err error)
      Taken-refused (errors.Refused e) first takes =
          let one = takes before.system before.stands in
          let as_many = before.as_many in
          record {
            system = one.system;
            is = record {
              messages = before.messages;
              left = before.system;
              taken = before.taken;
              few = omega (arith, as_many, below);
              halts = one.is;
              first = λ is. no_message before.messages (as_many ∙ first (ap errors.Refused (same_errno e is)));
            };
            stands = one.stands;
          }
      Taken-refused errors.Unanswered first takes =
          let one = takes before.system before.stands in
          let as_many = before.as_many in
          record {
            call = one.call;
            system = one.system;
            at = record {
              messages = before.messages;
              left = before.system;
              taken = before.taken;
              few = omega (arith, as_many, below);
              halts = one.at;
              first = λ is. absurd cc;
            };
            cause = one.cause;
          }
      Taken-refused errors.NoMemory first takes = tt

-- ---- by each caller, from each system that stood first

-- so many messages were taken
abbrev pub TakesOn : Call → Bool → ℕ → List ℕ → (First Stands : Caller → State → Type 0) → Type 0
TakesOn call heads many text First Stands =
    (a : Caller) (s : State) → First a s → Taken a call heads many s text (Stands a)

-- what comes of the Receive of one
abbrev pub Takes : Call → (Before Stands : Caller → State → Type 0) → (Caller → Call → State → Type 0) →
    Result Message AskError → Type 0
Takes call Before Stands Lacks came = (a : Caller) (u : State) → Before a u →
    Comes (Stands a) (Lacks a) (IsAnswered answers.Received a call u) came

module _ (call : Call) (text : List ℕ) (First Before Stands : Caller → State → Type 0)
    (Lacks : Caller → Call → State → Type 0) where
  pub TakesOn-push : (heads : Bool) (many : ℕ) (more : List ℕ) (m : Message) →
      TakesOn call heads many text First Before → Takes call Before Stands Lacks (Ok m) →
      more ≡ text ++ shown_text heads m → TakesOn call heads (many + 1) more First Stands
  TakesOn-push heads many more m before takes is a s first =
      Taken-push a call s heads many text more (Before a) (Stands a) (Lacks a) m (before a s first) (takes a) is

  module _ (r : Receiving) (many : ℕ) where
    pub TakesOn-most : TakesOn call r.heads many text First Before → many ≡ r.most →
        (a : Caller) (s : State) → First a s →
        Comes (Before a) (Lacks a) (TakesAllAs a call r s) (Ok text)
    TakesOn-most before most a s first =
        Taken-most a call s r many text (Before a) (Stands a) (Lacks a) (before a s first) most

    module _ (before : TakesOn call r.heads many text First Before) (below : many < r.most) where
      pub TakesOn-all : 0 < many → Takes call Before Stands Lacks (Err (errors.Refused ENOMSG)) →
          (a : Caller) (s : State) → First a s →
          Comes (Stands a) (Lacks a) (TakesAllAs a call r s) (Ok text)
      TakesOn-all some takes a s first =
          Taken-all a call s r many text (Before a) (Stands a) (Lacks a) (before a s first) below some (takes a)

      pub TakesOn-refused : (error : AskError) → (error ≡ errors.Refused ENOMSG → many ≡ 0) →
          Takes call Before Stands Lacks (Err error) → (a : Caller) (s : State) → First a s →
          Comes (Stands a) (Lacks a) (TakesAllAs a call r s) (Err error)
      TakesOn-refused error only takes a s first =
          Taken-refused a call s r many text (Before a) (Stands a) (Lacks a) (before a s first) below error only
          (takes a)
