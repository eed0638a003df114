-- What no call can take back from the queue of an id.
use Rattle.std.proofs.Common.{◌≡◌, ℕ, ◌<◌, List, [], ◌∷◌, Option, Some, None, inl, inr, arith, refl, sym, ◌∙◌, subst}
use Rattle.std.specs.List.{All}
use Rattle.std.proofs.lemmas.List.Elements.{All-nil, All-cons, All-push, All-set}
use Rattle.queue_model.proofs.Words.{Answer, Id, Sent, Received, Info, Done, Refused, Call, Get, Send, Receive, Stat, Set, Remove, ReceiveArguments, SendArguments, SetArguments, Caller, Entry, Decided, Stopped, Queue, State}
use Rattle.queue_model.specs.Journal.{Leads, LeadsAlong, caller_at, outcome_for}
use Rattle.queue_model.specs.Rules.{new_queue, with_message, without_message, with_settings}
use Rattle.queue_model.proofs.EffectLemmas.{Effect, Effect-outcome, Changes}
use Rattle.queue_model.proofs.ListLemmas.{All-remove}

-- the id was given out, and its queue, while it is alive, has P
pub record Holds (id : ℕ) (P : Queue → Type 0) (s : State) : Type 0 where
  pub given : id < s.next_id
  pub queues : All (λ (q : Queue). q.id ≡ id → P q) s.queues

-- no change of a queue ends P
pub record Lasts (P : Queue → Type 0) : Type 0 where
  pub accepts : (pid : ℕ) (a : SendArguments) (q : Queue) → P q → P (with_message pid a q)
  pub gives : (pid : ℕ) (a : ReceiveArguments) (q : Queue) → P q → P (without_message pid a q)
  pub sets : (a : SetArguments) (q : Queue) → P q → P (with_settings a q)

module _ (id : ℕ) (P : Queue → Type 0) (lasts : Lasts P) where
  abbrev Has : Queue → Type 0
  Has q = q.id ≡ id → P q

  changed : (other : ℕ) (s : State) (place : ℕ) (q new : Queue) (t : State) → Changes other s place q new t →
      new.id ≡ q.id →
      (P q → P new) → Holds id P s → Holds id P t
  changed other s place q new t did same keeps holds = rw did.after (record {
    given = holds.given;
    queues = All-set Has s.queues place new
        (λ is. keeps (subst Has (did.stands.is_it q) (holds.queues place q did.stands.place_of.within) (sym same
        ∙ is))) holds.queues;
  })

  pub Holds-Effect : (c : Caller) (call : Call) (a : Answer) (s t : State) → Effect c call a s t → Holds id P s →
      Holds id P t
  Holds-Effect c (Get x) a s t (inl same) holds = rw same holds
  Holds-Effect c (Get x) a s t (inr made) holds = rw made.after (record {
    given = omega (arith, holds.given);
    queues = All-push Has s.queues (new_queue s.next_id c x) holds.queues (λ is. absurd (omega
        (arith, is, holds.given)));
  })
  Holds-Effect c (Send x) (Sent serial) s t did holds =
      changed x.id s did.place did.q (with_message c.pid x did.q) t did.changes refl (lasts.accepts c.pid x did.q) holds
  Holds-Effect c (Send x) (Id n) s t did holds = rw did holds
  Holds-Effect c (Send x) (Received m) s t did holds = rw did holds
  Holds-Effect c (Send x) (Info i) s t did holds = rw did holds
  Holds-Effect c (Send x) Done s t did holds = rw did holds
  Holds-Effect c (Send x) (Refused e) s t did holds = rw did holds
  Holds-Effect c (Receive x) (Received m) s t did holds =
      changed x.id s did.place did.q (without_message c.pid x did.q) t did.changes refl
      (lasts.gives c.pid x did.q) holds
  Holds-Effect c (Receive x) (Id n) s t did holds = rw did holds
  Holds-Effect c (Receive x) (Sent n) s t did holds = rw did holds
  Holds-Effect c (Receive x) (Info i) s t did holds = rw did holds
  Holds-Effect c (Receive x) Done s t did holds = rw did holds
  Holds-Effect c (Receive x) (Refused e) s t did holds = rw did holds
  Holds-Effect c (Stat other) a s t did holds = rw did holds
  Holds-Effect c (Set x) a s t (inl same) holds = rw same holds
  Holds-Effect c (Set x) a s t (inr did) holds =
      changed x.id s did.place did.q (with_settings x did.q) t did.changes refl (lasts.sets x did.q) holds
  Holds-Effect c (Remove other) Done s t did holds =
      rw did.after (record { given = holds.given; queues = All-remove Has s.queues did.place holds.queues })
  Holds-Effect c (Remove other) (Id n) s t did holds = rw did holds
  Holds-Effect c (Remove other) (Sent n) s t did holds = rw did holds
  Holds-Effect c (Remove other) (Received m) s t did holds = rw did holds
  Holds-Effect c (Remove other) (Info i) s t did holds = rw did holds
  Holds-Effect c (Remove other) (Refused e) s t did holds = rw did holds

  pub Holds-Leads : (callers : List Caller) (e : Entry) (s t : State) → Leads callers e s t → Holds id P s →
      Holds id P t
  Holds-Leads callers (Decided seat call answer) s t leads holds = of_caller (caller_at callers seat) leads
    where
      of_caller : (o : Option Caller) → outcome_for o call s ≡ Some (answer, t) → Holds id P t
      of_caller None at = absurd cc
      of_caller (Some c) at = Holds-Effect c call answer s t (Effect-outcome c call answer s t at) holds
  Holds-Leads callers Stopped s t (running, now) holds = rw now (record { given = holds.given; queues = holds.queues })

  -- what an entry can't do while the queue has P, no later entry does
  pub never_later : (callers : List Caller) (es : List Entry) (s t : State) (bad : Entry → Type 0) →
      ((e : Entry) (u v : State) → Leads callers e u v → Holds id P u → bad e → ⊥) →
      LeadsAlong callers es s t → Holds id P s → All (λ e. bad e → ⊥) es
  never_later callers [] s t bad can leads holds = All-nil (λ e. bad e → ⊥)
  never_later callers (e ∷ es) s t bad can (u, first, rest) holds =
      All-cons (λ e. bad e → ⊥) e es (can e s u first holds)
      (never_later callers es u t bad can rest (Holds-Leads callers e s u first holds))
