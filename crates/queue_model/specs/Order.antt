-- First in, first out, of a journal.
-- docs/QUEUES.md, "Order".
use Rattle.std.specs.Prelude.{◌≡◌, ◌≢◌, ℕ, ◌<◌, ◌≤◌, List, [], ◌∷◌}
use Rattle.std.specs.List.{All}
use Rattle.queue_model.specs.declared.answer.Answer.TheVariants.{Sent, Received, Done}
use Rattle.queue_model.specs.declared.call.Call.TheVariants.{Send, Receive, Remove}
use Rattle.queue_model.specs.declared.caller.Caller.{Caller}
use Rattle.queue_model.specs.declared.entry.Entry.{Entry}
use Rattle.queue_model.specs.declared.entry.Entry.TheVariants.{Decided}
use Rattle.queue_model.specs.declared.message.Message.{Message}
use Rattle.queue_model.specs.declared.queue.Queue.{Queue}
use Rattle.queue_model.specs.Journal.{after_entry}
use Rattle.queue_model.specs.State.{State}

-- the entry takes m from the queue of an id
abbrev pub Takes : ℕ → Message → Entry → Type 0
Takes id m (Decided seat (Receive a) (Received n)) = (a.id ≡ id) × (n ≡ m)
Takes id m e = ⊥

-- the entry puts a message on the queue of an id
abbrev pub Puts : ℕ → Entry → Type 0
Puts id (Decided seat (Send a) (Sent serial)) = a.id ≡ id
Puts id e = ⊥

-- m was sent before all messages of its type that stand on the queue of an id
abbrev pub IsEarliest : ℕ → Message → State → Type 0
IsEarliest id m s =
    All (λ (q : Queue). q.id ≡ id →
    All (λ (n : Message). n.mtype ≡ m.mtype → m.serial ≤ n.serial) q.messages) s.queues

-- once m is taken, its serial is not taken again, and of its type only what was sent later
pub record IsFollowed (id : ℕ) (m : Message) (later : List Entry) : Type 0 where
  pub once : (n : Message) → All (λ (e : Entry). Takes id n e → n.serial ≢ m.serial) later
  pub in_order : (n : Message) → n.mtype ≡ m.mtype →
      All (λ (e : Entry). Takes id n e → m.serial < n.serial) later

-- once a queue is removed, nothing is put on it or taken from it
pub record IsGone (id : ℕ) (later : List Entry) : Type 0 where
  pub none_put : All (λ (e : Entry). Puts id e → ⊥) later
  pub none_taken : (m : Message) → All (λ (e : Entry). Takes id m e → ⊥) later

-- an entry is in order, from s and before the later ones
abbrev pub IsInOrder : Entry → State → List Entry → Type 0
IsInOrder (Decided seat (Receive a) (Received m)) s later = IsEarliest a.id m s × IsFollowed a.id m later
IsInOrder (Decided seat (Remove id) Done) s later = IsGone id later
IsInOrder e s later = Unit {0}

-- each entry of a journal from s is in order
abbrev pub IsFifo : List Caller → List Entry → State → Type 0
IsFifo callers [] s = Unit {0}
IsFifo callers (e ∷ es) s = IsInOrder e s es × IsFifo callers es (after_entry callers e s)
