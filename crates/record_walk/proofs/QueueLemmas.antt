-- What is read of a queue determines it.
use Rattle.std.proofs.Common.{ℕ, ◌≡◌, List, Option, Some, None, ◌↔◌, refl, sym, ap, subst, ◌∙◌, inl, inr}
use Rattle.std.specs.List.{All}
use Rattle.queue_records.specs.declared.record.Record.TheVariants as records
use Rattle.record_walk.specs.Held.{Holds}
use Rattle.record_walk.specs.Systems.{HasQueue, IsQueueOf, IsNoQueueOf, IsWalkOf, IsNoWalkOf, queue_in}
use Rattle.record_walk.specs.Told.{IsToldOfQueue, IsToldOfWalk}
use Rattle.record_walk.specs.Words.{RecordKey, Record, WalkFault, Message, Queue, QueueEntry, queue_entry}

module _ (held : RecordKey → Option (List ℕ)) (id : ℕ) (found : Option QueueEntry)
    (told : (e : QueueEntry) → Holds held (records.Queue e) → e.id ≡ id → found ≡ Some e) where
  -- no Queue, no queue
  pub none_there : found ≡ None → IsNoQueueOf held id
  none_there none q h its = let clash = sym none ∙ told (queue_entry q) h.queue its in absurd cc

module _ (held : RecordKey → Option (List ℕ)) (id : ℕ) (entry : QueueEntry)
    (told : (e : QueueEntry) → Holds held (records.Queue e) → e.id ≡ id → Some entry ≡ Some e) where
  entry_is : (q : Queue) → HasQueue held q → q.id ≡ id → entry ≡ queue_entry q
  entry_is q h its = let same = told (queue_entry q) h.queue its in cc

  -- no walk, no queue
  pub none_walked : IsNoWalkOf held id entry.first → IsNoQueueOf held id
  none_walked none q h its = none q h its (ap (λ (e : QueueEntry). e.first) (entry_is q h its))

  module _ (ms : List Message) (walked : IsWalkOf held id entry.first ms) where
    -- what is read is the queue
    is_read : (q : Queue) → HasQueue held q → q.id ≡ id → q ≡ queue_in entry id ms
    is_read q h its =
        let e = entry_is q h its in
        let all : ms ≡ q.messages = walked q h its (ap (λ (x : QueueEntry). x.first) e) in
        sym (ap (λ (x : QueueEntry). queue_in x id ms) e ∙ ap (λ i. queue_in (queue_entry q) i ms) (sym its)
        ∙ ap (λ xs. queue_in (queue_entry q) q.id xs) all)

    pub queue_read : HasQueue held (queue_in entry id ms) → IsQueueOf held id (queue_in entry id ms)
    queue_read h = record { has = h; its = refl; only = is_read }

    pub none_read : (HasQueue held (queue_in entry id ms) → ⊥) → IsNoQueueOf held id
    none_read none q h its = none (subst (HasQueue held) (is_read q h its) h)

-- ---- record by record

-- records that are only read stand as before
pub holds_before : (now old : RecordKey → Option (List ℕ)) (r s : Record) → now ≡ old → r ≡ s → Holds now r →
    Holds old s
holds_before now old r s same is h =
    subst (λ (x : Record). Holds old x) is (subst (λ (held : RecordKey → Option (List ℕ)). Holds held r) same h)

pub holds_now : (now old : RecordKey → Option (List ℕ)) (r s : Record) → now ≡ old → r ≡ s → Holds old s →
    Holds now r
holds_now now old r s same is h =
    subst (λ (held : RecordKey → Option (List ℕ)). Holds held r) (sym same)
    (subst (λ (x : Record). Holds old x) (sym is) h)

pub all_before : (now old : RecordKey → Option (List ℕ)) (rs : List Record) → now ≡ old → All (Holds now) rs →
    All (Holds old) rs
all_before now old rs same h = subst (λ (held : RecordKey → Option (List ℕ)). All (Holds held) rs) same h

-- a walk that failed
pub walk_failed : (now held : RecordKey → Option (List ℕ)) (id : ℕ) (entry : QueueEntry) (fault : WalkFault) →
    ((e : QueueEntry) → Holds held (records.Queue e) → e.id ≡ id → Some entry ≡ Some e) → now ≡ held →
    IsToldOfWalk now id entry.first fault → IsToldOfQueue held id fault
walk_failed now held id entry fault told same (inl machine) = inl machine
walk_failed now held id entry fault told same (inr wrong) = inr (
  wrong.0,
  none_walked held id entry told
      (subst (λ (h : RecordKey → Option (List ℕ)). IsNoWalkOf h id entry.first) same wrong.1),
)
