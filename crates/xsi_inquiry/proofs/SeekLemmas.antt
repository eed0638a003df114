-- What the records of a system tell of the queue of an id.
use Rattle.std.proofs.Common.{◌≡◌, ℕ, ◌<◌, ◌≤◌, Bool, true, false, nat_lt, Option, Some, None, refl, ap, sym, subst, arith}
use Rattle.std.specs.Prelude.{◌==◌, ◌||◌, nat_le, option_map, Result, Ok, Err}
use Rattle.std.specs.List.{find}
use Rattle.queue_model.specs.declared.queue.Queue.{Queue}
use Rattle.queue_model.specs.Lawful.{IsLawful}
use Rattle.queue_model.specs.Rules.{Outcome, has_id, on_found, on_queue, refuse}
use Rattle.queue_model.specs.State.{State}
use Rattle.queue_model.proofs.ListLemmas.{find-Some}
use Rattle.type_chains.specs.queue_records.declared.queue_entry.QueueEntry.{QueueEntry}
use Rattle.type_chains.specs.queue_records.declared.record.Record.{Record}
use Rattle.type_chains.specs.queue_records.declared.record.Record.TheVariants as records
use Rattle.type_chains.specs.Entries.{queue_entry}
use Rattle.type_chains.specs.queue_records.Keys.{key_of_queue}
use Rattle.type_chains.specs.RecordOf.{record_of}
use Rattle.type_chains.proofs.Cases.{found_id}
use Rattle.type_chains.proofs.Elements.{image_has}
use Rattle.type_chains.proofs.Tests.{mapped}
use Rattle.xsi_inquiry.specs.declared.sought.Sought.TheVariants.{Unread, Absent, Found, Refused}
use Rattle.xsi_inquiry.specs.Seeking.{IsEntryOf, Tells, refusal, sought_next}
use Rattle.xsi_inquiry.specs.Telling.{IsFiled, IsTold, IsToldGiven}

-- an id that was given out is not refused as unknown
given : (id : ℕ) (s : State) → 0 < id → id < s.next_id → (id == 0 || nat_le s.next_id id) ≡ false
given id s above below =
    let first : (id == 0) ≡ false = grind (arith, above) in
    let second : nat_le s.next_id id ≡ false = grind (arith, below) in
    rw first second

-- where no queue has the id, calls on it are refused by the next id
pub refused : (id : ℕ) (s : State) → 0 < id → find (has_id id) s.queues ≡ None →
    (act : Queue → Outcome) → on_queue id s act ≡ refuse (refusal (nat_lt id s.next_id)) s
refused id s above none act = by (nat_lt id s.next_id) refl
  where
    by : (b : Bool) → nat_lt id s.next_id ≡ b → on_queue id s act ≡ refuse (refusal (nat_lt id s.next_id)) s
    by true e =
        let below : id < s.next_id = grind (arith, e) in
        rw e (rw (given id s above below) (ap (λ q. on_found q s act) none))
    by false e =
        let first : (id == 0) ≡ false = grind (arith, above) in
        let past : nat_le s.next_id id ≡ true = grind (arith, e) in
        rw e (rw first (rw past refl))

-- the record at the key of a Queue is that of the queue found, on which calls go on
pub is_entry : (id : ℕ) (s : State) (e : QueueEntry) → IsLawful s
    → Some (records.Queue e) ≡ record_of s (key_of_queue id) →
    IsEntryOf id e s
is_entry id s e lawful told =
    let (q, found, is) = mapped (λ (q : Queue). records.Queue (queue_entry q)) (find (has_id id) s.queues)
    (records.Queue e) (sym told) in
    let its = found_id s id q found in
    let stands = (find-Some (has_id id) s.queues q found).1 in
    let known = image_has (λ (q : Queue). q.id) (λ (id : ℕ). (1 ≤ id) × (id < s.next_id)) s.queues q
    lawful.ids_given stands in
    let below : id < s.next_id = subst (λ (n : ℕ). n < s.next_id) its known.1 in
    let above : 0 < id = subst (λ (n : ℕ). 1 ≤ n) its known.0 in
    record {
      queue = q;
      found = found;
      its_id = its;
      entry = cc;
      goes_on = λ act. rw (given id s above below) (ap (λ q. on_found q s act) found);
    }

none_mapped : (o : Option Queue) → None ≡ option_map (λ (q : Queue). records.Queue (queue_entry q)) o → o ≡ None
none_mapped None none = refl
none_mapped (Some q) none = absurd cc

-- nothing stands at the key of a Queue where no queue has the id
pub none_found : (id : ℕ) (s : State) → None ≡ record_of s (key_of_queue id) → find (has_id id) s.queues ≡ None
none_found id s none = none_mapped (find (has_id id) s.queues) none

some_mapped : (o : Option Queue) (r : Record) → Some r ≡ option_map (λ (q : Queue). records.Queue (queue_entry q)) o →
    (e : QueueEntry) × (r ≡ records.Queue e)
some_mapped None r told = absurd cc
some_mapped (Some q) r told = (queue_entry q, cc)

-- what stands at the key of a Queue is a Queue
pub is_queue : (id : ℕ) (s : State) (r : Record) → Some r ≡ record_of s (key_of_queue id) →
    (e : QueueEntry) × (r ≡ records.Queue e)
is_queue id s r told = some_mapped (find (has_id id) s.queues) r told

-- ---- what each reading tells

pub absent_told : (id : ℕ) (s : State) → Tells id Unread s → IsTold s (sought_next id Unread) None → Tells id Absent s
absent_told id s tells told = (tells, none_found id s (told (key_of_queue id) refl))

pub queue_told : (id : ℕ) (s : State) (r : Record) → IsTold s (sought_next id Unread) (Some r) →
    (e : QueueEntry) × (r ≡ records.Queue e)
queue_told id s r told = is_queue id s r (told (key_of_queue id) refl)

pub found_told : (id : ℕ) (s : State) (e : QueueEntry) → IsFiled s →
    IsTold s (sought_next id Unread) (Some (records.Queue e)) → Tells id (Found e) s
found_told id s e filed told = is_entry id s e filed.lawful (told (key_of_queue id) refl)

pub refused_told : (id : ℕ) (s : State) (given : Bool) → Tells id Absent s
    → IsToldGiven s (sought_next id Absent) given →
    Tells id (Refused (refusal given)) s
refused_told id s given tells told = rw (told id refl) (refused id s tells.0 tells.1)

pub clash : {T E : Type 0} (r : Result T E) (value : T) → r ≡ Ok value → (e : E) → r ≡ Err e → ⊥
clash r value ok e err = absurd cc

-- so one that takes each Queue does not refuse
pub queue_is_taken : {E : Type 0} (id : ℕ) (s : State) (r : Record) → IsTold s (sought_next id Unread) (Some r) →
    (result : Result QueueEntry E) → ((e : QueueEntry) → r ≡ records.Queue e → result ≡ Ok e) →
    (e : E) → result ≡ Err e → ⊥
queue_is_taken id s r told result takes e err =
    let (entry, is) = queue_told id s r told in
    clash result entry (takes entry is) e err
