-- Along its links the messages of a queue are met in their order.
use Rattle.std.proofs.Common.{ℕ, pos, zero, suc, ◌≡◌, ◌+◌, ◌<◌, ◌≤◌, List, [], ◌∷◌, ◌++◌, length, take, Option, Some, None, get_or, refl, sym, ap, subst, ◌∙◌, arith}
use Rattle.std.specs.Prelude.{slice_get}
use Rattle.std.proofs.Math.Seq.{take-suc}
use Rattle.std.proofs.lemmas.List.{get_or-map, length-map, length-append, take_all}
use Rattle.numbers.specs.declared.limits.TheConstants.{MAX_MESSAGES}
use Rattle.record_walk.proofs.LinkLemmas.{place_is}
use Rattle.record_walk.specs.Held.{Holds, linked_of}
use Rattle.record_walk.specs.Systems.{HasQueue}
use Rattle.record_walk.specs.Words.{RecordKey, Message, Queue, Record, MessageEntry, Linked, first_of, message_entry, serials}
use Rattle.queue_records.specs.declared.record.Record.TheVariants as records

-- these are the first messages of a queue, and this is the serial of the next
pub record IsWalkedTo (q : Queue) (ms : List Message) (next : Option ℕ) : Type 0 where
  pub so_far : ms ≡ take (length ms) q.messages
  pub next_is : next ≡ slice_get (serials q.messages) (length ms)

-- a serial that stands on the list is that of the message there
serial_at : (ms : List Message) (i serial : ℕ) → Some serial ≡ slice_get (serials ms) i →
    (i < length ms) × ((d : Message) → (get_or ms i d).serial ≡ serial)
serial_at [] i serial e = absurd cc
serial_at (m ∷ ms) zero serial e = let same : serial ≡ m.serial = cc in (omega arith, λ d. sym same)
serial_at (m ∷ ms) (suc i) serial e = let rest = serial_at ms i serial e in (omega (arith, rest.0), rest.1)

serial_past : (ms : List Message) (i : ℕ) → None ≡ slice_get (serials ms) i → length ms ≤ i
serial_past [] i e = omega arith
serial_past (m ∷ ms) zero e = absurd cc
serial_past (m ∷ ms) (suc i) e = let rest = serial_past ms i e in omega (arith, rest)

module _ (held : RecordKey → Option (List ℕ)) (q : Queue) (has : HasQueue held q) where
  -- each message stands
  message_stands : (i : ℕ) (d : Message) → i < length q.messages →
      Holds held (records.Message (message_entry q (get_or q.messages i d)))
  message_stands i d within =
      let f : Message → Record = λ m. records.Message (message_entry q m) in
      let r : Record = f d in
      subst (Holds held) (get_or-map f q.messages i d r within)
      (has.messages i r (subst (λ n. i < n) (sym (length-map q.messages f)) within))

  module _ (id : ℕ) (first : Option ℕ) (its : q.id ≡ id) where
    pub walked_none : first ≡ first_of (serials q.messages) → IsWalkedTo q [] first
    walked_none e = record { so_far = refl; next_is = e }

    -- the next message is there
    pub walked_there : (ms : List Message) (serial : ℕ) (found : Option Linked) → IsWalkedTo q ms (Some serial) →
        ((e : MessageEntry) → Holds held (records.Message e) → e.id ≡ id → e.serial ≡ serial →
        found ≡ Some (linked_of e)) →
        (length ms < length q.messages)
        × (found ≡ Some (linked_of (message_entry q (get_or q.messages (length ms)
        (record { serial = 0; sender = 0; mtype = pos 0; bytes = [] })))))
    walked_there ms serial found so told =
        let d : Message = record { serial = 0; sender = 0; mtype = pos 0; bytes = [] } in
        let there = serial_at q.messages (length ms) serial so.next_is in (
          there.0,
          told (message_entry q (get_or q.messages (length ms) d)) (message_stands (length ms) d there.0) its
              (there.1 d),
        )

    -- and goes on with the one behind it
    pub walked_more : (ms : List Message) (serial : ℕ) (found : Linked) → IsWalkedTo q ms (Some serial) →
        ((e : MessageEntry) → Holds held (records.Message e) → e.id ≡ id → e.serial ≡ serial →
        Some found ≡ Some (linked_of e)) →
        IsWalkedTo q (ms ++ found.message ∷ []) found.links.next
    walked_more ms serial found so told =
        let d : Message = record { serial = 0; sender = 0; mtype = pos 0; bytes = [] } in
        let there = walked_there ms serial (Some found) so told in
        let i : ℕ = length ms in
        let m : Message = get_or q.messages i d in
        let is : found ≡ linked_of (message_entry q m) = (let e = there.1 in cc) in
        let longer : length (ms ++ found.message ∷ []) ≡ suc i =
        length-append ms (found.message ∷ []) ∙ (let one : i + 1 ≡ suc i = omega arith in one) in
        let message_is : found.message ≡ m = ap (λ (l : Linked). l.message) is in
        record {
          so_far =
              ap (λ (x : Message). ms ++ x ∷ []) message_is ∙ ap (λ xs. xs ++ m ∷ []) so.so_far
              ∙ sym (take-suc q.messages i d there.0) ∙ ap (λ n. take n q.messages) (sym longer);
          next_is =
              ap (λ (l : Linked). l.links.next) is
              ∙ ap (λ n. slice_get (serials q.messages) (suc n))
              (place_is q.messages i d has.lawful.serials_ascend there.0)
              ∙ ap (slice_get (serials q.messages)) (sym longer);
        }

    -- at the end all are met
    pub walked_all : (ms : List Message) → IsWalkedTo q ms None → ms ≡ q.messages
    walked_all ms so =
        so.so_far ∙ take_all (length ms) q.messages (serial_past q.messages (length ms) so.next_is)

    -- no queue has so many messages
    pub walked_far : (ms : List Message) (serial : ℕ) → IsWalkedTo q ms (Some serial) → MAX_MESSAGES ≤ length ms → ⊥
    walked_far ms serial so many =
        let there = serial_at q.messages (length ms) serial so.next_is in
        let few = has.lawful.few_messages in
        absurd (omega (arith, there.0, few, many))
