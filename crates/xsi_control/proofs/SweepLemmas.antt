-- How a sweep begins, and how many turns it has.
use Rattle.std.proofs.Common.{◌≡◌, ℕ, ◌<◌, ℤ, Bool, true, false, cond, List, [], ◌∷◌, Option, Some, None, inl, inr, refl, sym, ap, ◌∙◌, arith}
use Rattle.std.specs.Prelude.{◌==◌, ◌&&◌, ◌||◌, option_and_then, option_map}
use Rattle.xsi_control.specs.RemoveWords.{Contains, find, list_any, both_true, find-Some, lawful_queue, head_or_tail, are_types_of, RecordKey, Message, MAX_MESSAGES, Queue, has_id, State, TYPE, MESSAGE, Record, message_entry, type_entry, types, at_queue_of, has_number, has_serial, message_record, record_of, type_record, has_type_number, message_left, swept, type_left, IsFiled}
use Rattle.std.proofs.lemmas.Bool.{eqb-true}
use Rattle.std.proofs.lemmas.Option.{slice_get_within}
use Rattle.queue_records.specs.declared.record.Record.TheVariants as records
use Rattle.xsi_inquiry.proofs.of_type_chains.Pairs.{all_of}
use Rattle.xsi_control.specs.declared.turn.Turn.{Turn}
use Rattle.xsi_control.specs.Turns.{IsAtTurn}
use Rattle.xsi_control.proofs.FindLemmas.{none_passes}
use Rattle.xsi_control.proofs.KindLemmas.{by_test, kind_message, kind_type}
use Rattle.xsi_control.proofs.PlaceLemmas.{first_left}
use Rattle.xsi_control.proofs.TurnLemmas.{not_both}

neither : (a b : Bool) → (a || b) ≡ false → (a ≡ false) × (b ≡ false)
neither true b none = absurd cc
neither false b none = (refl, none)

none_any : {X : Type 0} (p : X → Bool) (xs : List X) (x : X) → list_any p xs ≡ false → Contains xs x → p x ≡ false
none_any p [] x none (k, within, at) = absurd (omega (arith, within))
none_any p (y ∷ ys) x none stands =
    let both = neither (p y) (list_any p ys) none in
    elim (head_or_tail y x ys stands) [
      | inl is ↦ ap p (sym is) ∙ both.0
      | inr later ↦ none_any p ys x both.1 later
    ]

whole : {X : Type 0} (b : Bool) (o : Option X) → (b ≡ false → o ≡ None) → cond b o None ≡ o
whole true o none = refl
whole false o none = sym (none refl)

whole_type : (number : ℕ) (q : Queue) → type_left 0 number q ≡ type_record number q
whole_type number q = whole (list_any (has_type_number number) q.messages) (type_record number q) (λ none.
    ap (option_map (λ (t : ℤ). records.Type (type_entry q t))) (none_passes (has_number number) (types q.messages)
    (all_of (λ (t : ℤ). has_number number t ≡ true → ⊥) (types q.messages) (λ t stands passes.
    let (m, there, is) = ((are_types_of q.messages).stand t).0 stands in
    let over = none_any (has_type_number number) q.messages m none there in
    let same : has_number number t ≡ has_type_number number m = ap (has_number number) (sym is) in
    not_both (has_number number t) passes (same ∙ over)))))

whole_message : (serial : ℕ) (q : Queue) → message_left 0 serial q ≡ message_record serial q
whole_message serial q = whole (list_any (has_serial serial) q.messages) (message_record serial q) (λ none.
    ap (option_map (λ (m : Message). records.Message (message_entry q m))) (none_passes (has_serial serial) q.messages
    (all_of (λ (m : Message). has_serial serial m ≡ true → ⊥) q.messages (λ m there passes.
    not_both (has_serial serial m) passes (none_any (has_serial serial) q.messages m none there)))))

whole_of : (part other : ℕ → Queue → Option Record) (s : State) (key : RecordKey) →
    ((number : ℕ) (q : Queue) → part number q ≡ other number q) → at_queue_of part s key ≡ at_queue_of other s key
whole_of part other s key same = by (find (has_id key.queue) s.queues)
  where
    by : (o : Option Queue) → option_and_then (part key.number) o ≡ option_and_then (other key.number) o
    by None = refl
    by (Some q) = same key.number q

pub begins_whole : (id : ℕ) (s : State) (key : RecordKey) → swept id 0 s key ≡ record_of s key
begins_whole id s key =
    by_test (key.queue == id && key.kind == TYPE) _ _ (record_of s key)
    (λ both. let kind = eqb-true key.kind TYPE (both_true (key.queue == id) (key.kind == TYPE) both).1 in
    whole_of (type_left 0) type_record s key whole_type ∙ sym (kind_type s key kind))
    (λ _. by_test (key.queue == id && key.kind == MESSAGE) _ _ (record_of s key)
    (λ both. let kind = eqb-true key.kind MESSAGE (both_true (key.queue == id) (key.kind == MESSAGE) both).1 in
    whole_of (message_left 0) message_record s key whole_message ∙ sym (kind_message s key kind))
    (λ _. refl))

-- ---- as many turns as messages

pub few_turns : (count : ℕ) (q : Queue) (s : State) (t : Turn) → IsFiled s → IsAtTurn count q s t → count < MAX_MESSAGES
few_turns count q s t filed turn =
    let (m, at, same) = first_left q.messages count t.serial turn.first in
    let within = slice_get_within q.messages count m at in
    let own = lawful_queue s filed.lawful q (find-Some (has_id t.id) s.queues q turn.alive).1 in
    omega (arith, within, own.few_messages)
