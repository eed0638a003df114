-- A queue of which the messages are swept goes.
use Rattle.std.proofs.Common.{◌≡◌, ℕ, ◌+◌, ◌-◌, ◌<◌, Bool, true, false, cond, List, [], ◌∷◌, length, drop, Option, Some, None, inl, refl, sym, ap, ◌∙◌, arith}
use Rattle.std.specs.Prelude.{◌==◌, ◌≢◌, ◌&&◌, IsSome, option_map, option_and_then}
use Rattle.xsi_control.specs.RemoveWords.{All, Contains, find, position_or_len, remove, list_any, find-Some, in_range, PassesOnce, find_one, key_has, pairs_unmap, Fills, IsNew, Misses, leads_by, RecordKey, is_same, Message, Queue, IsLawful, AreKeysApart, has_id, has_key, is_key, without_queue, State, Counter, TYPE, MESSAGE, Record, guard_of, key_of_key, key_of_queue, IsInRange, key_of, counter_of, key_entry, queue_entry, has_serial, type_record, message_record, record_of, Write, Replace, Delete, Ascend, IsBefore, swept, has_type_number, IsFiled, Leads, Plan, Records, key_written, value_length, writes_of}
use Rattle.std.proofs.lemmas.Bool.{eqb-true}
use Rattle.std.proofs.lemmas.Bool.Decides.{Decides-eqb, nat_tests}
use Rattle.std.proofs.lemmas.List.Edits.{length-remove}
use Rattle.std.proofs.lemmas.List.Elements.{All-nil, All-cons, All-head, All-tail}
use Rattle.std.proofs.lemmas.List.Folds.{find_at}
use Rattle.std.proofs.lemmas.Option.{slice_get_within}
use Rattle.queue_model.proofs.LawfulLemmas.{IsLawful-remove}
use Rattle.queue_records.specs.declared.record.Record.TheVariants as records
use Rattle.queue_records.proofs.Lengths.{length-counter}
use Rattle.xsi_control.specs.Knowing.{one_less}
use Rattle.xsi_control.specs.Removing.{key_deletion, names_of}
use Rattle.xsi_control.proofs.FindLemmas.{find_removed, find_removed_other, not_true}
use Rattle.xsi_control.proofs.KindLemmas.{HasSame, same_record, alike, kind_type, kind_message}
use Rattle.xsi_control.proofs.SweptLemmas.{some_is, swept_elsewhere, swept_otherwise, swept_type, swept_message}

-- what follows a sweep, by the queue's key and the Counter without it
abbrev pub plan_of : Option ℕ → ℕ → Counter → Plan
plan_of key id n = record {
  trials = [];
  slots = key_deletion key ∷ Some (Delete (key_of_queue id)) ∷ Some (Replace (records.Counter n)) ∷ [];
}

past_the_end : {X : Type 0} (xs : List X) → drop (length xs) xs ≡ []
past_the_end [] = refl
past_the_end (x ∷ xs) = past_the_end xs

-- ---- order and names

module _ (id : ℕ) where
  one_ascends : (w : Write) → Ascend (w ∷ [])
  one_ascends w = (All-nil (IsBefore w), tt)

  two_ascend : (n : Counter) → Ascend (Delete (key_of_queue id) ∷ Replace (records.Counter n) ∷ [])
  two_ascend n = (
    All-cons (IsBefore (Delete (key_of_queue id))) (Replace (records.Counter n)) [] (inl (omega arith))
        (All-nil (IsBefore (Delete (key_of_queue id)))),
    one_ascends (Replace (records.Counter n)),
  )

  pub ascend : (key : Option ℕ) (n : Counter) → Ascend (writes_of (plan_of key id n))
  ascend None n = two_ascend n
  ascend (Some k) n = (
    All-cons (IsBefore (Delete (key_of_key k))) (Delete (key_of_queue id)) (Replace (records.Counter n) ∷ [])
        (inl (omega arith))
        (All-cons (IsBefore (Delete (key_of_key k))) (Replace (records.Counter n)) [] (inl (omega arith))
        (All-nil (IsBefore (Delete (key_of_key k))))),
    two_ascend n,
  )

  abbrev IsHis : Option ℕ → Write → Type 0
  IsHis key w = Contains (names_of id key) (guard_of (key_written w))

  pub under : (key : Option ℕ) (n : Counter) → All (IsHis key) (writes_of (plan_of key id n))
  under None n =
      All-cons (IsHis None) (Delete (key_of_queue id)) (Replace (records.Counter n) ∷ []) (1, omega arith, refl)
      (All-cons (IsHis None) (Replace (records.Counter n)) [] (0, omega arith, refl) (All-nil (IsHis None)))
  under (Some k) n =
      All-cons (IsHis (Some k)) (Delete (key_of_key k)) (Delete (key_of_queue id) ∷ Replace (records.Counter n) ∷ [])
      (0, omega arith, refl)
      (All-cons (IsHis (Some k)) (Delete (key_of_queue id)) (Replace (records.Counter n) ∷ []) (2, omega arith, refl)
      (All-cons (IsHis (Some k)) (Replace (records.Counter n)) [] (1, omega arith, refl) (All-nil (IsHis (Some k)))))

module _ (id : ℕ) (s : State) (q : Queue) (filed : IsFiled s) (found : find (has_id id) s.queues ≡ Some q)
    (its : q.id ≡ id) where
  abbrev t : State
  t = without_queue id s

  abbrev left : RecordKey → Option Record
  left = swept id (length q.messages) s

  abbrev less : Record
  less = records.Counter (one_less (counter_of s))

  self : (n : ℕ) → (n == n) ≡ true
  self n = (Decides-eqb n n).1 refl

  place_within : position_or_len (has_id id) s.queues < length s.queues
  place_within = slice_get_within s.queues (position_or_len (has_id id) s.queues) q
      (sym (find_at (has_id id) s.queues) ∙ found)

  fewer : length (remove s.queues (position_or_len (has_id id) s.queues)) + 1 ≡ length s.queues
  fewer = length-remove s.queues (position_or_len (has_id id) s.queues) place_within

  stays_lawful : IsLawful t
  stays_lawful = IsLawful-remove s (position_or_len (has_id id) s.queues) place_within filed.lawful

  counter_then : record_of t (key_of less) ≡ Some less
  counter_then =
      let one_off : length (remove s.queues (position_or_len (has_id id) s.queues)) ≡ length s.queues - 1 =
      omega (arith, fewer) in
      ap (λ (n : ℕ). Some (records.Counter (record { next_id = s.next_id; queues_alive = n }))) one_off

  id_once : (other : ℕ) → PassesOnce (has_id other) s.queues
  id_once other i j d before within one two =
      let ascend = pairs_unmap (λ (q : Queue). q.id) (λ (a b : ℕ). a < b) s.queues filed.lawful.ids_ascend in
      omega (arith, ascend i j d before within, eqb-true _ other one, eqb-true _ other two)

  key_once : (key : ℕ) → PassesOnce (has_key key) s.queues
  key_once key i j d before within one two =
      pairs_unmap (λ (q : Queue). q.key) AreKeysApart s.queues filed.lawful.keys_apart i j d before within key
      (key_has key _ one) (key_has key _ two)

  -- the queue is found no more
  pub gone : find (has_id id) t.queues ≡ None
  gone = find_removed (has_id id) (has_id id) s.queues q found (grind (arith, nat_tests, its)) (id_once id)

  key_gone : (key : ℕ) → q.key ≡ Some key → find (has_key key) t.queues ≡ None
  key_gone key given = find_removed (has_id id) (has_key key) s.queues q found (ap (is_key key) given ∙ self key)
      (key_once key)

  queue_then : record_of t (key_of_queue id) ≡ None
  queue_then = ap (option_map (λ (q : Queue). records.Queue (queue_entry q))) gone

  key_then : (key : ℕ) → q.key ≡ Some key → record_of t (key_of_key key) ≡ None
  key_then key given = ap (option_map (λ (q : Queue). records.Key (key_entry key q))) (key_gone key given)

  queue_stands : left (key_of_queue id) ≡ Some (records.Queue (queue_entry q))
  queue_stands =
      swept_otherwise id (length q.messages) s (key_of_queue id) (λ e. omega (arith, e)) (λ e. omega (arith, e))
      ∙ ap (option_map (λ (q : Queue). records.Queue (queue_entry q))) found

  key_stands : (key : ℕ) → q.key ≡ Some key → IsSome (left (key_of_key key))
  key_stands key given =
      let stands = (find-Some (has_id id) s.queues q found).1 in
      let by_key = find_one (has_key key) s.queues q stands (ap (is_key key) given ∙ self key) (key_once key) in
      some_is (left (key_of_key key)) (records.Key (key_entry key q))
      (swept_otherwise id (length q.messages) s (key_of_key key) (λ e. omega (arith, e)) (λ e. omega (arith, e))
      ∙ ap (option_map (λ (q : Queue). records.Key (key_entry key q))) by_key)

  counter_stands : left (key_of less) ≡ Some (records.Counter (counter_of s))
  counter_stands =
      swept_otherwise id (length q.messages) s (key_of less) (λ e. omega (arith, e)) (λ e. omega (arith, e))

  as_long : option_map value_length (left (key_of less)) ≡ Some (value_length less)
  as_long = ap (option_map value_length) counter_stands
      ∙ ap Some (length-counter (counter_of s)
      ∙ sym (length-counter (record { next_id = s.next_id; queues_alive = length s.queues - 1 })))

  -- nothing is left of its types and messages
  type_swept : (key : RecordKey) → key.queue ≡ id → key.kind ≡ TYPE → left key ≡ record_of t key
  type_swept key at kind =
      let none = ap (λ (ms : List Message). cond (list_any (has_type_number key.number) ms)
      (type_record key.number q) None) (past_the_end q.messages) in
      let then_none = ap (λ (n : ℕ). option_and_then (type_record key.number) (find (has_id n) t.queues)) at
      ∙ ap (option_and_then (type_record key.number)) gone in
      swept_type id (length q.messages) s q found key at kind ∙ none ∙ sym (kind_type t key kind ∙ then_none)

  message_swept : (key : RecordKey) → key.queue ≡ id → key.kind ≡ MESSAGE → left key ≡ record_of t key
  message_swept key at kind =
      let none = ap (λ (ms : List Message). cond (list_any (has_serial key.number) ms)
      (message_record key.number q) None) (past_the_end q.messages) in
      let then_none = ap (λ (n : ℕ). option_and_then (message_record key.number) (find (has_id n) t.queues)) at
      ∙ ap (option_and_then (message_record key.number)) gone in
      swept_message id (length q.messages) s q found key at kind ∙ none ∙ sym (kind_message t key kind ∙ then_none)

  -- the key is not among those that are written
  pub record IsOther (key : RecordKey) : Type 0 where
    pub no_counter : is_same key (key_of less) ≡ false
    pub no_queue : is_same key (key_of_queue id) ≡ false
    pub no_key : (k : ℕ) → q.key ≡ Some k → is_same key (key_of_key k) ≡ false

  of_another : (other : ℕ) → other ≢ id → has_id other q ≡ false
  of_another other apart = grind (arith, nat_tests, apart, its)

  others_same : (key : RecordKey) → IsOther key → (key.kind ≡ TYPE → key.queue ≢ id) →
      (key.kind ≡ MESSAGE → key.queue ≢ id) → HasSame s t key
  others_same key other no_type no_message = record {
    counter = λ kind. alike (key.queue == 0 && key.number == 0) _ None _ None
        (λ zeros. absurd (grind (arith, nat_tests, kind, zeros, other.no_counter))) (λ _. refl);
    of_key = λ kind. alike (key.queue == 0) _ None _ None (λ zeroth.
        ap (option_map (λ (q : Queue). records.Key (key_entry key.number q)))
        (sym (find_removed_other (has_id id) (has_key key.number) s.queues q found
        (not_true (has_key key.number q) (λ has.
        let apart = other.no_key key.number (key_has key.number q.key has) in
        grind (arith, nat_tests, kind, zeroth, apart)))))) (λ _. refl);
    queue = λ kind. alike (key.number == 0) _ None _ None (λ zeroth.
        ap (option_map (λ (q : Queue). records.Queue (queue_entry q)))
        (sym (find_removed_other (has_id id) (has_id key.queue) s.queues q found
        (of_another key.queue (λ same. grind (arith, nat_tests, kind, zeroth, same, other.no_queue)))))) (λ _. refl);
    of_type = λ kind. ap (option_and_then (type_record key.number)) (sym (find_removed_other (has_id id)
        (has_id key.queue) s.queues q found (of_another key.queue (no_type kind))));
    message = λ kind. ap (option_and_then (message_record key.number)) (sym (find_removed_other (has_id id)
        (has_id key.queue) s.queues q found (of_another key.queue (no_message kind))));
  }

  at_other : (key : RecordKey) → IsOther key → left key ≡ record_of t key
  at_other key other = by (key.queue == id) (key.kind == TYPE) (key.kind == MESSAGE) refl refl refl
    where
      by : (its : Bool) (of_type : Bool) (message : Bool) → (key.queue == id) ≡ its → (key.kind == TYPE) ≡ of_type →
          (key.kind == MESSAGE) ≡ message → left key ≡ record_of t key
      by false typed message e f g =
          let apart : key.queue ≢ id = λ same. grind (arith, nat_tests, e, same) in
          swept_elsewhere id (length q.messages) s key apart
          ∙ same_record s t key (others_same key other (λ _. apart) (λ _. apart))
      by true true message e f g = type_swept key (eqb-true key.queue id e) (eqb-true key.kind TYPE f)
      by true false true e f g = message_swept key (eqb-true key.queue id e) (eqb-true key.kind MESSAGE g)
      by true false false e f g =
          let no_type : key.kind ≢ TYPE = λ kind. grind (arith, nat_tests, f, kind) in
          let no_message : key.kind ≢ MESSAGE = λ kind. grind (arith, nat_tests, g, kind) in
          swept_otherwise id (length q.messages) s key no_type no_message
          ∙ same_record s t key (others_same key other (λ kind. absurd (no_type kind))
          (λ kind. absurd (no_message kind)))

  -- ---- the writes

  abbrev new : Records
  new = record_of t

  abbrev queue_goes : Write
  queue_goes = Delete (key_of_queue id)

  abbrev counted : Write
  counted = Replace less

  abbrev key_goes : ℕ → Write
  key_goes k = Delete (key_of_key k)

  queue_fits : Fills left new queue_goes
  queue_fits = (some_is (left (key_of_queue id)) (records.Queue (queue_entry q)) queue_stands, queue_then)

  counter_fits : Fills left new counted
  counter_fits = (counter_then, as_long)

  in_limits : (key : RecordKey) (r : Record) → new key ≡ Some r → IsInRange r
  in_limits key r is = in_range t key r stays_lawful is

  private_leads : q.key ≡ None → Leads (plan_of None id (one_less (counter_of s))) left new
  private_leads no_key = leads_by left new (plan_of None id (one_less (counter_of s))) tt (All-nil (IsNew left new))
      (ascend id None (one_less (counter_of s)))
      (All-cons (Fills left new) queue_goes (counted ∷ []) queue_fits
      (All-cons (Fills left new) counted [] counter_fits (All-nil (Fills left new))))
      in_limits
      (λ key trials misses.
      let rest = All-tail (Misses key) queue_goes (counted ∷ []) misses in
      at_other key (record {
        no_counter = All-head (Misses key) counted [] rest;
        no_queue = All-head (Misses key) queue_goes (counted ∷ []) misses;
        no_key = λ other its. let both : ◌≡◌ {A = Option ℕ} None (Some other) = sym no_key ∙ its in absurd cc;
      }))

  keyed_leads : (k : ℕ) → q.key ≡ Some k → Leads (plan_of (Some k) id (one_less (counter_of s))) left new
  keyed_leads k given = leads_by left new (plan_of (Some k) id (one_less (counter_of s))) tt (All-nil (IsNew left new))
      (ascend id (Some k) (one_less (counter_of s)))
      (All-cons (Fills left new) (key_goes k) (queue_goes ∷ counted ∷ []) (key_stands k given, key_then k given)
      (All-cons (Fills left new) queue_goes (counted ∷ []) queue_fits
      (All-cons (Fills left new) counted [] counter_fits (All-nil (Fills left new)))))
      in_limits
      (λ key trials misses.
      let behind_key = All-tail (Misses key) (key_goes k) (queue_goes ∷ counted ∷ []) misses in
      let rest = All-tail (Misses key) queue_goes (counted ∷ []) behind_key in
      at_other key (record {
        no_counter = All-head (Misses key) counted [] rest;
        no_queue = All-head (Misses key) queue_goes (counted ∷ []) behind_key;
        no_key = λ other its.
            let both : ◌≡◌ {A = Option ℕ} (Some k) (Some other) = sym given ∙ its in
            let one : k ≡ other = cc in
            ap (λ (n : ℕ). is_same key (key_of_key n)) (sym one)
            ∙ All-head (Misses key) (key_goes k) (queue_goes ∷ counted ∷ []) misses;
      }))

  pub remove_leads : (key : Option ℕ) → q.key ≡ key → Leads (plan_of key id (one_less (counter_of s))) left new
  remove_leads None is = private_leads is
  remove_leads (Some k) is = keyed_leads k is
