-- The image of a lawful system and its records at keys are the same records.
use Rattle.std.proofs.Common.{◌≡◌, ℕ, ◌<◌, ℤ, Bool, true, [], ◌++◌, map, Option, Some, inl, inr, ◌↔◌, refl, sym, ap, ◌∙◌, subst, get_or, arith}
use Rattle.std.specs.Prelude.{◌==◌, option_map, option_and_then, option_to_list}
use Rattle.std.specs.List.{Contains, find, flat_map}
use Rattle.std.proofs.lemmas.Bool.{eqb-true}
use Rattle.std.proofs.lemmas.Bool.Decides.{Decides-eqb}
use Rattle.std.proofs.lemmas.List.Elements.{Contains-append_left, Contains-append_right, Contains-append_cases}
use Rattle.queue_records.specs.bucket_page.declared.record_key.RecordKey.{RecordKey}
use Rattle.queue_model.specs.declared.message.Message.{Message}
use Rattle.queue_model.specs.declared.queue.Queue.{Queue}
use Rattle.queue_model.specs.Lawful.{IsLawful, AreKeysApart}
use Rattle.queue_model.specs.Rules.{has_id, has_key}
use Rattle.queue_model.specs.State.{State}
use Rattle.queue_model.proofs.ListLemmas.{find-Some}
use Rattle.queue_records.specs.declared.record.Record.{Record}
use Rattle.queue_records.specs.declared.record.Record.TheVariants as records
use Rattle.queue_records.specs.Fields.{type_number}
use Rattle.queue_records.specs.Spelling.{key_of}
use Rattle.type_chains.specs.Entries.{counter_of, key_entry, queue_entry, type_entry, message_entry}
use Rattle.type_chains.specs.Image.{image, queue_records, key_records, type_records, message_records}
use Rattle.type_chains.specs.Lists.{types}
use Rattle.type_chains.specs.RecordOf.{has_number, has_serial, type_record, message_record, record_of}
use Rattle.type_chains.proofs.Cases.{holds_at, stands_at_its_key}
use Rattle.type_chains.proofs.Limits.{all_types, lawful_queue}
use Rattle.type_chains.proofs.Members.{contains_head, contains_tail, head_or_tail, in_map, from_map, in_flat_map, from_flat_map, from_option}
use Rattle.type_chains.proofs.Unique.{pairs_unmap, find_one, key_has, types_ascend, numbers_apart}

self : (n : ℕ) → (n == n) ≡ true
self n = (Decides-eqb n n).1 refl

module _ (s : State) (lawful : IsLawful s) (q : Queue) (stands : Contains s.queues q) where
  pub by_id : find (has_id q.id) s.queues ≡ Some q
  by_id =
      let ascend = pairs_unmap (λ (q : Queue). q.id) (λ (a b : ℕ). a < b) s.queues lawful.ids_ascend in
      find_one (has_id q.id) s.queues q stands (self q.id) (λ i j d before within one two.
      let first = eqb-true _ q.id one in
      let second = eqb-true _ q.id two in
      omega (arith, ascend i j d before within, first, second))

  by_key : (k : ℕ) → q.key ≡ Some k → find (has_key k) s.queues ≡ Some q
  by_key k has =
      let apart = pairs_unmap (λ (q : Queue). q.key) AreKeysApart s.queues lawful.keys_apart in
      find_one (has_key k) s.queues q stands (rw has (self k)) (λ i j d before within one two.
      apart i j d before within k (key_has k _ one) (key_has k _ two))

  by_serial : (m : Message) → Contains q.messages m → find (has_serial m.serial) q.messages ≡ Some m
  by_serial m there =
      let fine = lawful_queue s lawful q stands in
      find_one (has_serial m.serial) q.messages m there (self m.serial) (λ i j d before within one two.
      let first = eqb-true _ m.serial one in
      let second = eqb-true _ m.serial two in
      omega (arith, fine.serials_ascend i j d before within, first, second))

  by_number : (t : ℤ) → Contains (types q.messages) t → find (has_number (type_number t)) (types q.messages) ≡ Some t
  by_number t there =
      let fine = all_types s lawful q stands in
      find_one (has_number (type_number t)) (types q.messages) t there (self (type_number t))
      (λ i j d before within one two.
      numbers_apart (get_or (types q.messages) i d) (get_or (types q.messages) j d) (type_number t)
      (fine i d (omega (arith, before, within))) (fine j d within) (types_ascend q.messages i j d before within)
      (eqb-true _ (type_number t) one) (eqb-true _ (type_number t) two))

  -- each record of a queue is the one at its key
  pub queue_has : (r : Record) → Contains (queue_records q) r → record_of s (key_of r) ≡ Some r
  queue_has r at = elim (Contains-append_cases (key_records q) _ r at) [
    | inl keyed ↦
        let (k, has, is) = from_map (λ (k : ℕ). records.Key (key_entry k q)) (option_to_list q.key) r keyed in
        let found = ap (option_map (λ (q : Queue). records.Key (key_entry k q))) (by_key k (from_option q.key k has)) in
        subst (λ (x : Record). record_of s (key_of x) ≡ Some x) is found
    | inr more ↦ elim (head_or_tail (records.Queue (queue_entry q)) r (type_records q ++ message_records q) more) [
      | inl is ↦
          let found = ap (option_map (λ (q : Queue). records.Queue (queue_entry q))) by_id in
          subst (λ (x : Record). record_of s (key_of x) ≡ Some x) is found
      | inr more ↦ elim (Contains-append_cases (type_records q) (message_records q) r more) [
        | inl typed ↦
            let (t, has, is) = from_map (λ (t : ℤ). records.Type (type_entry q t)) (types q.messages) r typed in
            let found = ap (option_and_then (type_record (type_number t))) by_id
            ∙ ap (option_map (λ (t : ℤ). records.Type (type_entry q t))) (by_number t has) in
            subst (λ (x : Record). record_of s (key_of x) ≡ Some x) is found
        | inr sent ↦
            let (m, has, is) = from_map (λ (m : Message). records.Message (message_entry q m)) q.messages r sent in
            let found = ap (option_and_then (message_record m.serial)) by_id
            ∙ ap (option_map (λ (m : Message). records.Message (message_entry q m))) (by_serial m has) in
            subst (λ (x : Record). record_of s (key_of x) ≡ Some x) is found
      ]
    ]
  ]

-- each record of the image is the one at its key
pub image_has : (s : State) → IsLawful s → (r : Record) → Contains (image s) r → record_of s (key_of r) ≡ Some r
image_has s lawful r at = elim (head_or_tail (records.Counter (counter_of s)) r (flat_map queue_records s.queues) at) [
  | inl is ↦ subst (λ (x : Record). record_of s (key_of x) ≡ Some x) is refl
  | inr more ↦
      let (q, stands, has) = from_flat_map queue_records s.queues r more in
      queue_has s lawful q stands r has
]

-- what a queue found has is in the image
of_queue : (s : State) (p : Queue → Bool) (q : Queue) (r : Record) → find p s.queues ≡ Some q →
    Contains (queue_records q) r → Contains (image s) r
of_queue s p q r found has = contains_tail (records.Counter (counter_of s)) r (flat_map queue_records s.queues)
    (in_flat_map queue_records s.queues q r (find-Some p s.queues q found).1 has)

-- behind a queue's Key and Queue its types and messages
behind_queue : (q : Queue) (r : Record) → Contains (type_records q ++ message_records q) r
    → Contains (queue_records q) r
behind_queue q r has = Contains-append_right (key_records q) _ r
    (contains_tail (records.Queue (queue_entry q)) r (type_records q ++ message_records q) has)

in_image : (s : State) (key : RecordKey) (r : Record) → record_of s key ≡ Some r → Contains (image s) r
in_image s key r at = holds_at s (λ (k : RecordKey) (x : Record). Contains (image s) x) (record {
  counter = contains_head (records.Counter (counter_of s)) (flat_map queue_records s.queues);
  key = λ k q found.
      let has = key_has k q.key (find-Some (has_key k) s.queues q found).0 in
      let one : Contains (key_records q) (records.Key (key_entry k q)) =
      subst (λ (o : Option ℕ). Contains (map (λ (k : ℕ). records.Key (key_entry k q)) (option_to_list o))
      (records.Key (key_entry k q))) (sym has)
      (contains_head (records.Key (key_entry k q)) []) in
      of_queue s (has_key k) q _ found (Contains-append_left (key_records q) _ _ one);
  queue = λ id q found its. of_queue s (has_id id) q _ found (Contains-append_right (key_records q) _ _
      (contains_head (records.Queue (queue_entry q)) (type_records q ++ message_records q)));
  mtype = λ id number q t found its there. of_queue s (has_id id) q _ found (behind_queue q _
      (Contains-append_left (type_records q) (message_records q) _ (in_map (λ (t : ℤ). records.Type (type_entry q t))
      (types q.messages) t (find-Some (has_number number) (types q.messages) t there).1)));
  message = λ id serial q m found its there. of_queue s (has_id id) q _ found (behind_queue q _
      (Contains-append_right (type_records q) (message_records q) _
      (in_map (λ (m : Message). records.Message (message_entry q m))
      q.messages m (find-Some (has_serial serial) q.messages m there).1)));
}) key r at

pub image_agrees : (s : State) → IsLawful s → (key : RecordKey) (r : Record) →
    (record_of s key ≡ Some r) ↔ (Contains (image s) r × (key_of r ≡ key))
image_agrees s lawful key r = (
  λ at. (in_image s key r at, stands_at_its_key s key r at),
  λ both. subst (λ (k : RecordKey). record_of s k ≡ Some r) both.1 (image_has s lawful r both.0),
)
