-- A key tells the queue that its record is of, and no two records of the image have one key.
use Rattle.std.proofs.Common.{◌≡◌, ℕ, ◌<◌, ℤ, List, [], ◌∷◌, ◌++◌, map, Option, Some, None, refl, sym, ap, ◌∙◌, get_or, arith}
use Rattle.std.specs.Prelude.{◌≢◌, option_to_list}
use Rattle.std.specs.List.{All, AllPairs, Contains, find, flat_map}
use Rattle.std.proofs.lemmas.Option.{same_Some}
use Rattle.std.proofs.lemmas.List.Elements.{All-nil, All-cons, All-append, All-map, All-contains, Contains-get_or}
use Rattle.std.proofs.lemmas.List.Kept.{AllPairs-cons}
use Rattle.queue_records.specs.bucket_page.declared.record_key.RecordKey.{RecordKey}
use Rattle.queue_model.specs.declared.message.Message.{Message}
use Rattle.queue_model.specs.declared.queue.Queue.{Queue}
use Rattle.queue_model.specs.Lawful.{IsLawful}
use Rattle.queue_model.specs.Rules.{has_id}
use Rattle.queue_model.specs.State.{State}
use Rattle.queue_records.specs.declared.layout.TheConstants.{COUNTER, KEY, QUEUE, TYPE, MESSAGE}
use Rattle.queue_records.specs.declared.record.Record.{Record}
use Rattle.queue_records.specs.declared.record.Record.TheVariants as records
use Rattle.queue_records.specs.Fields.{type_number}
use Rattle.queue_records.specs.Spelling.{key_of}
use Rattle.type_chains.specs.Entries.{counter_of, key_entry, queue_entry, type_entry, message_entry}
use Rattle.type_chains.specs.Image.{image, queue_records, key_records, type_records, message_records}
use Rattle.type_chains.specs.Lists.{types}
use Rattle.type_chains.specs.RecordOf.{record_of}
use Rattle.type_chains.proofs.Images.{by_id, queue_has}
use Rattle.type_chains.proofs.Limits.{all_types, lawful_queue}
use Rattle.type_chains.proofs.Pairs.{AllAcross, all_of, pairs_append, pairs_map, pairs_flat_map, All-flat_map}
use Rattle.type_chains.proofs.Unique.{pairs_nil, pairs_unmap, types_ascend, numbers_apart}

-- the id that a record names
abbrev named : Record → ℕ
named (records.Counter c) = 0
named (records.Key k) = k.id
named (records.Queue q) = q.id
named (records.Type t) = t.id
named (records.Message m) = m.id

-- two records have keys of their own
abbrev AreApart : Record → Record → Type 0
AreApart a b = key_of a ≢ key_of b

-- a fact of each record of a queue
all_records : (P : Record → Type 0) (q : Queue) → ((k : ℕ) → P (records.Key (key_entry k q))) →
    P (records.Queue (queue_entry q)) → ((t : ℤ) → P (records.Type (type_entry q t))) →
    ((m : Message) → P (records.Message (message_entry q m))) → All P (queue_records q)
all_records P q keys queue mtypes messages =
    All-append P (key_records q) _
    (All-map P (λ (k : ℕ). records.Key (key_entry k q)) (option_to_list q.key)
    (λ k d within. keys (get_or (option_to_list q.key) k d)))
    (All-cons P (records.Queue (queue_entry q)) (type_records q ++ message_records q) queue
    (All-append P (type_records q) (message_records q)
    (All-map P (λ (t : ℤ). records.Type (type_entry q t)) (types q.messages)
    (λ k d within. mtypes (get_or (types q.messages) k d)))
    (All-map P (λ (m : Message). records.Message (message_entry q m)) q.messages
    (λ k d within. messages (get_or q.messages k d)))))

names_its_queue : (q : Queue) → All (λ (r : Record). named r ≡ q.id) (queue_records q)
names_its_queue q = all_records (λ (r : Record). named r ≡ q.id) q (λ k. refl) refl (λ t. refl) (λ m. refl)

no_counter : (q : Queue) → All (λ (r : Record). (key_of r).kind ≢ COUNTER) (queue_records q)
no_counter q = all_records (λ (r : Record). (key_of r).kind ≢ COUNTER) q
    (λ k e. omega (arith, e)) (λ e. omega (arith, e)) (λ t e. omega (arith, e)) (λ m e. omega (arith, e))

-- records of other kinds have other keys
across_kinds : (kind : ℕ) (xs ys : List Record) → All (λ (r : Record). (key_of r).kind ≡ kind) xs →
    All (λ (r : Record). (key_of r).kind ≢ kind) ys → AllAcross AreApart xs ys
across_kinds kind xs ys first second k d within j e there same =
    second j e there (sym (ap (λ (key : RecordKey). key.kind) same) ∙ first k d within)

key_pairs : (q : Queue) (o : Option ℕ) → AllPairs AreApart
    (map (λ (k : ℕ). records.Key (key_entry k q)) (option_to_list o))
key_pairs q None = pairs_nil AreApart
key_pairs q (Some k) = AllPairs-cons AreApart (records.Key (key_entry k q)) []
    (All-nil (AreApart (records.Key (key_entry k q)))) (pairs_nil AreApart)

module _ (s : State) (lawful : IsLawful s) where
  -- a key tells its queue
  pub tells_queue : (p q : Queue) (a b : Record) → Contains s.queues p → Contains s.queues q →
      Contains (queue_records p) a → Contains (queue_records q) b → key_of a ≡ key_of b → p ≡ q
  tells_queue p q a b here there first second same =
      let at_a = queue_has s lawful p here a first in
      let at_b = queue_has s lawful q there b second in
      let one : a ≡ b = same_Some a b (sym at_a ∙ ap (record_of s) same ∙ at_b) in
      let of_a = All-contains (λ (r : Record). named r ≡ p.id) (queue_records p) a (names_its_queue p) first in
      let of_b = All-contains (λ (r : Record). named r ≡ q.id) (queue_records q) b (names_its_queue q) second in
      let ids : p.id ≡ q.id = sym of_a ∙ ap named one ∙ of_b in
      same_Some p q (sym (by_id s lawful p here) ∙ ap (λ (id : ℕ). find (has_id id) s.queues) ids
      ∙ by_id s lawful q there)

  -- the records of one queue
  within_queue : (q : Queue) → Contains s.queues q → AllPairs AreApart (queue_records q)
  within_queue q stands =
      let fine = all_types s lawful q stands in
      let sent = (lawful_queue s lawful q stands).serials_ascend in
      let of_types = pairs_map (λ (t : ℤ). records.Type (type_entry q t)) AreApart (types q.messages)
      (λ i j d before within same. numbers_apart (get_or (types q.messages) i d) (get_or (types q.messages) j d)
      (type_number (get_or (types q.messages) j d)) (fine i d (omega (arith, before, within))) (fine j d within)
      (types_ascend q.messages i j d before within) (ap (λ (key : RecordKey). key.number) same) refl) in
      let of_messages = pairs_map (λ (m : Message). records.Message (message_entry q m)) AreApart q.messages
      (λ i j d before within same. let serial = ap (λ (key : RecordKey). key.number) same in
      omega (arith, sent i j d before within, serial)) in
      let typed = All-map (λ (r : Record). (key_of r).kind ≡ TYPE) (λ (t : ℤ). records.Type (type_entry q t))
      (types q.messages) (λ k d within. refl) in
      let not_typed = All-map (λ (r : Record). (key_of r).kind ≢ TYPE)
      (λ (m : Message). records.Message (message_entry q m)) q.messages (λ k d within same. omega (arith, same)) in
      let keyed = All-map (λ (r : Record). (key_of r).kind ≡ KEY) (λ (k : ℕ). records.Key (key_entry k q))
      (option_to_list q.key) (λ k d within. refl) in
      let of_kind = λ (kind : ℕ) (no_type : TYPE ≢ kind) (no_message : MESSAGE ≢ kind).
      All-append (λ (r : Record). (key_of r).kind ≢ kind) (type_records q) (message_records q)
      (All-map (λ (r : Record). (key_of r).kind ≢ kind) (λ (t : ℤ). records.Type (type_entry q t))
      (types q.messages) (λ k d within. no_type))
      (All-map (λ (r : Record). (key_of r).kind ≢ kind) (λ (m : Message). records.Message (message_entry q m))
      q.messages (λ k d within. no_message)) in
      let more = pairs_append AreApart (type_records q) (message_records q) of_types of_messages
      (across_kinds TYPE (type_records q) (message_records q) typed not_typed) in
      let from_queue : All (AreApart (records.Queue (queue_entry q))) (type_records q ++ message_records q) =
      λ k d within same. of_kind QUEUE (λ e. omega (arith, e)) (λ e. omega (arith, e)) k d within
      (sym (ap (λ (key : RecordKey). key.kind) same)) in
      let rest : List Record = records.Queue (queue_entry q) ∷ (type_records q ++ message_records q) in
      pairs_append AreApart (key_records q) rest (key_pairs q q.key)
      (AllPairs-cons AreApart (records.Queue (queue_entry q)) (type_records q ++ message_records q) from_queue more)
      (across_kinds KEY (key_records q) rest keyed
      (All-cons (λ (r : Record). (key_of r).kind ≢ KEY) (records.Queue (queue_entry q))
      (type_records q ++ message_records q) (λ e. omega (arith, e))
      (of_kind KEY (λ e. omega (arith, e)) (λ e. omega (arith, e)))))

  -- no two records of the image have one key
  pub keys_apart : AllPairs AreApart (image s)
  keys_apart =
      let ascend = pairs_unmap (λ (q : Queue). q.id) (λ (a b : ℕ). a < b) s.queues lawful.ids_ascend in
      AllPairs-cons AreApart (records.Counter (counter_of s)) (flat_map queue_records s.queues)
      (λ k d within same. All-flat_map (λ (r : Record). (key_of r).kind ≢ COUNTER) queue_records s.queues
      (λ j e there. no_counter (get_or s.queues j e))
      k d within (sym (ap (λ (key : RecordKey). key.kind) same)))
      (pairs_flat_map AreApart queue_records s.queues
      (all_of (λ (q : Queue). AllPairs AreApart (queue_records q)) s.queues within_queue)
      (λ i j d before within.
      let here = Contains-get_or s.queues i d (omega (arith, before, within)) in
      let there = Contains-get_or s.queues j d within in
      all_of (λ (a : Record). All (AreApart a) (queue_records (get_or s.queues j d)))
      (queue_records (get_or s.queues i d)) (λ a first.
      all_of (AreApart a) (queue_records (get_or s.queues j d)) (λ b second same.
      let one = ap (λ (q : Queue). q.id) (tells_queue (get_or s.queues i d) (get_or s.queues j d)
      a b here there first second same) in
      omega (arith, ascend i j d before within, one)))))
