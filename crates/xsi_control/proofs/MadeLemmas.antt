-- The system with a new queue, which stands last and has the next id, and its records.
use Rattle.xsi_control.proofs.Names.{Bool, COUNTER, Caller, Counter, Decides-eqb, END_OF_IDS, GetArguments, IsFreshKey, IsLawful, IsLawful-create, KEY, List, MAX_QUEUES, MESSAGE, None, Option, QUEUE, Queue, Record, RecordKey, Some, State, TYPE, [], all_of, ap, arith, at_counter, at_key, at_queue, at_queue_of, cond, counter_key, counter_of, eqb-true, false, find, find-None, find-append, has_id, has_key, image_has, is_key, is_same, key_entry, key_has, key_of, key_of_key, key_of_queue, length, length-append, message_record, nat_tests, new_queue, option_and_then, option_map, option_or, position_None, queue_entry, record_of, refl, sym, true, type_record, with_new_queue, ℕ, ◌&&◌, ◌++◌, ◌+◌, ◌<◌, ◌==◌, ◌∙◌, ◌∷◌, ◌≡◌, ◌≤◌}
use Rattle.queue_records.specs.declared.record.Record.TheVariants as records

-- ---- one more stands last

-- a search finds the same, or y where it found none
find_push : {X Y : Type 0} (F : Option X → Y) (r : X → Bool) (xs : List X) (y : X) →
    (r y ≡ true → F (Some y) ≡ F None) → F (find r (xs ++ y ∷ [])) ≡ F (find r xs)
find_push {X} {Y} F r xs y alike = ap F (find-append r xs (y ∷ [])) ∙ by (find r xs) (r y) refl
  where
    by : (o : Option X) (b : Bool) → r y ≡ b → F (option_or o (cond b (Some y) None)) ≡ F o
    by None true e = alike e
    by None false e = refl
    by (Some x) b e = refl

find_new : {X : Type 0} (r : X → Bool) (xs : List X) (y : X) → find r xs ≡ None → r y ≡ true →
    find r (xs ++ y ∷ []) ≡ Some y
find_new {X} r xs y none passes = find-append r xs (y ∷ [])
    ∙ (λ i. option_or (none i) (cond (passes i) (Some y) None))

-- what a test lets choose is the same on both sides
alike : {X : Type 0} (b : Bool) (x y u v : X) → (b ≡ true → x ≡ u) → (b ≡ false → y ≡ v) → cond b x y ≡ cond b u v
alike true x y u v first second = first refl
alike false x y u v first second = second refl

self : (n : ℕ) → (n == n) ≡ true
self n = (Decides-eqb n n).1 refl

-- the Counter with one more
abbrev pub next_of : Counter → Counter
next_of n = record { next_id = n.next_id + 1; queues_alive = n.queues_alive + 1 }

-- a key that is not among those that are written
pub record IsOther (its : Option ℕ) (id : ℕ) (key : RecordKey) : Type 0 where
  pub no_counter : is_same key counter_key ≡ false
  pub no_queue : is_same key (key_of_queue id) ≡ false
  pub no_key : (k : ℕ) → its ≡ Some k → is_same key (key_of_key k) ≡ false

-- ---- the system with the queue

module _ (c : Caller) (a : GetArguments) (s : State) (lawful : IsLawful s) (fresh : IsFreshKey a.key s)
    (few : length s.queues < MAX_QUEUES) (more : s.next_id < END_OF_IDS) where
  abbrev pub new : Queue
  new = new_queue s.next_id c a

  abbrev pub t : State
  t = with_new_queue c a s

  abbrev pub its_record : Record
  its_record = records.Queue (queue_entry (new_queue s.next_id c a))

  abbrev pub its_counter : Record
  its_counter = records.Counter (next_of (counter_of s))

  abbrev pub its_key : ℕ → Record
  its_key key = records.Key (record { key = key; id = s.next_id })

  pub then_lawful : IsLawful t
  then_lawful =
      IsLawful-create s c a (λ full. omega (arith, few, full)) (λ last. omega (arith, more, last)) fresh lawful

  -- no queue has the next id
  pub unused : find (has_id s.next_id) s.queues ≡ None
  unused = find-None (has_id s.next_id) s.queues (position_None (has_id s.next_id) s.queues
      (all_of (λ (q : Queue). has_id s.next_id q ≡ false) s.queues (λ q stands.
      let given = image_has (λ (q : Queue). q.id) (λ (id : ℕ). (1 ≤ id) × (id < s.next_id)) s.queues q
      lawful.ids_given stands in
      let below : q.id < s.next_id = given.1 in
      grind (arith, nat_tests, below))))

  -- what stands then

  pub counter_then : record_of t (key_of its_counter) ≡ Some its_counter
  counter_then = ap (λ (n : ℕ). Some (records.Counter (record { next_id = s.next_id + 1; queues_alive = n })))
      (length-append s.queues (new ∷ []))

  pub queue_then : record_of t (key_of its_record) ≡ Some its_record
  queue_then = ap (option_map (λ (q : Queue). records.Queue (queue_entry q)))
      (find_new (has_id s.next_id) s.queues new unused (self s.next_id))

  pub key_then : (key : ℕ) → a.key ≡ Some key → record_of t (key_of (its_key key)) ≡ Some (its_key key)
  key_then key given =
      let has : has_key key new ≡ true = ap (is_key key) given ∙ self key in
      ap (option_map (λ (q : Queue). records.Key (key_entry key q)))
      (find_new (has_key key) s.queues new (fresh key given) has)

  -- ---- at the other keys

  module _ (key : RecordKey) (other : IsOther a.key s.next_id key) where
    counter_same : key.kind ≡ COUNTER → at_counter s key ≡ at_counter t key
    counter_same kind = alike (key.queue == 0 && key.number == 0) _ None _ None
        (λ zeros. let apart = other.no_counter in absurd (grind (arith, nat_tests, kind, zeros, apart))) (λ _. refl)

    key_same : key.kind ≡ KEY → at_key s key ≡ at_key t key
    key_same kind = alike (key.queue == 0) _ None _ None (λ zeroth. sym (find_push
        (option_map (λ (q : Queue). records.Key (key_entry key.number q))) (has_key key.number) s.queues new
        (λ has. let apart = other.no_key key.number (key_has key.number a.key has) in
        absurd (grind (arith, nat_tests, kind, zeroth, apart))))) (λ _. refl)

    queue_same : key.kind ≡ QUEUE → at_queue s key ≡ at_queue t key
    queue_same kind = alike (key.number == 0) _ None _ None (λ zeroth. sym (find_push
        (option_map (λ (q : Queue). records.Queue (queue_entry q))) (has_id key.queue) s.queues new
        (λ has. let apart = other.no_queue in absurd (grind (arith, nat_tests, kind, zeroth, has, apart)))))
        (λ _. refl)

    -- it has no message
    type_same : at_queue_of type_record s key ≡ at_queue_of type_record t key
    type_same = sym (find_push (option_and_then (type_record key.number)) (has_id key.queue) s.queues new (λ has. refl))

    message_same : at_queue_of message_record s key ≡ at_queue_of message_record t key
    message_same =
        sym (find_push (option_and_then (message_record key.number)) (has_id key.queue) s.queues new (λ has. refl))

    pub others_same : record_of s key ≡ record_of t key
    others_same =
        alike (key.kind == COUNTER) _ _ _ _ (λ e. counter_same (eqb-true key.kind COUNTER e)) (λ _.
        alike (key.kind == KEY) _ _ _ _ (λ e. key_same (eqb-true key.kind KEY e)) (λ _.
        alike (key.kind == QUEUE) _ _ _ _ (λ e. queue_same (eqb-true key.kind QUEUE e)) (λ _.
        alike (key.kind == TYPE) _ _ _ _ (λ e. type_same) (λ _.
        alike (key.kind == MESSAGE) _ _ _ _ (λ e. message_same) (λ _. refl)))))
