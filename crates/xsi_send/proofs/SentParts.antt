-- The records that a Send writes to its queue, and those that it leaves.
use Rattle.xsi_send.proofs.Names.{All, All-contains, All-weaker, AllPairs, Bool, Caller, Contains, Contains-append_cases, Contains-append_left, Effect-outcome, Fills, IsFiled, IsInRange, IsLawful, IsLawful-Effect, IsLawfulMessage, IsLawfulQueue, IsNew, IsOpen, IsOrdered, IsType, IsUnder, Leads, List, MESSAGE, Message, MessageEntry, None, Option, Plan, QUEUE, Queue, QueueEntry, Record, RecordKey, Relink, Replace, Send, SendArguments, Sent, Some, State, Stays, TYPE, TypeEntry, TypeLinks, [], all_types, ap, append-nil, are_types_of, arith, cond, contains_tail, eqb-true, false, filter, find, find-None, find-Some, found_new, has_id, has_number, has_serial, head_or_tail, in_range, inl, inr, is_of_type, is_same, key_of, key_of_message, key_of_type, last_message, last_of, lawful_queue, length, length-queue, link_if, links_behind, made_of_the_queue, message_entry, message_of, message_record, message_stands, nat_tests, option_and_then, option_map, pos, position_None, queue_entry, queue_stands, queue_write, record_of, refl, relinked, stands, subst, sym, takes_more, true, type_entry, type_number, type_record, type_stands, types, value_length, with_message, with_message_links, with_one_more, with_queue, with_type_links, ℕ, ℤ, ◌++◌, ◌<◌, ◌==◌, ◌∙◌, ◌∷◌, ◌≡◌, ◌≤ℤ◌}
use Rattle.queue_records.specs.declared.record.Record.TheVariants as records
use Rattle.page_locks.specs.declared.lock.LockName.TheVariants as names
use Rattle.queue_records.specs.declared.links.Links.TheVariants as links
use Rattle.type_chains.proofs.Beside.{contains_at, split_last}
use Rattle.type_chains.proofs.Sorted.{pairs_front}
use Rattle.xsi_send.proofs.Walked.{more_taken}
use Rattle.type_chains.proofs.MessagesWith.{is_linked}
use Rattle.xsi_send.proofs.Told.{typed}

-- a plan of a call that holds the queue of an id: what it leads to, where it writes, and in which order
pub record IsRightPlan (id : ℕ) (p : Plan) (old new : RecordKey → Option Record) : Type 0 where
  pub leads : Leads p old new
  pub own : IsUnder (names.Queue id ∷ []) p
  pub ordered : IsOrdered p

-- a record that a write misses is another
pub misses_key : (key k : RecordKey) → is_same key k ≡ false → key.kind ≡ k.kind → key.queue ≡ k.queue →
    key.number ≡ k.number → ⊥
misses_key key k misses kind queue number =
    absurd (grind (arith, nat_tests, kind, queue, number, misses))

-- ---- searches

pub find_over : {X : Type 0} (p : X → Bool) (xs ys : List X) (y : X) → p y ≡ false → find p (xs ++ y ∷ ys) ≡ find p
    (xs ++ ys)
find_over p [] ys y over = rw over refl
find_over {X} p (x ∷ xs) ys y over = ap (λ (rest : Option X). cond (p x) (Some x) rest) (find_over p xs ys y over)

pub find_nothing : {X : Type 0} (p : X → Bool) (xs : List X) → All (λ (x : X). p x ≡ false) xs → find p xs ≡ None
find_nothing p xs none = find-None p xs (position_None p xs none)

-- what is made of what is found is the same where it is the same of that
pub made_same : {X Y : Type 0} (p : X → Bool) (xs : List X) (f g : X → Y) →
    ((x : X) → Contains xs x → p x ≡ true → f x ≡ g x) → option_map f (find p xs) ≡ option_map g (find p xs)
made_same {X} p xs f g same = by (find p xs) refl
  where
    by : (o : Option X) → find p xs ≡ o → option_map f o ≡ option_map g o
    by None found = refl
    by (Some x) found = let both = find-Some p xs x found in ap Some (same x both.1 both.0)

pub empty_filter : {X : Type 0} (p : X → Bool) (xs : List X) → ((x : X) → Contains xs x → p x ≡ true → ⊥) →
    filter p xs ≡ []
empty_filter p [] never = refl
empty_filter {X} p (x ∷ xs) never =
    by (p x) refl (empty_filter p xs (λ y has passes. never y (contains_tail x y xs has) passes))
  where
    by : (b : Bool) → p x ≡ b → filter p xs ≡ [] → cond b (x ∷ filter p xs) (filter p xs) ≡ []
    by true passes rest = absurd (never x (contains_at [] xs x) passes)
    by false over rest = rest

module _ (c : Caller) (a : SendArguments) (e : QueueEntry) (s : State) (filed : IsFiled s) (known : IsOpen c a e s)
  where
    abbrev q : Queue
    q = known.queue

    abbrev m : Message
    m = message_of c.pid a known.queue

    abbrev new : Queue
    new = with_message c.pid a known.queue

    abbrev t : State
    t = with_queue a.id (with_message c.pid a known.queue) s

    abbrev old_records : RecordKey → Option Record
    old_records = record_of s

    abbrev new_records : RecordKey → Option Record
    new_records = record_of t

    pub its_stands : Contains s.queues q
    its_stands = stands s filed.lawful a.id q known.found

    pub lawful_q : IsLawfulQueue q
    lawful_q = lawful_queue s filed.lawful q its_stands

    pub lawful_t : IsLawful t
    lawful_t = IsLawful-Effect c (Send a) (Sent q.next_serial) s t
        (Effect-outcome c (Send a) (Sent q.next_serial) s t known.outcome) filed.lawful

    -- by its own id both are found
    found_own : find (has_id q.id) s.queues ≡ Some q
    found_own = subst (λ (n : ℕ). find (has_id n) s.queues ≡ Some q) (sym known.its_id) known.found

    pub found_then : find (has_id q.id) t.queues ≡ Some new
    found_then = subst (λ (n : ℕ). find (has_id n) t.queues ≡ Some new) (sym known.its_id)
        (found_new a.id s q new known.found refl refl)

    -- each message that stood stands, and the new one does
    pub kept : (x : Message) → Contains q.messages x → Contains new.messages x
    kept x there = Contains-append_left q.messages (m ∷ []) x there

    -- ---- records that are written are new ones

    pub new_in_range : (key : RecordKey) (r : Record) → new_records key ≡ Some r → IsInRange r
    new_in_range key r is = in_range t key r lawful_t is

    -- a replacement by a record of the new queue that is as long as the one that it replaces
    pub fills : (r x y : Record) → y ≡ r → new_records (key_of y) ≡ Some y → old_records (key_of r) ≡ Some x →
        value_length x ≡ value_length r → Fills old_records new_records (Replace r)
    fills r x y same is was long = (
      subst (λ z. new_records (key_of z) ≡ Some z) same is,
      ap (option_map value_length) was ∙ ap Some long,
    )

    abbrev message_trial : Record
    message_trial = records.Message (last_message c.pid a (queue_entry q))

    pub queue_fills : Fills old_records new_records (Replace (records.Queue (with_one_more c.pid a (queue_entry q))))
    queue_fills =
        fills (records.Queue (with_one_more c.pid a (queue_entry q))) (records.Queue (queue_entry q))
        (records.Queue (queue_entry new)) (ap records.Queue (made_of_the_queue c.pid a q lawful_q).queue)
        (queue_stands t lawful_t q.id new found_then) (queue_stands s filed.lawful q.id q found_own)
        (length-queue (queue_entry q) ∙ sym (length-queue (with_one_more c.pid a (queue_entry q))))

    pub message_new : IsNew old_records new_records (records.Message (last_message c.pid a (queue_entry q)))
    message_new = subst (λ x. new_records (key_of (records.Message x)) ≡ Some (records.Message x))
        (made_of_the_queue c.pid a q lawful_q).message
        (message_stands t lawful_t q.id new found_then m (contains_at q.messages [] m))

    set_links : (x : Message) (on_queue of_type : Bool) → record (message_entry q x) {
      next = cond on_queue (Some q.next_serial) (message_entry q x).next;
      next_of_type = cond of_type (Some q.next_serial) (message_entry q x).next_of_type;
    } ≡ with_message_links (record {
      previous = Stays;
      next = link_if on_queue q.next_serial;
      next_of_type = link_if of_type q.next_serial;
    }) (message_entry q x)
    set_links x true true = refl
    set_links x true false = refl
    set_links x false true = refl
    set_links x false false = refl

    -- a Message behind which the new one comes
    pub linked_fills : (x : Message) → Contains q.messages x → (on_queue of_type : Bool) →
        (on_queue ≡ true → last_of q.messages ≡ Some x) → (on_queue ≡ false → last_of q.messages ≡ Some x → ⊥) →
        (of_type ≡ true → (x.mtype ≡ a.mtype) × (last_of (filter (is_of_type a.mtype) q.messages) ≡ Some x)) →
        (of_type ≡ false → (x.mtype ≡ a.mtype) × (last_of (filter (is_of_type a.mtype) q.messages) ≡ Some x) → ⊥) →
        Fills old_records new_records (Relink (key_of_message q.id x.serial)
        (links_behind q.next_serial on_queue of_type))
    linked_fills x there on_queue of_type last no_last typed no_typed =
        let turn = option_map (relinked (links_behind q.next_serial on_queue of_type)) in
        let stood = message_stands s filed.lawful q.id q found_own x there in
        let now = message_stands t lawful_t q.id new found_then x (kept x there) in (
          (message_entry q x, stood),
          now ∙ ap (λ (m : MessageEntry). Some (records.Message m))
              (is_linked c.pid a q lawful_q x there on_queue of_type last no_last typed no_typed
              ∙ set_links x on_queue of_type)
              ∙ sym (ap turn stood),
        )

    -- a Type that leads to the new message, or to its type
    pub type_fills : (u : ℤ) (l : TypeLinks) → type_entry new u ≡ with_type_links l (type_entry q u) →
        Contains (types q.messages) u → Contains (types new.messages) u →
        Fills old_records new_records (Relink (key_of_type q.id u) (links.Type l))
    type_fills u l is there still =
        let turn = option_map (relinked (links.Type l)) in
        let stood = type_stands s filed.lawful q.id q found_own u there in
        let now = type_stands t lawful_t q.id new found_then u still in (
          (type_entry q u, stood),
          now ∙ ap (λ (r : TypeEntry). Some (records.Type r)) is ∙ sym (ap turn stood),
        )

    -- each message but the last has a lesser serial
    pub less_than_last : (x y : Message) → Contains q.messages y → last_of q.messages ≡ Some x →
        (y.serial ≡ x.serial → ⊥) → y.serial < x.serial
    less_than_last x y there last apart =
        let (front, whole) = split_last q.messages x last in
        let less = pairs_front (λ (m n : Message). m.serial < n.serial) front [] x
        (subst (λ (ms : List Message). AllPairs (λ (m n : Message). m.serial < n.serial) ms) whole
        lawful_q.serials_ascend) in
        elim (Contains-append_cases front (x ∷ []) y (subst (λ (ms : List Message). Contains ms y) whole there)) [
          | inl first ↦ All-contains (λ (m : Message). m.serial < x.serial) front y less first
          | inr end ↦ elim (head_or_tail x y [] end) [
            | inl same ↦ absurd (apart (ap (λ (m : Message). m.serial) (sym same)))
            | inr (k, within, at) ↦ absurd (omega (arith, within))
          ]
        ]

    -- what the queue's name guards is the call's own
    pub mine : Contains (names.Queue a.id ∷ []) (names.Queue q.id)
    mine = subst (λ (n : ℕ). Contains (names.Queue a.id ∷ []) (names.Queue n)) (sym known.its_id)
        (contains_at [] [] (names.Queue a.id))

    -- the Queue is written where its counts stay numbers, as they do
    pub queue_is : queue_write c.pid a (queue_entry q) ≡ Some (Replace (records.Queue (with_one_more c.pid a
        (queue_entry q))))
    queue_is = ap (λ (b : Bool). cond b (Some (Replace (records.Queue (with_one_more c.pid a (queue_entry q))))) None)
        (subst (λ (x : QueueEntry). takes_more (length a.body) x ≡ true) known.entry (more_taken c a e s filed known))

    -- ---- keys at which nothing stands yet

    pub no_message : old_records (key_of (records.Message (last_message c.pid a (queue_entry q)))) ≡ None
    no_message =
        ap (λ n. old_records (record { kind = MESSAGE; queue = n; number = q.next_serial })) known.its_id
        ∙ ap (option_and_then (message_record q.next_serial)) known.found
        ∙ ap (option_map (λ (m : Message). records.Message (message_entry q m)))
        (find_nothing (has_serial q.next_serial) q.messages
        (All-weaker (IsLawfulMessage q.next_serial) (λ (m : Message). has_serial q.next_serial m ≡ false)
        (λ m l. let g = l.serial_given in grind (arith, nat_tests, g)) q.messages lawful_q.messages_lawful))

    -- ---- keys that no write meets

    pub queue_missed : (key : RecordKey) → is_same key (key_of (records.Queue (with_one_more c.pid a (queue_entry q))))
        ≡ false →
        key.kind ≡ QUEUE → key.queue ≡ a.id → key.number ≡ 0 → ⊥
    queue_missed key misses kind queue number =
        misses_key key (key_of (records.Queue (with_one_more c.pid a (queue_entry q)))) misses kind
        (queue ∙ sym known.its_id) number

    -- Messages stay where neither link ends
    pub messages_same : (key : RecordKey) → key.kind ≡ MESSAGE → key.queue ≡ a.id →
        is_same key (key_of (records.Message (last_message c.pid a (queue_entry q)))) ≡ false →
        ((x : Message) → Contains q.messages x → x.serial ≡ key.number → last_of q.messages ≡ Some x → ⊥) →
        ((x : Message) → Contains q.messages x → x.serial ≡ key.number → x.mtype ≡ a.mtype →
        last_of (filter (is_of_type a.mtype) q.messages) ≡ Some x → ⊥) →
        message_record key.number q ≡ message_record key.number new
    messages_same key kind queue misses no_last no_last_typed =
        made_same (has_serial key.number) q.messages (λ (x : Message). records.Message (message_entry q x))
        (λ (x : Message). records.Message (message_entry new x))
        (λ x there passes. let number = eqb-true x.serial key.number passes in
        ap records.Message (sym (is_linked c.pid a q lawful_q x there false false (λ never. absurd cc)
        (λ _. no_last x there number) (λ never. absurd cc) (λ _ is. no_last_typed x there number is.0 is.1))))
        ∙ ap (option_map (λ (x : Message). records.Message (message_entry new x)))
        (ap (find (has_serial key.number)) (sym (append-nil q.messages))
        ∙ sym (find_over (has_serial key.number) q.messages [] m (over (q.next_serial == key.number) refl)))
      where
        over : (b : Bool) → (q.next_serial == key.number) ≡ b → (q.next_serial == key.number) ≡ false
        over true e = absurd (misses_key key (key_of message_trial) misses kind
            (queue ∙ sym known.its_id) (sym (eqb-true q.next_serial key.number e)))
        over false e = e

    -- Types stay but where they are the message's own or next to it
    pub types_same : (key : RecordKey) (ts : List ℤ) → types new.messages ≡ ts →
        find (has_number key.number) ts ≡ find (has_number key.number) (types q.messages) →
        ((u : ℤ) → Contains (types q.messages) u → type_number u ≡ key.number → type_entry q u ≡ type_entry new u) →
        type_record key.number q ≡ type_record key.number new
    types_same key ts is found same =
        made_same (has_number key.number) (types q.messages) (λ (u : ℤ). records.Type (type_entry q u))
        (λ (u : ℤ). records.Type (type_entry new u))
        (λ u there passes. ap records.Type (same u there (eqb-true (type_number u) key.number passes)))
        ∙ ap (option_map (λ (u : ℤ). records.Type (type_entry new u)))
        (sym found ∙ ap (find (has_number key.number)) (sym is))

    -- what is written at the key of a message's Message, or of a type's Type, is missed by no write
    pub message_hit : (key : RecordKey) (x : Message) → is_same key (key_of_message q.id x.serial) ≡ false →
        key.kind ≡ MESSAGE → key.queue ≡ a.id → x.serial ≡ key.number → ⊥
    message_hit key x misses kind queue number =
        misses_key key (key_of_message q.id x.serial) misses kind (queue ∙ sym known.its_id) (sym number)

    pub type_hit : (key : RecordKey) (u : ℤ) → is_same key (key_of_type q.id u) ≡ false →
        key.kind ≡ TYPE → key.queue ≡ a.id → type_number u ≡ key.number → ⊥
    type_hit key u misses kind queue number =
        misses_key key (key_of_type q.id u) misses kind (queue ∙ sym known.its_id) (sym number)

    pub types_of_q : (u : ℤ) → Contains (types q.messages) u → pos 1 ≤ℤ u
    types_of_q u there = All-contains IsType (types q.messages) u (all_types s filed.lawful q its_stands) there

    pub of_type_stands : (x : Message) → Contains q.messages x → Contains (types q.messages) x.mtype
    of_type_stands x there = ((are_types_of q.messages).stand x.mtype).1 (x, there, refl)
