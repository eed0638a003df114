-- One turn of a sweep: a message goes and, where it is the last of its type, the type.
use Rattle.std.proofs.Common.{◌≡◌, ℕ, suc, ◌+◌, ◌<◌, ℤ, pos, ◌≤ℤ◌, Bool, true, false, cond, List, [], ◌∷◌, drop, Option, Some, None, inl, refl, sym, ap, ◌∙◌, subst, arith}
use Rattle.std.specs.Prelude.{◌==◌, ◌≢◌, ◌||◌, option_and_then, slice_get}
use Rattle.xsi_control.specs.RemoveWords.{All, Contains, find, list_any, find-Some, found_id, in_range, lawful_queue, contains_tail, in_map, are_types_of, Fills, IsNew, Misses, leads_by, RecordKey, is_same, Message, Queue, IsLawfulMessage, IsLawfulQueue, has_id, State, TYPE, MESSAGE, MessageEntry, Record, type_number, guard_of, key_of_message, key_of_type, IsInRange, key_of, message_entry, queue_entry, type_entry, key_records, message_records, queue_records, type_records, is_of_type, serials, types, first_of, has_serial, message_record, type_record, Write, Delete, Ascend, IsBefore, IsTurn, has_type_number, swept, IsFiled, Leads, Plan, Records, key_written, writes_of}
use Rattle.std.proofs.lemmas.Bool.{eqb-true}
use Rattle.std.proofs.lemmas.Bool.Decides.{Decides-eqb, Decides-int_eq, nat_tests}
use Rattle.std.proofs.lemmas.List.Elements.{All-contains, All-cons, All-drop, All-head, All-nil, All-tail, All-weaker, Contains-append_left, Contains-append_right}
use Rattle.std.proofs.lemmas.List.Folds.{list_any_none}
use Rattle.page_locks.specs.declared.lock.LockName.TheVariants as names
use Rattle.queue_records.specs.declared.record.Record.TheVariants as records
use Rattle.xsi_inquiry.proofs.of_type_chains.Images.{queue_has}
use Rattle.xsi_control.specs.declared.turn.Turn.{Turn}
use Rattle.xsi_control.specs.Turns.{IsAtTurn, last_by, read_of, turn_plan, type_deletion}
use Rattle.xsi_control.proofs.PlaceLemmas.{any_alike, at_place, drop_at, first_left, left_at, none_behind, pairs_behind, place_of_serial, same_number, some_behind}
use Rattle.xsi_control.proofs.SweptLemmas.{some_is, swept_elsewhere, swept_is, swept_message, swept_otherwise, swept_type}

pub not_both : (b : Bool) → b ≡ true → b ≡ false → ⊥
not_both true t f = absurd cc
not_both false t f = absurd cc

module _ (id count : ℕ) (s : State) (filed : IsFiled s) (q : Queue) (m : Message)
    (found : find (has_id id) s.queues ≡ Some q) (its : q.id ≡ id) (at : slice_get q.messages count ≡ Some m) where
  abbrev message : Record
  message = records.Message (message_entry q m)

  abbrev of_type : Record
  of_type = records.Type (type_entry q m.mtype)

  abbrev message_key : RecordKey
  message_key = key_of_message id m.serial

  abbrev type_key : RecordKey
  type_key = key_of_type id m.mtype

  abbrev behind_it : List Message
  behind_it = drop (suc count) q.messages

  stands : Contains s.queues q
  stands = (find-Some (has_id id) s.queues q found).1

  own : IsLawfulQueue q
  own = lawful_queue s filed.lawful q stands

  there : Contains q.messages m
  there = at_place q.messages count m at

  typed : pos 1 ≤ℤ m.mtype
  typed = (All-contains (IsLawfulMessage q.next_serial) q.messages m own.messages_lawful there).typed

  self : (n : ℕ) → (n == n) ≡ true
  self n = (Decides-eqb n n).1 refl

  same_type : is_of_type m.mtype m ≡ true
  same_type = (Decides-int_eq m.mtype m.mtype).1 refl

  -- ---- a test of what is left before the turn and after it

  any_left : (p : Message → Bool) → list_any p (drop count q.messages) ≡ (p m || list_any p behind_it)
  any_left p = ap (list_any p) (drop_at q.messages count m at)

  any_here : (p : Message → Bool) → p m ≡ true → list_any p (drop count q.messages) ≡ true
  any_here p passes = any_left p ∙ ap (λ (b : Bool). b || list_any p behind_it) passes

  any_later : (p : Message → Bool) → p m ≡ false → list_any p (drop count q.messages) ≡ list_any p behind_it
  any_later p over = any_left p ∙ ap (λ (b : Bool). b || list_any p behind_it) over

  -- its serial is not among those behind it
  serial_gone : list_any (has_serial m.serial) behind_it ≡ false
  serial_gone = list_any_none (has_serial m.serial) behind_it
      (All-weaker (λ (n : Message). m.serial < n.serial) (λ (n : Message). has_serial m.serial n ≡ false)
      (λ n less. grind (arith, nat_tests, less)) behind_it
      (pairs_behind (λ (m n : Message). m.serial < n.serial) q.messages count m own.serials_ascend at))

  -- the number of its type tells its type
  type_tested : list_any (has_type_number (type_number m.mtype)) behind_it ≡ list_any (is_of_type m.mtype) behind_it
  type_tested = any_alike (has_type_number (type_number m.mtype)) (is_of_type m.mtype) behind_it
      (All-weaker (IsLawfulMessage q.next_serial)
      (λ (n : Message). has_type_number (type_number m.mtype) n ≡ is_of_type m.mtype n)
      (λ n l. same_number n.mtype m.mtype l.typed typed) behind_it
      (All-drop (IsLawfulMessage q.next_serial) (suc count) q.messages own.messages_lawful))

  -- ---- both records stand before the turn

  behind_queue : (r : Record) → Contains (type_records q) r → Contains (queue_records q) r
  behind_queue r has = Contains-append_right (key_records q) _ r (contains_tail (records.Queue (queue_entry q)) r _
      (Contains-append_left (type_records q) (message_records q) r has))

  message_there : Contains (queue_records q) message
  message_there = Contains-append_right (key_records q) _ message
      (contains_tail (records.Queue (queue_entry q)) message _
      (Contains-append_right (type_records q) (message_records q) message
      (in_map (λ (n : Message). records.Message (message_entry q n)) q.messages m there)))

  type_there : Contains (queue_records q) of_type
  type_there = behind_queue of_type (in_map (λ (t : ℤ). records.Type (type_entry q t)) (types q.messages) m.mtype
      (((are_types_of q.messages).stand m.mtype).1 (m, there, refl)))

  found_own : find (has_id q.id) s.queues ≡ Some q
  found_own = ap (λ (n : ℕ). find (has_id n) s.queues) its ∙ found

  message_found : message_record m.serial q ≡ Some message
  message_found = sym (ap (option_and_then (message_record m.serial)) found_own)
      ∙ queue_has s filed.lawful q stands message message_there

  type_found : type_record (type_number m.mtype) q ≡ Some of_type
  type_found = sym (ap (option_and_then (type_record (type_number m.mtype))) found_own)
      ∙ queue_has s filed.lawful q stands of_type type_there

  pub message_stands : swept id count s message_key ≡ Some message
  message_stands = swept_message id count s q found message_key refl refl
      ∙ ap (λ (b : Bool). cond b (message_record m.serial q) None) (any_here (has_serial m.serial) (self m.serial))
      ∙ message_found

  pub type_stands : swept id count s type_key ≡ Some of_type
  type_stands = swept_type id count s q found type_key refl refl
      ∙ ap (λ (b : Bool). cond b (type_record (type_number m.mtype) q) None)
      (any_here (has_type_number (type_number m.mtype)) (self (type_number m.mtype)))
      ∙ type_found

  -- ---- what stands after the turn

  message_gone : swept id (suc count) s message_key ≡ None
  message_gone = swept_message id (suc count) s q found message_key refl refl
      ∙ ap (λ (b : Bool). cond b (message_record m.serial q) None) serial_gone

  type_gone : list_any (is_of_type m.mtype) behind_it ≡ false → swept id (suc count) s type_key ≡ None
  type_gone none = swept_type id (suc count) s q found type_key refl refl
      ∙ ap (λ (b : Bool). cond b (type_record (type_number m.mtype) q) None) (type_tested ∙ none)

  number_left : (n : ℕ) → (n ≡ type_number m.mtype → list_any (is_of_type m.mtype) behind_it ≡ true) →
      list_any (has_type_number n) (drop count q.messages) ≡ list_any (has_type_number n) behind_it
  number_left n left = by (type_number m.mtype == n) refl
    where
      by : (b : Bool) → (type_number m.mtype == n) ≡ b →
          list_any (has_type_number n) (drop count q.messages) ≡ list_any (has_type_number n) behind_it
      by false e = any_later (has_type_number n) e
      by true e =
          let same : type_number m.mtype ≡ n = eqb-true (type_number m.mtype) n e in
          any_here (has_type_number n) e
          ∙ sym (ap (λ (k : ℕ). list_any (has_type_number k) behind_it) (sym same) ∙ type_tested ∙ left (sym same))

  -- the other records stand as they did
  others_stay : (key : RecordKey) → is_same key message_key ≡ false →
      (is_same key type_key ≡ true → list_any (is_of_type m.mtype) behind_it ≡ true) →
      swept id count s key ≡ swept id (suc count) s key
  others_stay key no_message left = by (key.queue == id) (key.kind == TYPE) (key.kind == MESSAGE) refl refl refl
    where
      of_a_type : key.queue ≡ id → key.kind ≡ TYPE → swept id count s key ≡ swept id (suc count) s key
      of_a_type at_id kind =
          let alike = number_left key.number (λ same. left (grind (arith, nat_tests, at_id, kind, same, its))) in
          swept_type id count s q found key at_id kind
          ∙ ap (λ (b : Bool). cond b (type_record key.number q) None) alike
          ∙ sym (swept_type id (suc count) s q found key at_id kind)

      of_a_message : key.queue ≡ id → key.kind ≡ MESSAGE → swept id count s key ≡ swept id (suc count) s key
      of_a_message at_id kind =
          let other : (m.serial == key.number) ≡ false = grind (arith, nat_tests, at_id, kind, its, no_message) in
          swept_message id count s q found key at_id kind
          ∙ ap (λ (b : Bool). cond b (message_record key.number q) None) (any_later (has_serial key.number) other)
          ∙ sym (swept_message id (suc count) s q found key at_id kind)

      by : (its_id of_type message : Bool) → (key.queue == id) ≡ its_id →
          (key.kind == TYPE) ≡ of_type → (key.kind == MESSAGE) ≡ message →
          swept id count s key ≡ swept id (suc count) s key
      by false t n e f g =
          let apart : key.queue ≢ id = λ same. grind (arith, nat_tests, e, same) in
          swept_elsewhere id count s key apart ∙ sym (swept_elsewhere id (suc count) s key apart)
      by true true n e f g = of_a_type (eqb-true key.queue id e) (eqb-true key.kind TYPE f)
      by true false true e f g = of_a_message (eqb-true key.queue id e) (eqb-true key.kind MESSAGE g)
      by true false false e f g =
          let no_type : key.kind ≢ TYPE = λ kind. grind (arith, nat_tests, f, kind) in
          let no_message : key.kind ≢ MESSAGE = λ kind. grind (arith, nat_tests, g, kind) in
          swept_otherwise id count s key no_type no_message
          ∙ sym (swept_otherwise id (suc count) s key no_type no_message)

  -- ---- the writes

  abbrev old : Records
  old = swept id count s

  abbrev new : Records
  new = swept id (suc count) s

  abbrev message_goes : Write
  message_goes = Delete message_key

  abbrev type_goes : Write
  type_goes = Delete type_key

  -- where the Message has this next of its type
  abbrev turned : Option ℕ → Plan
  turned next = record { trials = []; slots = Some message_goes ∷ type_deletion id (last_by next m.mtype) ∷ [] }

  in_limits : (key : RecordKey) (r : Record) → new key ≡ Some r → IsInRange r
  in_limits key r is = in_range s key r filed.lawful (swept_is id (suc count) s key r is)

  message_fits : Fills old new message_goes
  message_fits = (some_is _ message message_stands, message_gone)

  one_ascends : (w : Write) → Ascend (w ∷ [])
  one_ascends w = (All-nil (IsBefore w), tt)

  two_ascend : Ascend (message_goes ∷ type_goes ∷ [])
  two_ascend = (
    All-cons (IsBefore message_goes) type_goes [] (inl (omega arith)) (All-nil (IsBefore message_goes)),
    one_ascends type_goes,
  )

  last_leads : list_any (is_of_type m.mtype) behind_it ≡ false → Leads (turned None) old new
  last_leads none = leads_by old new (turned None) tt (All-nil (IsNew old new)) two_ascend
      (All-cons (Fills old new) message_goes (type_goes ∷ []) message_fits
      (All-cons (Fills old new) type_goes [] (some_is _ of_type type_stands, type_gone none) (All-nil (Fills old new))))
      in_limits
      (λ key trials misses.
      let no_type = All-head (Misses key) type_goes [] (All-tail (Misses key) message_goes (type_goes ∷ []) misses) in
      others_stay key (All-head (Misses key) message_goes (type_goes ∷ []) misses)
      (λ same. absurd (not_both (is_same key type_key) same no_type)))

  other_leads : (next : ℕ) → list_any (is_of_type m.mtype) behind_it ≡ true → Leads (turned (Some next)) old new
  other_leads next some = leads_by old new (turned (Some next)) tt (All-nil (IsNew old new)) (one_ascends message_goes)
      (All-cons (Fills old new) message_goes [] message_fits (All-nil (Fills old new)))
      in_limits
      (λ key trials misses. others_stay key (All-head (Misses key) message_goes [] misses) (λ _. some))

  -- ---- the turn

  abbrev entry : MessageEntry
  entry = message_entry q m

  leads : (next : Option ℕ) → entry.next_of_type ≡ next → Leads (turned next) old new
  leads None is = last_leads (none_behind (is_of_type m.mtype) q.messages count m own.serials_ascend at same_type is)
  leads (Some next) is = other_leads next
      (some_behind (is_of_type m.mtype) q.messages count m next own.serials_ascend at same_type is)

  abbrev IsHis : Write → Type 0
  IsHis w = Contains (names.Queue id ∷ []) (guard_of (key_written w))

  abbrev IsHisRecord : Record → Type 0
  IsHisRecord r = Contains (names.Queue id ∷ []) (guard_of (key_of r))

  his : Contains (names.Queue id ∷ []) (names.Queue id)
  his = (0, omega arith, refl)

  under : (next : Option ℕ) → All IsHis (writes_of (turned next))
  under None = All-cons IsHis message_goes (type_goes ∷ []) his (All-cons IsHis type_goes [] his (All-nil IsHis))
  under (Some next) = All-cons IsHis message_goes [] his (All-nil IsHis)

  ascend : (next : Option ℕ) → Ascend (writes_of (turned next))
  ascend None = two_ascend
  ascend (Some next) = one_ascends message_goes

  next_is : entry.next ≡ first_of (serials (drop (suc count) q.messages))
  next_is = ap (λ (i : ℕ). slice_get (serials q.messages) (suc i))
      (place_of_serial q.messages count m own.serials_ascend at)
      ∙ left_at q.messages (suc count)

  -- the Message goes, and its Type with the last message of it
  pub is_turn : IsTurn id count q s entry.next (turned entry.next_of_type)
  is_turn =
      let behind_place : suc count ≡ count + 1 = omega arith in
      record {
        no_trials = refl;
        leads = subst (λ (n : ℕ). Leads (turned entry.next_of_type) old (swept id n s)) behind_place
            (leads entry.next_of_type refl);
        own = record { trials = All-nil IsHisRecord; writes = under entry.next_of_type };
        ordered = record { trials = tt; writes = ascend entry.next_of_type };
        next_left = subst (λ (n : ℕ). entry.next ≡ first_of (serials (drop n q.messages))) behind_place next_is;
      }

-- what a turn reads is the Message of the first message that is left
pub turn_read : (count : ℕ) (q : Queue) (s : State) (t : Turn) → IsFiled s → IsAtTurn count q s t →
    (m : Message) × (slice_get q.messages count ≡ Some m)
    × (swept t.id count s (key_of_message t.id t.serial) ≡ Some (records.Message (message_entry q m)))
turn_read count q s t filed turn =
    let (m, at, same) = first_left q.messages count t.serial turn.first in
    let its = found_id s t.id q turn.alive in (
      m,
      at,
      ap (λ (n : ℕ). swept t.id count s (key_of_message t.id n)) (sym same)
          ∙ message_stands t.id count s filed q m turn.alive its at,
    )

-- so something is found, and it is a Message
pub is_found : (count : ℕ) (q : Queue) (s : State) (t : Turn) → IsFiled s → IsAtTurn count q s t →
    None ≡ swept t.id count s (key_of_message t.id t.serial) → ⊥
is_found count q s t filed turn none =
    let (m, at, stands) = turn_read count q s t filed turn in
    let clash : ◌≡◌ {A = Option Record} None (Some (records.Message (message_entry q m))) = none ∙ stands in
    absurd cc

pub is_message : (count : ℕ) (q : Queue) (s : State) (t : Turn) → IsFiled s → IsAtTurn count q s t → (r : Record) →
    Some r ≡ swept t.id count s (key_of_message t.id t.serial) → (e : MessageEntry) × (r ≡ records.Message e)
is_message count q s t filed turn r told =
    let (m, at, stands) = turn_read count q s t filed turn in
    let both : ◌≡◌ {A = Option Record} (Some r) (Some (records.Message (message_entry q m))) = told ∙ stands in
    (message_entry q m, cc)

-- and what is made of it is the turn
pub turn_taken : (count : ℕ) (q : Queue) (s : State) (t : Turn) → IsFiled s → IsAtTurn count q s t →
    (e : MessageEntry) →
    Some (records.Message e) ≡ swept t.id count s (key_of_message t.id t.serial) →
    IsTurn t.id count q s (read_of e).next (turn_plan (record t { read = Some (read_of e) }))
turn_taken count q s t filed turn e told =
    let (m, at, same) = first_left q.messages count t.serial turn.first in
    let its = found_id s t.id q turn.alive in
    let stands = ap (λ (n : ℕ). swept t.id count s (key_of_message t.id n)) (sym same)
    ∙ message_stands t.id count s filed q m turn.alive its at in
    let both : ◌≡◌ {A = Option Record} (Some (records.Message e)) (Some (records.Message (message_entry q m))) =
    told ∙ stands in
    let it : message_entry q m ≡ e = cc in
    subst (λ (n : ℕ). IsTurn t.id count q s (read_of e).next
    (turn_plan (record { id = t.id; serial = n; read = Some (read_of e) }))) same
    (subst (λ (x : MessageEntry). IsTurn t.id count q s x.next
    (turn_plan (record { id = t.id; serial = m.serial; read = Some (read_of x) }))) it
    (is_turn t.id count s filed q m turn.alive its at))
