-- The five ways in which a system has a record at a key.
use Rattle.std.proofs.Common.{◌≡◌, ℕ, ℤ, Some, inl, inr, refl, sym, subst}
use Rattle.std.specs.Prelude.{◌==◌, ◌&&◌}
use Rattle.std.specs.List.{find}
use Rattle.std.proofs.lemmas.Bool.{eqb-true}
use Rattle.queue_records.specs.bucket_page.declared.record_key.RecordKey.{RecordKey}
use Rattle.queue_records.proofs.of_numbers.Tests.{both_true}
use Rattle.queue_model.specs.declared.message.Message.{Message}
use Rattle.queue_model.specs.declared.queue.Queue.{Queue}
use Rattle.queue_model.specs.Rules.{has_id, has_key}
use Rattle.queue_model.specs.State.{State}
use Rattle.queue_model.proofs.ListLemmas.{find-Some}
use Rattle.queue_records.specs.declared.layout.TheConstants.{COUNTER, KEY, QUEUE, TYPE, MESSAGE}
use Rattle.queue_records.specs.declared.record.Record.{Record}
use Rattle.queue_records.specs.declared.record.Record.TheVariants as records
use Rattle.queue_records.specs.Spelling.{key_of}
use Rattle.type_chains.specs.Entries.{counter_of, key_entry, queue_entry, type_entry, message_entry}
use Rattle.type_chains.specs.Lists.{types}
use Rattle.type_chains.specs.RecordOf.{has_serial, has_number, at_counter, at_key, at_queue, at_queue_of, type_record, message_record, record_of}
use Rattle.type_chains.proofs.Tests.{by_test, by_guard, mapped, chained, key_is}

-- P holds of each record of a system and its key
pub record HoldsOfEach (s : State) (P : RecordKey → Record → Type 0) : Type 0 where
  pub counter : P (key_of (records.Counter (counter_of s))) (records.Counter (counter_of s))
  pub key : (k : ℕ) (q : Queue) → find (has_key k) s.queues ≡ Some q →
      P (key_of (records.Key (key_entry k q))) (records.Key (key_entry k q))
  pub queue : (id : ℕ) (q : Queue) → find (has_id id) s.queues ≡ Some q → q.id ≡ id →
      P (key_of (records.Queue (queue_entry q))) (records.Queue (queue_entry q))
  pub mtype : (id number : ℕ) (q : Queue) (t : ℤ) → find (has_id id) s.queues ≡ Some q → q.id ≡ id →
      find (has_number number) (types q.messages) ≡ Some t →
      P (key_of (records.Type (type_entry q t))) (records.Type (type_entry q t))
  pub message : (id serial : ℕ) (q : Queue) (m : Message) → find (has_id id) s.queues ≡ Some q → q.id ≡ id →
      find (has_serial serial) q.messages ≡ Some m →
      P (key_of (records.Message (message_entry q m))) (records.Message (message_entry q m))

-- the queue found by an id has it
pub found_id : (s : State) (id : ℕ) (q : Queue) → find (has_id id) s.queues ≡ Some q → q.id ≡ id
found_id s id q found = eqb-true q.id id (find-Some (has_id id) s.queues q found).0

module _ (s : State) (P : RecordKey → Record → Type 0) (holds : HoldsOfEach s P) (key : RecordKey) where
  moved : (r : Record) (kind queue number : ℕ) → kind ≡ key.kind → queue ≡ key.queue → number ≡ key.number →
      P (record { kind = kind; queue = queue; number = number }) r → P key r
  moved r kind queue number first second third p =
      subst (λ (k : RecordKey). P k r) (key_is key kind queue number first second third) p

  of_counter : key.kind ≡ COUNTER → (r : Record) → at_counter s key ≡ Some r → P key r
  of_counter kind r at =
      let let_through = by_guard (key.queue == 0 && key.number == 0) (Some (records.Counter (counter_of s))) r at in
      let zeros = both_true (key.queue == 0) (key.number == 0) let_through.0 in
      let is : records.Counter (counter_of s) ≡ r = cc (let_through.1) in
      subst (λ (x : Record). P key x) is (moved (records.Counter (counter_of s)) COUNTER 0 0 (sym kind)
      (sym (eqb-true key.queue 0 zeros.0)) (sym (eqb-true key.number 0 zeros.1)) holds.counter)

  of_key : key.kind ≡ KEY → (r : Record) → at_key s key ≡ Some r → P key r
  of_key kind r at =
      let let_through = by_guard (key.queue == 0) _ r at in
      let (q, found, is) = mapped (λ (q : Queue). records.Key (key_entry key.number q))
      (find (has_key key.number) s.queues) r let_through.1 in
      subst (λ (x : Record). P key x) is (moved (records.Key (key_entry key.number q)) KEY 0 key.number (sym kind)
      (sym (eqb-true key.queue 0 let_through.0)) refl (holds.key key.number q found))

  of_queue : key.kind ≡ QUEUE → (r : Record) → at_queue s key ≡ Some r → P key r
  of_queue kind r at =
      let let_through = by_guard (key.number == 0) _ r at in
      let (q, found, is) = mapped (λ (q : Queue). records.Queue (queue_entry q))
      (find (has_id key.queue) s.queues) r let_through.1 in
      let its = found_id s key.queue q found in
      subst (λ (x : Record). P key x) is (moved (records.Queue (queue_entry q)) QUEUE q.id 0 (sym kind)
      its (sym (eqb-true key.number 0 let_through.0)) (holds.queue key.queue q found its))

  of_type : key.kind ≡ TYPE → (r : Record) → at_queue_of type_record s key ≡ Some r → P key r
  of_type kind r at =
      let (q, found, some) = chained (type_record key.number) (find (has_id key.queue) s.queues) r at in
      let (t, stands, is) = mapped (λ (t : ℤ). records.Type (type_entry q t))
      (find (has_number key.number) (types q.messages)) r some in
      let its = found_id s key.queue q found in
      let numbered = eqb-true _ key.number (find-Some (has_number key.number) (types q.messages) t stands).0 in
      subst (λ (x : Record). P key x) is (moved (records.Type (type_entry q t)) TYPE q.id _ (sym kind)
      its numbered (holds.mtype key.queue key.number q t found its stands))

  of_message : key.kind ≡ MESSAGE → (r : Record) → at_queue_of message_record s key ≡ Some r → P key r
  of_message kind r at =
      let (q, found, some) = chained (message_record key.number) (find (has_id key.queue) s.queues) r at in
      let (m, stands, is) = mapped (λ (m : Message). records.Message (message_entry q m))
      (find (has_serial key.number) q.messages) r some in
      let its = found_id s key.queue q found in
      let numbered = eqb-true m.serial key.number (find-Some (has_serial key.number) q.messages m stands).0 in
      subst (λ (x : Record). P key x) is (moved (records.Message (message_entry q m)) MESSAGE q.id m.serial (sym kind)
      its numbered (holds.message key.queue key.number q m found its stands))

  -- what holds of each record holds of the one at a key
  pub holds_at : (r : Record) → record_of s key ≡ Some r → P key r
  holds_at r at = elim (by_test (key.kind == COUNTER) (at_counter s key) _ (Some r) at) [
    | inl (kind, is) ↦ of_counter (eqb-true key.kind COUNTER kind) r is
    | inr (_, more) ↦ elim (by_test (key.kind == KEY) (at_key s key) _ (Some r) more) [
      | inl (kind, is) ↦ of_key (eqb-true key.kind KEY kind) r is
      | inr (_, more) ↦ elim (by_test (key.kind == QUEUE) (at_queue s key) _ (Some r) more) [
        | inl (kind, is) ↦ of_queue (eqb-true key.kind QUEUE kind) r is
        | inr (_, more) ↦ elim (by_test (key.kind == TYPE) (at_queue_of type_record s key) _ (Some r) more) [
          | inl (kind, is) ↦ of_type (eqb-true key.kind TYPE kind) r is
          | inr (_, more) ↦
              let last = by_guard (key.kind == MESSAGE) (at_queue_of message_record s key) r more in
              of_message (eqb-true key.kind MESSAGE last.0) r last.1
        ]
      ]
    ]
  ]

-- so a record stands at its own key
pub stands_at_its_key : (s : State) (key : RecordKey) (r : Record) → record_of s key ≡ Some r → key_of r ≡ key
stands_at_its_key s key r at = holds_at s (λ (k : RecordKey) (x : Record). key_of x ≡ k) (record {
  counter = refl;
  key = λ k q found. refl;
  queue = λ id q found its. refl;
  mtype = λ id number q t found its stands. refl;
  message = λ id serial q m found its stands. refl;
}) key r at
