-- The tests of a record's limits pass exactly where it keeps them.
use Rattle.std.proofs.Common.{◌≡◌, ℕ, Bool, true, false, ◌&&◌, ◌↔◌, ℤ, Option, Some, None, refl, arith, rules}
use Rattle.std.specs.Prelude.{IfSome}
use Rattle.std.proofs.lemmas.Bool.{leb-true, ltb-true, le-leb, lt-ltb}
use Rattle.std.proofs.lemmas.Bool.Decides.{nat_tests}
use Rattle.std.proofs.lemmas.Int.{ints}
use Rattle.bucket_page.proofs.of_numbers.Tests.{both_true}
use Rattle.queue_records.specs.declared.counter.Counter.{Counter}
use Rattle.queue_records.specs.declared.key_entry.KeyEntry.{KeyEntry}
use Rattle.queue_records.specs.declared.queue_entry.QueueEntry.{QueueEntry}
use Rattle.queue_records.specs.declared.type_entry.TypeEntry.{TypeEntry}
use Rattle.queue_records.specs.declared.message_entry.MessageEntry.{MessageEntry}
use Rattle.queue_records.specs.Range.{IsSerial, IsType, IsId, IsCounterInRange, IsKeyInRange, IsQueueInRange, IsTypeInRange, IsMessageInRange}
use Rattle.queue_records.specs.Reading.{is_id, is_type, is_counter, is_key, is_queue, is_type_entry, is_message, is_serial_link, is_type_link}

pub and_true : (a b : Bool) → a ≡ true → b ≡ true → (a && b) ≡ true
and_true true b first second = second
and_true false b first second = absurd cc

-- ---- one number

id_in : (id : ℕ) → is_id id ≡ true → IsId id
id_in id h = record { begun = grind (arith, nat_tests); below = grind (arith, nat_tests) }

id_is : (id : ℕ) → IsId id → is_id id ≡ true
id_is id is = let begun = is.begun in let below = is.below in grind (arith, nat_tests)

serial_in : (serial : Option ℕ) → is_serial_link serial ≡ true → IfSome serial IsSerial
serial_in None h = tt
serial_in (Some n) h = grind (arith, nat_tests)

serial_is : (serial : Option ℕ) → IfSome serial IsSerial → is_serial_link serial ≡ true
serial_is None begun = refl
serial_is (Some n) begun = grind (arith, nat_tests)

type_in : (mtype : ℤ) → is_type mtype ≡ true → IsType mtype
type_in mtype h = grind (arith, ints)

type_is : (mtype : ℤ) → IsType mtype → is_type mtype ≡ true
type_is mtype begun = grind (arith, ints)

type_link_in : (mtype : Option ℤ) → is_type_link mtype ≡ true → IfSome mtype IsType
type_link_in None h = tt
type_link_in (Some mtype) h = type_in mtype h

type_link_is : (mtype : Option ℤ) → IfSome mtype IsType → is_type_link mtype ≡ true
type_link_is None begun = refl
type_link_is (Some mtype) begun = type_is mtype begun

-- ---- records

pub counter_limits : (c : Counter) → (is_counter c ≡ true) ↔ IsCounterInRange c
counter_limits c = search rules

pub key_limits : (k : KeyEntry) → (is_key k ≡ true) ↔ IsKeyInRange k
key_limits k = search rules

queue_in : (q : QueueEntry) → is_queue q ≡ true → IsQueueInRange q
queue_in q h =
    let id = both_true _ _ h in
    let limits = both_true _ _ id.1 in
    let serial = both_true _ _ limits.1 in
    let first = both_true _ _ serial.1 in
    let last = both_true _ _ first.1 in
    let qbytes = both_true _ _ limits.0 in
    let cbytes = both_true _ _ qbytes.1 in
    let qnum = both_true _ _ cbytes.1 in
    record {
      id = id_in q.id id.0;
      small_limit = leb-true _ _ qbytes.0;
      few_bytes = leb-true _ _ cbytes.0;
      few_messages = leb-true _ _ qnum.0;
      next_serial = leb-true _ _ serial.0;
      first = serial_in q.first first.0;
      last = serial_in q.last last.0;
      lowest = type_link_in q.lowest last.1;
      mode = ltb-true _ _ qnum.1;
    }

queue_is : (q : QueueEntry) → IsQueueInRange q → is_queue q ≡ true
queue_is q is =
    let qnum = and_true _ _ (le-leb _ _ is.few_messages) (lt-ltb _ _ is.mode) in
    let counts = and_true _ _ (le-leb _ _ is.small_limit) (and_true _ _ (le-leb _ _ is.few_bytes) qnum) in
    let links = and_true _ _ (serial_is q.last is.last) (type_link_is q.lowest is.lowest) in
    let serials = and_true _ _ (le-leb _ _ is.next_serial) (and_true _ _ (serial_is q.first is.first) links) in
    and_true _ _ (id_is q.id is.id) (and_true _ _ counts serials)

pub queue_limits : (q : QueueEntry) → (is_queue q ≡ true) ↔ IsQueueInRange q
queue_limits q = (queue_in q, queue_is q)

type_entry_in : (t : TypeEntry) → is_type_entry t ≡ true → IsTypeInRange t
type_entry_in t h =
    let id = both_true _ _ h in
    let mtype = both_true _ _ id.1 in
    let first = both_true _ _ mtype.1 in
    let last = both_true _ _ first.1 in
    let links = both_true _ _ last.1 in
    record {
      id = id_in t.id id.0;
      mtype = type_in t.mtype mtype.0;
      first = leb-true _ _ first.0;
      last = leb-true _ _ last.0;
      lower = type_link_in t.lower links.0;
      higher = type_link_in t.higher links.1;
    }

type_entry_is : (t : TypeEntry) → IsTypeInRange t → is_type_entry t ≡ true
type_entry_is t is =
    let links = and_true _ _ (type_link_is t.lower is.lower) (type_link_is t.higher is.higher) in
    let serials = and_true _ _ (le-leb _ _ is.first) (and_true _ _ (le-leb _ _ is.last) links) in
    and_true _ _ (id_is t.id is.id) (and_true _ _ (type_is t.mtype is.mtype) serials)

pub type_limits : (t : TypeEntry) → (is_type_entry t ≡ true) ↔ IsTypeInRange t
type_limits t = (type_entry_in t, type_entry_is t)

message_in : (m : MessageEntry) → is_message m ≡ true → IsMessageInRange m
message_in m h =
    let id = both_true _ _ h in
    let serial = both_true _ _ id.1 in
    let mtype = both_true _ _ serial.1 in
    let previous = both_true _ _ mtype.1 in
    let next = both_true _ _ previous.1 in
    let others = both_true _ _ next.1 in
    record {
      id = id_in m.id id.0;
      serial = leb-true _ _ serial.0;
      mtype = type_in m.mtype mtype.0;
      previous = serial_in m.previous previous.0;
      next = serial_in m.next next.0;
      next_of_type = serial_in m.next_of_type others.0;
      short = leb-true _ _ others.1;
    }

message_is : (m : MessageEntry) → IsMessageInRange m → is_message m ≡ true
message_is m is =
    let others = and_true _ _ (serial_is m.next_of_type is.next_of_type) (le-leb _ _ is.short) in
    let links = and_true _ _ (serial_is m.previous is.previous) (and_true _ _ (serial_is m.next is.next) others) in
    let typed = and_true _ _ (type_is m.mtype is.mtype) links in
    and_true _ _ (id_is m.id is.id) (and_true _ _ (le-leb _ _ is.serial) typed)

pub message_limits : (m : MessageEntry) → (is_message m ≡ true) ↔ IsMessageInRange m
message_limits m = (message_in m, message_is m)
