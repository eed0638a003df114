-- The records of a lawful system keep their limits.
use Rattle.std.proofs.Common.{◌≡◌, ℕ, suc, ◌-◌, ◌≤◌, ◌<◌, ℤ, true, List, [], length, Some, refl, arith}
use Rattle.std.specs.List.{All, Contains, filter, position_or_len}
use Rattle.std.specs.Ordering.{int_eq}
use Rattle.std.proofs.lemmas.Bool.Decides.{Decides-int_eq}
use Rattle.std.proofs.lemmas.List.{length-map}
use Rattle.std.proofs.lemmas.List.Elements.{All-nil, All-contains, All-contains_itself, All-filter, All-map, All-weaker}
use Rattle.queue_records.specs.bucket_page.declared.record_key.RecordKey.{RecordKey}
use Rattle.queue_model.specs.declared.message.Message.{Message}
use Rattle.queue_model.specs.declared.queue.Queue.{Queue}
use Rattle.queue_model.specs.Lawful.{IsLawful, IsLawfulQueue, IsLawfulMessage}
use Rattle.queue_model.specs.Rules.{has_id, has_key}
use Rattle.queue_model.specs.State.{State}
use Rattle.queue_model.proofs.ListLemmas.{find-Some}
use Rattle.queue_records.specs.declared.record.Record.{Record}
use Rattle.queue_records.specs.Range.{IsInRange, IsId, IsSerial, IsType, IsQueueInRange, IsTypeInRange, IsMessageInRange}
use Rattle.type_chains.specs.Entries.{queue_entry, type_entry, message_entry, is_number, is_same_type}
use Rattle.type_chains.specs.Lists.{serials, serials_of_type, types, is_of_type}
use Rattle.type_chains.specs.RecordOf.{has_number, has_serial, record_of}
use Rattle.type_chains.proofs.Cases.{holds_at}
use Rattle.type_chains.proofs.Elements.{IfSome-slice_get, IfSome-before_place, image_has, filter_holds, All-types}

module _ (s : State) (lawful : IsLawful s) (q : Queue) (stands : Contains s.queues q) where
  pub lawful_queue : IsLawfulQueue q
  lawful_queue = All-contains IsLawfulQueue s.queues q lawful.queues_lawful stands

  lawful_id : IsId q.id
  lawful_id =
      let given = image_has (λ (q : Queue). q.id) (λ (id : ℕ). (1 ≤ id) × (id < s.next_id)) s.queues q
      lawful.ids_given stands in
      record { begun = given.0; below = omega (arith, given.1, lawful.ids_end) }

  serials_begun : (ms : List Message) → All (IsLawfulMessage q.next_serial) ms → All IsSerial (serials ms)
  serials_begun ms all = All-map IsSerial (λ (m : Message). m.serial) ms
      (All-weaker (IsLawfulMessage q.next_serial) (λ (m : Message). IsSerial m.serial) (λ m l. l.serial_begun) ms all)

  all_serials : All IsSerial (serials q.messages)
  all_serials = serials_begun q.messages lawful_queue.messages_lawful

  serials_of : (t : ℤ) → All IsSerial (serials_of_type t q.messages)
  serials_of t = serials_begun (filter (is_of_type t) q.messages)
      (All-filter (is_of_type t) (IsLawfulMessage q.next_serial) q.messages lawful_queue.messages_lawful)

  pub all_types : All IsType (types q.messages)
  all_types = All-types IsType [] q.messages (All-nil IsType)
      (All-weaker (IsLawfulMessage q.next_serial) (λ (m : Message). IsType m.mtype) (λ m l. l.typed) q.messages
      lawful_queue.messages_lawful)

  -- each type on the list of types has a message
  pub types_stand : All (λ (t : ℤ). 1 ≤ length (serials_of_type t q.messages)) (types q.messages)
  types_stand = All-types (λ (t : ℤ). 1 ≤ length (serials_of_type t q.messages)) [] q.messages
      (All-nil (λ (t : ℤ). 1 ≤ length (serials_of_type t q.messages)))
      (All-weaker (Contains q.messages) (λ (m : Message). 1 ≤ length (serials_of_type m.mtype q.messages))
      (λ m c. let one = filter_holds (is_of_type m.mtype) q.messages m c (int_self m.mtype) in
      let as_many = length-map (filter (is_of_type m.mtype) q.messages) (λ (m : Message). m.serial) in
      omega (arith, one, as_many))
      q.messages (All-contains_itself q.messages))
    where
      int_self : (t : ℤ) → int_eq t t ≡ true
      int_self t = (Decides-int_eq t t).1 refl

  queue_in_range : IsQueueInRange (queue_entry q)
  queue_in_range = record {
    id = lawful_id;
    small_limit = lawful_queue.small_limit;
    few_bytes = lawful_queue.few_bytes;
    few_messages = lawful_queue.few_messages;
    next_serial = lawful_queue.serial_begun;
    first = IfSome-slice_get IsSerial (serials q.messages) 0 all_serials;
    last = IfSome-slice_get IsSerial (serials q.messages) (length (serials q.messages) - 1) all_serials;
    lowest = IfSome-slice_get IsType (types q.messages) 0 all_types;
    mode = lawful_queue.mode;
  }

  type_in_range : (t : ℤ) → Contains (types q.messages) t → IsTypeInRange (type_entry q t)
  type_in_range t found =
      let one = All-contains (λ (t : ℤ). 1 ≤ length (serials_of_type t q.messages)) (types q.messages) t types_stand
      found in
      record {
        id = lawful_id;
        mtype = All-contains IsType (types q.messages) t all_types found;
        first = serials_of t 0 0 (omega (arith, one));
        last = serials_of t (length (serials_of_type t q.messages) - 1) 0 (omega (arith, one));
        lower = IfSome-before_place IsType (types q.messages)
            (position_or_len (is_same_type t) (types q.messages)) all_types;
        higher = IfSome-slice_get IsType (types q.messages)
            (suc (position_or_len (is_same_type t) (types q.messages))) all_types;
      }

  message_in_range : (m : Message) → Contains q.messages m → IsMessageInRange (message_entry q m)
  message_in_range m found =
      let fine = All-contains (IsLawfulMessage q.next_serial) q.messages m lawful_queue.messages_lawful found in
      record {
        id = lawful_id;
        serial = fine.serial_begun;
        mtype = fine.typed;
        previous = IfSome-before_place IsSerial (serials q.messages)
            (position_or_len (is_number m.serial) (serials q.messages)) all_serials;
        next = IfSome-slice_get IsSerial (serials q.messages)
            (suc (position_or_len (is_number m.serial) (serials q.messages))) all_serials;
        next_of_type = IfSome-slice_get IsSerial (serials_of_type m.mtype q.messages)
            (suc (position_or_len (is_number m.serial) (serials_of_type m.mtype q.messages))) (serials_of m.mtype);
        short = fine.short;
      }

pub in_range : (s : State) (key : RecordKey) (r : Record) → IsLawful s → record_of s key ≡ Some r → IsInRange r
in_range s key r lawful at = holds_at s (λ (k : RecordKey) (x : Record). IsInRange x) (record {
  counter = record { next_id = lawful.id_begun; few_queues = lawful.few_queues };
  key = λ k q found. record { id = lawful_id s lawful q (find-Some (has_key k) s.queues q found).1 };
  queue = λ id q found its. queue_in_range s lawful q (find-Some (has_id id) s.queues q found).1;
  mtype = λ id number q t found its there. type_in_range s lawful q (find-Some (has_id id) s.queues q found).1 t
      (find-Some (has_number number) (types q.messages) t there).1;
  message = λ id serial q m found its there. message_in_range s lawful q (find-Some (has_id id) s.queues q found).1 m
      (find-Some (has_serial serial) q.messages m there).1;
}) key r at
