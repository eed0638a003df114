-- Each record of a lawful system whose numbers fit is spelled by its key and its value.
use Rattle.std.proofs.Common.{◌≡◌, ℕ, suc, ◌-◌, ◌≤◌, ℤ, List, [], length, Option, Some, refl, sym, subst, arith}
use Rattle.std.specs.Prelude.{IfSome, FitsSigned}
use Rattle.std.specs.Int.{w64}
use Rattle.std.specs.List.{All, Contains, filter, position_or_len}
use Rattle.std.proofs.lemmas.List.Elements.{All-nil, All-contains, All-filter, All-map, All-weaker}
use Rattle.queue_records.specs.bucket_page.declared.record_key.RecordKey.{RecordKey}
use Rattle.queue_model.specs.declared.message.Message.{Message}
use Rattle.queue_model.specs.declared.queue.Queue.{Queue}
use Rattle.queue_model.specs.Lawful.{IsLawful, IsLawfulMessage}
use Rattle.queue_model.specs.Rules.{has_id, has_key}
use Rattle.queue_model.specs.State.{State}
use Rattle.queue_model.proofs.ListLemmas.{find-Some}
use Rattle.queue_records.specs.declared.record.Record.{Record}
use Rattle.queue_records.specs.Records.{FitsFour, FitsEight, FitsQueue, FitsType, FitsMessage, FitsFields, SpellsRecord}
use Rattle.queue_records.specs.Spelling.{value_of}
use Rattle.type_chains.specs.Entries.{queue_entry, type_entry, message_entry, is_number, is_same_type}
use Rattle.type_chains.specs.Fits.{HasFittingMessage, HasFittingQueue, HasFittingNumbers}
use Rattle.type_chains.specs.Lists.{serials, serials_of_type, types, is_of_type}
use Rattle.type_chains.specs.RecordOf.{has_number, has_serial, record_of}
use Rattle.type_chains.proofs.Cases.{holds_at, stands_at_its_key}
use Rattle.type_chains.proofs.Elements.{IfSome-slice_get, IfSome-before_place, All-types}
use Rattle.type_chains.proofs.Limits.{lawful_queue, types_stand, in_range}
use Rattle.type_chains.proofs.Unique.{key_has}

module _ (s : State) (lawful : IsLawful s) (fits : HasFittingNumbers s) (q : Queue) (stands : Contains s.queues q) where
  fitting : HasFittingQueue q
  fitting = All-contains HasFittingQueue s.queues q fits stands

  -- serials of a lawful queue are below the end of serials
  small_serials : (ms : List Message) → All (IsLawfulMessage q.next_serial) ms → All FitsEight (serials ms)
  small_serials ms all =
      let ends = (lawful_queue s lawful q stands).serials_end in
      All-map FitsEight (λ (m : Message). m.serial) ms
      (All-weaker (IsLawfulMessage q.next_serial) (λ (m : Message). FitsEight m.serial)
      (λ m l. let given = l.serial_given in omega (arith, given, ends)) ms all)

  serials_fit : All FitsEight (serials q.messages)
  serials_fit = small_serials q.messages (lawful_queue s lawful q stands).messages_lawful

  serials_of_fit : (t : ℤ) → All FitsEight (serials_of_type t q.messages)
  serials_of_fit t = small_serials (filter (is_of_type t) q.messages) (All-filter (is_of_type t)
      (IsLawfulMessage q.next_serial) q.messages (lawful_queue s lawful q stands).messages_lawful)

  types_fit : All (FitsSigned w64) (types q.messages)
  types_fit = All-types (FitsSigned w64) [] q.messages (All-nil (FitsSigned w64))
      (All-weaker HasFittingMessage (λ (m : Message). FitsSigned w64 m.mtype) (λ m f. f.mtype) q.messages
      fitting.messages)

  queue_fits : FitsQueue (queue_entry q)
  queue_fits = record {
    key = fitting.key;
    lspid = fitting.lspid;
    lrpid = fitting.lrpid;
    stime = fitting.stime;
    rtime = fitting.rtime;
    ctime = fitting.ctime;
    next_serial = let ends = (lawful_queue s lawful q stands).serials_end in omega (arith, ends);
    first = IfSome-slice_get FitsEight (serials q.messages) 0 serials_fit;
    last = IfSome-slice_get FitsEight (serials q.messages) (length (serials q.messages) - 1) serials_fit;
    lowest = IfSome-slice_get (FitsSigned w64) (types q.messages) 0 types_fit;
    uid = fitting.uid;
    gid = fitting.gid;
    cuid = fitting.cuid;
    cgid = fitting.cgid;
  }

  type_fits : (t : ℤ) → Contains (types q.messages) t → FitsType (type_entry q t)
  type_fits t found =
      let one = All-contains (λ (t : ℤ). 1 ≤ length (serials_of_type t q.messages)) (types q.messages) t
      (types_stand s lawful q stands) found in
      record {
        mtype = All-contains (FitsSigned w64) (types q.messages) t types_fit found;
        first = serials_of_fit t 0 0 (omega (arith, one));
        last = serials_of_fit t (length (serials_of_type t q.messages) - 1) 0 (omega (arith, one));
        lower = IfSome-before_place (FitsSigned w64) (types q.messages)
            (position_or_len (is_same_type t) (types q.messages)) types_fit;
        higher = IfSome-slice_get (FitsSigned w64) (types q.messages)
            (suc (position_or_len (is_same_type t) (types q.messages))) types_fit;
      }

  message_fits : (m : Message) → Contains q.messages m → FitsMessage (message_entry q m)
  message_fits m found =
      let fine = All-contains (IsLawfulMessage q.next_serial) q.messages m
      (lawful_queue s lawful q stands).messages_lawful found in
      let its = All-contains HasFittingMessage q.messages m fitting.messages found in
      let given = fine.serial_given in
      let ends = (lawful_queue s lawful q stands).serials_end in
      record {
        serial = omega (arith, given, ends);
        mtype = its.mtype;
        sender = its.sender;
        previous = IfSome-before_place FitsEight (serials q.messages)
            (position_or_len (is_number m.serial) (serials q.messages)) serials_fit;
        next = IfSome-slice_get FitsEight (serials q.messages)
            (suc (position_or_len (is_number m.serial) (serials q.messages))) serials_fit;
        next_of_type = IfSome-slice_get FitsEight (serials_of_type m.mtype q.messages)
            (suc (position_or_len (is_number m.serial) (serials_of_type m.mtype q.messages)))
            (serials_of_fit m.mtype);
      }

fit_fields : (s : State) (key : RecordKey) (r : Record) → IsLawful s → HasFittingNumbers s → record_of s key ≡ Some r →
    FitsFields r
fit_fields s key r lawful fits at = holds_at s (λ (k : RecordKey) (x : Record). FitsFields x) (record {
  counter = record { next_id = let ends = lawful.ids_end in omega (arith, ends) };
  key = λ k q found.
      let passes = find-Some (has_key k) s.queues q found in
      record {
        key = subst (λ (o : Option ℕ). IfSome o FitsFour) (key_has k q.key passes.0)
            (fitting s lawful fits q passes.1).key;
      };
  queue = λ id q found its. queue_fits s lawful fits q (find-Some (has_id id) s.queues q found).1;
  mtype = λ id number q t found its there. type_fits s lawful fits q (find-Some (has_id id) s.queues q found).1 t
      (find-Some (has_number number) (types q.messages) t there).1;
  message = λ id serial q m found its there.
      message_fits s lawful fits q (find-Some (has_id id) s.queues q found).1 m
      (find-Some (has_serial serial) q.messages m there).1;
}) key r at

pub spelled : (s : State) (key : RecordKey) (r : Record) → IsLawful s → HasFittingNumbers s → record_of s key ≡ Some r →
    SpellsRecord r key (value_of r)
spelled s key r lawful fits at = record {
  fits = fit_fields s key r lawful fits at;
  in_range = in_range s key r lawful at;
  keyed = sym (stands_at_its_key s key r at);
  spelled = refl;
}
