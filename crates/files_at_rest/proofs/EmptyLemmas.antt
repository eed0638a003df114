-- The records of a system without queues.
use Rattle.std.proofs.Common.{◌≡◌, refl, ◌∙◌, sym, ap, ℕ, ◌<◌, ◌≤◌, Bool, true, false, cond, Option, Some, None, inl, inr, arith}
use Rattle.std.specs.Prelude.{◌==◌, ◌&&◌}
use Rattle.std.specs.Option.{option_map}
use Rattle.std.proofs.lemmas.Bool.{cases_eq, eq-eqb, ne_eqb}
use Rattle.std.proofs.lemmas.List.Elements.{All-nil}
use Rattle.queue_model.specs.Lawful.{AreKeysApart, IsLawfulQueue}
use Rattle.queue_records.specs.declared.layout.TheConstants.{COUNTER, KEY, QUEUE, TYPE, MESSAGE}
use Rattle.queue_records.specs.declared.record.Record.{Record}
use Rattle.queue_records.specs.declared.record.Record.TheVariants as records
use Rattle.queue_records.specs.Spelling.{counter_bytes, value_of}
use Rattle.record_file.specs.Files.{new_counter, new_records}
use Rattle.type_chains.specs.Fits.{HasFittingQueue}
use Rattle.type_chains.specs.RecordOf.{record_of}
use Rattle.type_chains.proofs.Unique.{pairs_nil}
use Rattle.files_at_rest.specs.Files.{no_queues}
use Rattle.files_at_rest.proofs.SystemLemmas.{AreRecordsOf, HasValues}

abbrev no_record : Option Record
no_record = None

-- none either way
none_either : (b : Bool) → cond b no_record no_record ≡ no_record
none_either true = refl
none_either false = refl

abbrev counter_at : Option Record
counter_at = Some (records.Counter new_counter)

-- what the kinds of keys make of a system without queues
module _ (queue number key_kind queue_kind type_kind message_kind : Bool) where
  abbrev others : Option Record
  others = cond key_kind (cond queue no_record no_record)
      (cond queue_kind (cond number no_record no_record)
      (cond type_kind no_record (cond message_kind no_record no_record)))

  no_others : others ≡ no_record
  no_others =
      rw (
        none_either queue,
        none_either number,
        none_either message_kind,
        none_either type_kind,
        none_either queue_kind,
        none_either key_kind,
      ) refl

only_counter : (kind queue number : Bool) (rest : Option Record) → rest ≡ no_record
    → cond (kind && (queue && number)) (option_map value_of counter_at) None
    ≡ option_map value_of (cond kind (cond (queue && number) counter_at no_record) rest)
only_counter true true true rest none = refl
only_counter true true false rest none = refl
only_counter true false number rest none = refl
only_counter false queue number rest none = sym (ap (option_map value_of) none)

-- numbers are the same either way
same_either : (a b : ℕ) → (a == b) ≡ (b == a)
same_either a b = elim (cases_eq a b) [
  | inl same ↦ eq-eqb a b same ∙ sym (eq-eqb b a (sym same))
  | inr other ↦ ne_eqb a b other ∙ sym (ne_eqb b a (λ same. other (sym same)))
]

values : HasValues (record_of no_queues) new_records
values key =
    let kind = same_either COUNTER key.kind in
    let queue = same_either 0 key.queue in
    let number = same_either 0 key.number in
    (λ i. cond (kind i && (queue i && number i)) (Some (counter_bytes new_counter)) None)
    ∙ only_counter (key.kind == COUNTER) (key.queue == 0) (key.number == 0) _
    (no_others (key.queue == 0) (key.number == 0) (key.kind == KEY) (key.kind == QUEUE) (key.kind == TYPE)
    (key.kind == MESSAGE))

pub empty_records : AreRecordsOf no_queues new_records
empty_records = record {
  lawful = record {
    few_queues = omega arith;
    id_begun = omega arith;
    ids_end = omega arith;
    queues_lawful = All-nil IsLawfulQueue;
    ids_given = All-nil (λ (id : ℕ). (1 ≤ id) × (id < 1));
    ids_ascend = pairs_nil (λ (a b : ℕ). a < b);
    keys_apart = pairs_nil AreKeysApart;
  };
  fits = All-nil HasFittingQueue;
  running = refl;
  values = values;
}
