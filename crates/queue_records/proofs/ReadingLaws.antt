-- What is read from a key and a value that pass the tests is spelled by them.
use Rattle.std.proofs.Common.{◌≡◌, ℕ, ◌≤◌, ◌<◌, ◌^◌, true, List, [], ◌∷◌, ◌++◌, length, drop, slice_index, Result, Ok, Err, refl, sym, ap, ◌∙◌, arith}
use Rattle.std.specs.Prelude.{IfOk, OnOk}
use Rattle.std.proofs.lemmas.Bool.{eqb-true, leb-true, ltb-true}
use Rattle.std.proofs.lemmas.List.{append-nil}
use Rattle.bucket_page.specs.declared.record_key.RecordKey.{RecordKey}
use Rattle.bucket_page.specs.numbers.Numbers.{four, four_at}
use Rattle.bucket_page.proofs.of_numbers.NumberLaws.{IsBytes, four_small, eight_small}
use Rattle.bucket_page.proofs.KeyLaws.{same_is}
use Rattle.bucket_page.proofs.of_numbers.Tests.{both_true}
use Rattle.queue_records.specs.declared.bad_record.BadRecord.{BadRecord}
use Rattle.queue_records.specs.declared.record.Record.TheVariants as records
use Rattle.queue_records.specs.Reading.{Gives, counter_at, key_at, queue_at, type_at, message_at, reads_counter, reads_key, reads_queue, reads_type, reads_message}
use Rattle.queue_records.specs.Records.{SpellsRecord}
use Rattle.queue_records.proofs.FieldLaws.{key_back, key_fits, serial_fits, type_fits, type_link_fits, two_then, four_then, eight_then, serial_then, type_then, type_link_then, ends, regrouped}
use Rattle.queue_records.proofs.PartsLaws.{queue_joined, type_joined, message_joined}
use Rattle.queue_records.proofs.RangeLaws.{counter_limits, key_limits, queue_limits, type_limits, message_limits}

-- what is given where the tests pass has what passing proves
pub is_ok : {X : Type 0} (P : X → Type 0) (r : Result X BadRecord) {passes : _} {value : X}
    → Gives r passes value → (passes ≡ true → P value) → IfOk r P
is_ok P (Ok x) gives proves = rw gives.1 (proves gives.0)
is_ok P (Err bad) gives proves = tt

-- the same with what is known where something is given
pub is_ok_where : {X : Type 0} (P : X → Type 0) {Q : Type 0} (r : Result X BadRecord) {passes : _} {value : X}
    → Gives r passes value → OnOk r Q → (Q → passes ≡ true → P value) → IfOk r P
is_ok_where P (Ok x) gives holds proves = rw gives.1 (proves holds gives.0)
is_ok_where P (Err bad) gives holds proves = tt

first_byte : (bytes : List ℕ) → 1 ≤ length bytes → bytes ≡ slice_index bytes 0 ∷ drop 1 bytes
first_byte [] long = absurd (omega (arith, long))
first_byte (b ∷ rest) long = refl

module _ (key : RecordKey) (value : List ℕ) (all : IsBytes value) where
  pub counter_spells : reads_counter key value ≡ true → SpellsRecord (records.Counter (counter_at value)) key value
  counter_spells h =
      let tests = both_true _ _ h in
      let others = both_true _ _ tests.1 in
      let long : length value ≡ 8 = eqb-true _ _ tests.0 in
      let alive = four_then 4 value [] (omega (arith, long)) all (ends 8 value long) in
      record {
        fits = record { next_id = four_small 0 value all };
        in_range = (counter_limits _).0 others.1;
        keyed = same_is _ _ others.0;
        spelled = four_then 0 value _ (omega (arith, long)) all alive
            ∙ sym (regrouped [] (four (four_at 0 value) ∷ four (four_at 4 value) ∷ []));
      }

  pub key_spells : reads_key key value ≡ true → SpellsRecord (records.Key (key_at key value)) key value
  key_spells h =
      let tests = both_true _ _ h in
      let small = both_true _ _ tests.1 in
      let long : length value ≡ 4 = eqb-true _ _ tests.0 in
      let others = both_true _ _ small.1 in
      record {
        fits = record { key = ltb-true _ _ small.0 };
        in_range = (key_limits _).0 others.1;
        keyed = same_is _ _ others.0;
        spelled = four_then 0 value [] (omega (arith, long)) all (ends 4 value long)
            ∙ append-nil (four (four_at 0 value));
      }

  pub queue_spells : reads_queue key value ≡ true → SpellsRecord (records.Queue (queue_at key value)) key value
  queue_spells h =
      let tests = both_true _ _ h in
      let flagged = both_true _ _ tests.1 in
      let others = both_true _ _ flagged.1 in
      let long : length value ≡ 99 = eqb-true _ _ tests.0 in
      let flag = key_back (slice_index value 0) (four_at 1 value) flagged.0 in
      let mode = two_then 97 value [] (omega (arith, long)) all (ends 99 value long) in
      let cgid = four_then 93 value _ (omega (arith, long)) all mode in
      let cuid = four_then 89 value _ (omega (arith, long)) all cgid in
      let gid = four_then 85 value _ (omega (arith, long)) all cuid in
      let uid = four_then 81 value _ (omega (arith, long)) all gid in
      let lowest = type_link_then 73 value _ (omega (arith, long)) all uid in
      let last = serial_then 65 value _ (omega (arith, long)) all lowest in
      let first = serial_then 57 value _ (omega (arith, long)) all last in
      let next = eight_then 49 value _ (omega (arith, long)) all first in
      let ctime = eight_then 41 value _ (omega (arith, long)) all next in
      let rtime = eight_then 33 value _ (omega (arith, long)) all ctime in
      let stime = eight_then 25 value _ (omega (arith, long)) all rtime in
      let lrpid = four_then 21 value _ (omega (arith, long)) all stime in
      let lspid = four_then 17 value _ (omega (arith, long)) all lrpid in
      let qnum = four_then 13 value _ (omega (arith, long)) all lspid in
      let cbytes = four_then 9 value _ (omega (arith, long)) all qnum in
      let qbytes = four_then 5 value _ (omega (arith, long)) all cbytes in
      let number = four_then 1 value (drop 5 value) (omega (arith, long)) all refl in
      let front = first_byte value (omega (arith, long)) ∙ ap (λ (xs : List ℕ). slice_index value 0 ∷ xs) number in
      record {
        fits = record {
          key = key_fits _ _ (four_small 1 value all);
          lspid = four_small 17 value all;
          lrpid = four_small 21 value all;
          stime = eight_small 25 value all;
          rtime = eight_small 33 value all;
          ctime = eight_small 41 value all;
          next_serial = eight_small 49 value all;
          first = serial_fits _ (eight_small 57 value all);
          last = serial_fits _ (eight_small 65 value all);
          lowest = type_link_fits _ (eight_small 73 value all);
          uid = four_small 81 value all;
          gid = four_small 85 value all;
          cuid = four_small 89 value all;
          cgid = four_small 93 value all;
        };
        in_range = (queue_limits _).0 others.1;
        keyed = same_is _ _ others.0;
        spelled = front ∙ (λ i. flag.0 i ∷ (four (flag.1 i) ++ qbytes i)) ∙ sym (queue_joined (queue_at key value));
      }

  pub type_spells : key.number < 2 ^ 64 → reads_type key value ≡ true
      → SpellsRecord (records.Type (type_at key value)) key value
  type_spells small h =
      let tests = both_true _ _ h in
      let others = both_true _ _ tests.1 in
      let long : length value ≡ 32 = eqb-true _ _ tests.0 in
      let higher = type_link_then 24 value [] (omega (arith, long)) all (ends 32 value long) in
      let lower = type_link_then 16 value _ (omega (arith, long)) all higher in
      let last = eight_then 8 value _ (omega (arith, long)) all lower in
      record {
        fits = record {
          mtype = type_fits _ small;
          first = eight_small 0 value all;
          last = eight_small 8 value all;
          lower = type_link_fits _ (eight_small 16 value all);
          higher = type_link_fits _ (eight_small 24 value all);
        };
        in_range = (type_limits _).0 others.1;
        keyed = same_is _ _ others.0;
        spelled = eight_then 0 value _ (omega (arith, long)) all last ∙ sym (type_joined (type_at key value));
      }

  pub message_spells : key.number < 2 ^ 64 → reads_message key value ≡ true
      → SpellsRecord (records.Message (message_at key value)) key value
  message_spells small h =
      let tests = both_true _ _ h in
      let others = both_true _ _ tests.1 in
      let long : 36 ≤ length value = leb-true _ _ tests.0 in
      let same_type =
      serial_then 28 value (drop 36 value ++ []) (omega (arith, long)) all (sym (append-nil (drop 36 value))) in
      let next = serial_then 20 value _ (omega (arith, long)) all same_type in
      let previous = serial_then 12 value _ (omega (arith, long)) all next in
      let sender = four_then 8 value _ (omega (arith, long)) all previous in
      record {
        fits = record {
          serial = small;
          mtype = type_fits _ (eight_small 0 value all);
          sender = four_small 8 value all;
          previous = serial_fits _ (eight_small 12 value all);
          next = serial_fits _ (eight_small 20 value all);
          next_of_type = serial_fits _ (eight_small 28 value all);
        };
        in_range = (message_limits _).0 others.1;
        keyed = same_is _ _ others.0;
        spelled = type_then 0 value _ (omega (arith, long)) all sender ∙ sym (message_joined (message_at key value));
      }
