-- A record is read from its spelling.
use Rattle.std.proofs.Common.{◌≡◌, ℕ, ◌==◌, Bool, true, false, ◌&&◌, ◌||◌, List, [], ◌∷◌, ◌++◌, drop, slice_index, Result, Ok, Err, sym, ap, ◌∙◌, arith}
use Rattle.std.proofs.lemmas.Bool.{le-leb, lt-ltb}
use Rattle.std.proofs.lemmas.Bool.Decides.{nat_tests}
use Rattle.std.proofs.lemmas.List.{append-nil}
use Rattle.bucket_page.specs.declared.record_key.RecordKey.{RecordKey}
use Rattle.bucket_page.specs.numbers.Numbers.{two, four, eight}
use Rattle.bucket_page.specs.Keys.{is_same}
use Rattle.bucket_page.proofs.of_numbers.NumberLaws.{length-two, length-four, length-eight}
use Rattle.queue_records.specs.declared.bad_record.BadRecord.{BadRecord}
use Rattle.queue_records.specs.declared.counter.Counter.{Counter}
use Rattle.queue_records.specs.declared.key_entry.KeyEntry.{KeyEntry}
use Rattle.queue_records.specs.declared.queue_entry.QueueEntry.{QueueEntry}
use Rattle.queue_records.specs.declared.type_entry.TypeEntry.{TypeEntry}
use Rattle.queue_records.specs.declared.message_entry.MessageEntry.{MessageEntry}
use Rattle.queue_records.specs.declared.record.Record.TheVariants as records
use Rattle.queue_records.specs.Fields.{key_flag, key_number, given_key, type_of, serial_number, type_link_number}
use Rattle.queue_records.specs.Spelling.{key_key, queue_key, type_key, message_key}
use Rattle.queue_records.specs.Reading.{Gives, is_counter, is_key, is_queue, is_type_entry, is_message, counter_at, key_at, has_flag, queue_at, type_at, message_at, reads_counter, reads_key, reads_queue, reads_type, reads_message}
use Rattle.queue_records.specs.Records.{SpellsRecord}
use Rattle.queue_records.proofs.FieldLaws.{key_again, key_small, key_passes, type_again, four_next, eight_next, serial_next, type_next, type_link_next, two_next, reaches, ends_at, regrouped}
use Rattle.queue_records.proofs.PartsLaws.{queue_joined, type_joined, message_joined}
use Rattle.queue_records.proofs.RangeLaws.{and_true, counter_limits, key_limits, queue_limits, type_limits, message_limits}

-- what is given where the tests pass and the value is this one
pub is_only : {X : Type 0} (r : Result X BadRecord) {passes : Bool} {value x : X} → Gives r passes value
    → (passes ≡ true) × (value ≡ x) → r ≡ Ok x
is_only (Ok y) gives is = ap Ok (gives.1 ∙ is.1)
is_only (Err bad) gives is = absurd (impossible gives is.0) where
  impossible : {b : Bool} → b ≡ false → b ≡ true → ⊥
  impossible no_pass pass = absurd cc

is_long : (n m : ℕ) → n ≡ m → (n == m) ≡ true
is_long n m same = rw same (self m) where
  self : (k : ℕ) → (k == k) ≡ true
  self k = grind (arith, nat_tests)

-- a key is the same as itself
same_self : (a : RecordKey) → is_same a a ≡ true
same_self a = grind (arith, nat_tests)

own_key : (a b : RecordKey) → a ≡ b → is_same a b ≡ true
own_key a b same = rw same (same_self b)

module _ (key : RecordKey) (value : List ℕ) where
  pub counter_again : (c : Counter) → SpellsRecord (records.Counter c) key value
      → (reads_counter key value ≡ true) × (counter_at value ≡ c)
  counter_again c is =
      let parts = is.spelled ∙ regrouped [] (four c.next_id ∷ four c.queues_alive ∷ []) in
      let next = four_next 0 c.next_id value _ parts is.fits.next_id in
      let few = is.in_range.few_queues in
      let alive = four_next 4 c.queues_alive value [] next.1 (omega (arith, few)) in
      let long = ends_at 4 4 value (four c.queues_alive) next.1 (length-four c.queues_alive) (omega arith) in
      let same : counter_at value ≡ c = λ i. record { next_id = next.0 i; queues_alive = alive.0 i } in
      let limits : is_counter (counter_at value) ≡ true = ap is_counter same ∙ (counter_limits c).1 is.in_range in
      (and_true _ _ (is_long _ _ long) (and_true _ _ (own_key _ _ is.keyed) limits), same)

  pub key_entry_again : (k : KeyEntry) → SpellsRecord (records.Key k) key value
      → (reads_key key value ≡ true) × (key_at key value ≡ k)
  key_entry_again k is =
      let below = is.in_range.id.below in
      let whole = is.spelled ∙ sym (append-nil (four k.id)) in
      let id = four_next 0 k.id value [] whole (omega (arith, below)) in
      let long = ends_at 0 4 value (four k.id) whole (length-four k.id) (omega arith) in
      let number : key.number ≡ k.key = ap (λ (r : RecordKey). r.number) is.keyed in
      let same : key_at key value ≡ k = λ i. record { key = number i; id = id.0 i } in
      let limits : is_key (key_at key value) ≡ true = ap is_key same ∙ (key_limits k).1 is.in_range in
      let own = own_key _ _ (is.keyed ∙ ap key_key (sym same)) in
      let small = is.fits.key in
      let others = and_true _ _ (lt-ltb _ _ (omega (arith, number, small))) (and_true _ _ own limits) in
      (and_true _ _ (is_long _ _ long) others, same)

  pub queue_again : (q : QueueEntry) → SpellsRecord (records.Queue q) key value
      → (reads_queue key value ≡ true) × (queue_at key value ≡ q)
  queue_again q is =
      let fits = is.fits in
      let range = is.in_range in
      let own_limit = range.small_limit in
      let few_bytes = range.few_bytes in
      let few_messages = range.few_messages in
      let nine_bits = range.mode in
      let parts = is.spelled ∙ queue_joined q in
      let flag : slice_index value 0 ≡ key_flag q.key = ap (λ (xs : List ℕ). slice_index xs 0) parts in
      let number = four_next 1 (key_number q.key) value _ (ap (drop 1) parts) (key_small q.key fits.key) in
      let qbytes = four_next 5 q.qbytes value _ number.1 (omega (arith, own_limit)) in
      let cbytes = four_next 9 q.cbytes value _ qbytes.1 (omega (arith, few_bytes)) in
      let qnum = four_next 13 q.qnum value _ cbytes.1 (omega (arith, few_messages)) in
      let lspid = four_next 17 q.lspid value _ qnum.1 fits.lspid in
      let lrpid = four_next 21 q.lrpid value _ lspid.1 fits.lrpid in
      let stime = eight_next 25 q.stime value _ lrpid.1 fits.stime in
      let rtime = eight_next 33 q.rtime value _ stime.1 fits.rtime in
      let ctime = eight_next 41 q.ctime value _ rtime.1 fits.ctime in
      let next = eight_next 49 q.next_serial value _ ctime.1 fits.next_serial in
      let first = serial_next 57 q.first value _ next.1 range.first fits.first in
      let last = serial_next 65 q.last value _ first.1 range.last fits.last in
      let lowest = type_link_next 73 q.lowest value _ last.1 range.lowest fits.lowest in
      let uid = four_next 81 q.uid value _ lowest.1 fits.uid in
      let gid = four_next 85 q.gid value _ uid.1 fits.gid in
      let cuid = four_next 89 q.cuid value _ gid.1 fits.cuid in
      let cgid = four_next 93 q.cgid value _ cuid.1 fits.cgid in
      let mode = two_next 97 q.mode value [] cgid.1 (omega (arith, nine_bits)) in
      let long = ends_at 97 2 value (two q.mode) cgid.1 (length-two q.mode) (omega arith) in
      let id : key.queue ≡ q.id = ap (λ (r : RecordKey). r.queue) is.keyed in
      let given = (λ i. given_key (flag i) (number.0 i)) ∙ key_again q.key in
      let same : queue_at key value ≡ q = λ i. record {
        id = id i;
        key = given i;
        qbytes = qbytes.0 i;
        cbytes = cbytes.0 i;
        qnum = qnum.0 i;
        lspid = lspid.0 i;
        lrpid = lrpid.0 i;
        stime = stime.0 i;
        rtime = rtime.0 i;
        ctime = ctime.0 i;
        next_serial = next.0 i;
        first = first.0 i;
        last = last.0 i;
        lowest = lowest.0 i;
        uid = uid.0 i;
        gid = gid.0 i;
        cuid = cuid.0 i;
        cgid = cgid.0 i;
        mode = mode.0 i;
      } in
      let flagged : has_flag value ≡ true = (λ i. flag i == 1 || flag i == 0 && number.0 i == 0) ∙ key_passes q.key in
      let limits : is_queue (queue_at key value) ≡ true = ap is_queue same ∙ (queue_limits q).1 range in
      let own = own_key _ _ (is.keyed ∙ ap queue_key (sym same)) in
      (and_true _ _ (is_long _ _ long) (and_true _ _ flagged (and_true _ _ own limits)), same)

  pub type_entry_again : (t : TypeEntry) → SpellsRecord (records.Type t) key value
      → (reads_type key value ≡ true) × (type_at key value ≡ t)
  type_entry_again t is =
      let fits = is.fits in
      let range = is.in_range in
      let first = eight_next 0 t.first value _ (is.spelled ∙ type_joined t) fits.first in
      let last = eight_next 8 t.last value _ first.1 fits.last in
      let lower = type_link_next 16 t.lower value _ last.1 range.lower fits.lower in
      let higher = type_link_next 24 t.higher value [] lower.1 range.higher fits.higher in
      let number = type_link_number t.higher in
      let long = ends_at 24 8 value (eight number) lower.1 (length-eight number) (omega arith) in
      let id : key.queue ≡ t.id = ap (λ (r : RecordKey). r.queue) is.keyed in
      let mtype : type_of key.number ≡ t.mtype = ap (λ (r : RecordKey). type_of r.number) is.keyed
      ∙ type_again t.mtype fits.mtype in
      let same : type_at key value ≡ t = λ i. record {
        id = id i;
        mtype = mtype i;
        first = first.0 i;
        last = last.0 i;
        lower = lower.0 i;
        higher = higher.0 i;
      } in
      let limits : is_type_entry (type_at key value) ≡ true = ap is_type_entry same ∙ (type_limits t).1 range in
      let own = own_key _ _ (is.keyed ∙ ap type_key (sym same)) in
      (and_true _ _ (is_long _ _ long) (and_true _ _ own limits), same)

  pub message_again : (m : MessageEntry) → SpellsRecord (records.Message m) key value
      → (reads_message key value ≡ true) × (message_at key value ≡ m)
  message_again m is =
      let fits = is.fits in
      let range = is.in_range in
      let mtype = type_next 0 m.mtype value _ (is.spelled ∙ message_joined m) range.mtype fits.mtype in
      let sender = four_next 8 m.sender value _ mtype.1 fits.sender in
      let previous = serial_next 12 m.previous value _ sender.1 range.previous fits.previous in
      let next = serial_next 20 m.next value _ previous.1 range.next fits.next in
      let same_type = serial_next 28 m.next_of_type value (m.body ++ []) next.1 range.next_of_type fits.next_of_type in
      let number = serial_number m.next_of_type in
      let long = reaches 28 8 value (eight number) (m.body ++ []) next.1 (length-eight number) (omega arith) in
      let body = same_type.1 ∙ append-nil m.body in
      let id : key.queue ≡ m.id = ap (λ (r : RecordKey). r.queue) is.keyed in
      let serial : key.number ≡ m.serial = ap (λ (r : RecordKey). r.number) is.keyed in
      let same : message_at key value ≡ m = λ i. record {
        id = id i;
        serial = serial i;
        mtype = mtype.0 i;
        sender = sender.0 i;
        previous = previous.0 i;
        next = next.0 i;
        next_of_type = same_type.0 i;
        body = body i;
      } in
      let limits : is_message (message_at key value) ≡ true = ap is_message same ∙ (message_limits m).1 range in
      let own = own_key _ _ (is.keyed ∙ ap message_key (sym same)) in
      (and_true _ _ (le-leb _ _ long) (and_true _ _ own limits), same)
