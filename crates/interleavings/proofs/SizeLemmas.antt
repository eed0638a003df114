-- The bytes of the records of a system, and those of a bucket that has no other records.
use Rattle.std.proofs.Common.{ℕ, zero, suc, ◌≡◌, ◌≢◌, ◌≤◌, ◌<◌, ◌+◌, ◌*◌, inl, inr, refl, sym, ap, ◌∙◌, subst, Bool, true, false, List, [], ◌∷◌, ◌++◌, Option, Some, None, length, length-append, map, arith}
use Rattle.std.specs.Prelude.{ℤ, get_or, option_to_list, sum_by}
use Rattle.std.specs.List.{All, AllByRecursion, Contains, flat_map}
use Rattle.std.proofs.lemmas.Bool.{both_ways, eq-eqb}
use Rattle.std.proofs.lemmas.List.Elements.{All-cons, All-nil, All-head, All-tail}
use Rattle.std.proofs.lemmas.List.Sums.{sum_by-append, sum_by-cons}
use Rattle.bucket_page.specs.declared.layout.TheConstants.{ROOM_BYTES}
use Rattle.bucket_page.specs.declared.record_key.RecordKey.{RecordKey}
use Rattle.bucket_page.specs.Keys.{is_same, is_below}
use Rattle.bucket_page.specs.Records.{Pair, ascend, lookup, pair, pair_bytes, record_bytes}
use Rattle.bucket_page.proofs.KeyLaws.{below_other}
use Rattle.bucket_page.proofs.LookupLaws.{all_above}
use Rattle.bucket_page.proofs.OrderLaws.{ascend_rest}
use Rattle.bucket_page.proofs.Steps.{length-pair}
use Rattle.hash_file.proofs.Contents.{contents_are_pairs}
use Rattle.hash_file.specs.Chain.{chain, contents}
use Rattle.hash_file.specs.Store.{records_at}
use Rattle.queue_model.specs.Selection.{total_bytes}
use Rattle.queue_model.specs.State.{State}
use Rattle.queue_model.specs.declared.message.Message.{Message}
use Rattle.queue_model.specs.declared.queue.Queue.{Queue}
use Rattle.queue_records.proofs.Lengths.{length-counter, length-queue}
use Rattle.queue_records.proofs.of_numbers.NumberLaws.{length-eight, length-four}
use Rattle.queue_records.specs.Spelling.{key_of, value_of}
use Rattle.queue_records.specs.declared.record.Record.{Record}
use Rattle.queue_records.specs.declared.record.Record.TheVariants as records
use Rattle.step_rules.specs.Rooms.{HasNoRoom}
use Rattle.step_rules.specs.Sound.{IsSoundWorld}
use Rattle.step_rules.specs.World.{World}
use Rattle.type_chains.proofs.Beside.{split_at}
use Rattle.type_chains.proofs.Members.{head_or_tail, in_flat_map}
use Rattle.type_chains.specs.Entries.{counter_of, key_entry, message_entry, queue_entry, type_entry}
use Rattle.type_chains.specs.Image.{image, key_records, message_records, queue_records, type_records}
use Rattle.type_chains.specs.Lists.{types}
use Rattle.interleavings.specs.Sizes.{bytes_of_system, bytes_of_queue}

-- the bytes of a record: its length, its key and its value
pub size : Record → ℕ
size r = 15 + length (value_of r)

-- ---- those of a system

key_size : (k : ℕ) (q : Queue) → size (records.Key (key_entry k q)) ≡ 19
unfolding size
key_size k q = ap (λ (n : ℕ). 15 + n) (length-four q.id)

queue_size : (q : Queue) → size (records.Queue (queue_entry q)) ≡ 114
unfolding size
queue_size q = ap (λ (n : ℕ). 15 + n) (length-queue (queue_entry q))

type_size : (q : Queue) (t : ℤ) → size (records.Type (type_entry q t)) ≡ 47
unfolding size
type_size q t = simp (length-append, length-eight) (omega arith)

message_size : (q : Queue) (m : Message) → size (records.Message (message_entry q m)) ≡ 51 + length m.bytes
unfolding size
message_size q m = simp (length-append, length-eight, length-four) (omega arith)

-- as many records, all as long
alike : {X : Type 0} (f : X → Record) (n : ℕ) (xs : List X) → ((x : X) → size (f x) ≡ n) →
    sum_by size (map f xs) ≡ n * length xs
alike f n [] each = omega arith
alike f n (x ∷ xs) each = omega (arith, sum_by-cons size (f x) (map f xs), each x, alike f n xs each)

messages_size : (q : Queue) (ms : List Message) →
    sum_by size (map (λ (m : Message). records.Message (message_entry q m)) ms) ≡ 51 * length ms + total_bytes ms
messages_size q [] = refl
messages_size q (m ∷ ms) =
    let first = sum_by-cons size (records.Message (message_entry q m))
    (map (λ (m : Message). records.Message (message_entry q m)) ms) in
    let bodies = sum_by-cons (λ (m : Message). length m.bytes) m ms in
    omega (arith, first, bodies, message_size q m, messages_size q ms)

queue_sizes : (q : Queue) → sum_by size (queue_records q) ≡ bytes_of_queue q
queue_sizes q =
    let keys = alike (λ (k : ℕ). records.Key (key_entry k q)) 19 (option_to_list q.key) (λ k. key_size k q) in
    let kinds = alike (λ (t : ℤ). records.Type (type_entry q t)) 47 (types q.messages) (type_size q) in
    let rest = type_records q ++ message_records q in
    omega (
      arith,
      sum_by-append size (key_records q) (records.Queue (queue_entry q) ∷ rest),
      sum_by-cons size (records.Queue (queue_entry q)) rest,
      sum_by-append size (type_records q) (message_records q),
      queue_size q,
      keys,
      kinds,
      messages_size q q.messages,
    )

queues_sizes : (qs : List Queue) → sum_by size (flat_map queue_records qs) ≡ sum_by bytes_of_queue qs
queues_sizes [] = refl
queues_sizes (q ∷ qs) =
    omega (
      arith,
      sum_by-append size (queue_records q) (flat_map queue_records qs),
      sum_by-cons bytes_of_queue q qs,
      queue_sizes q,
      queues_sizes qs,
    )

pub image_size : (s : State) → sum_by size (image s) ≡ bytes_of_system s
unfolding size
image_size s =
    omega (
      arith,
      sum_by-cons size (records.Counter (counter_of s)) (flat_map queue_records s.queues),
      length-counter (counter_of s),
      queues_sizes s.queues,
    )

-- ---- records among those of a list

-- one of this key with a value as long
pub record IsAmong (rs : List Record) (key : RecordKey) (value : List ℕ) : Type 0 where
  pub entry : Record
  pub its : Contains rs entry
  pub keyed : key_of entry ≡ key
  pub long : length (value_of entry) ≡ length value

-- no two have one key
abbrev pub Differ : List Pair → Type 0
Differ [] = Unit {0}
Differ (p ∷ ps) = All (λ (q : Pair). q.key ≢ p.key) ps × Differ ps

same_self : (key : RecordKey) → is_same key key ≡ true
same_self key =
    rw (eq-eqb key.kind key.kind refl, eq-eqb key.queue key.queue refl, eq-eqb key.number key.number refl) refl

ascending_differ : (ps : List Pair) → ascend ps ≡ true → Differ ps
ascending_differ [] up = tt
ascending_differ (p ∷ ps) up =
    (above ps (all_above p.key ps up), ascending_differ ps (ascend_rest (Some p.key) ps up))
  where
    above : (qs : List Pair) → AllByRecursion (λ (q : Pair). is_below p.key q.key ≡ true) qs →
        All (λ (q : Pair). q.key ≢ p.key) qs
    above [] all = All-nil (λ (q : Pair). q.key ≢ p.key)
    above (q ∷ qs) all = All-cons (λ (q : Pair). q.key ≢ p.key) q qs
        (λ same. both_ways (is_same p.key q.key) (below_other p.key q.key all.0).0
        (subst (λ (k : RecordKey). is_same p.key k ≡ true) (sym same) (same_self p.key)))
        (above qs all.1)

-- without one record, those of other keys are among the rest
among_rest : (front back : List Record) (r : Record) (key : RecordKey) (value : List ℕ) → key ≢ key_of r →
    IsAmong (front ++ r ∷ back) key value → IsAmong (front ++ back) key value
among_rest front back r key value apart is = record {
  entry = is.entry;
  its = rest front is.its;
  keyed = is.keyed;
  long = is.long;
}
  where
    other : r ≡ is.entry → ⊥
    other same = apart (sym is.keyed ∙ ap key_of (sym same))

    rest : (xs : List Record) → Contains (xs ++ r ∷ back) is.entry → Contains (xs ++ back) is.entry
    rest [] has = elim (head_or_tail r is.entry back has) [
      | inl same ↦ absurd (other same)
      | inr there ↦ there
    ]
    rest (x ∷ xs) has = elim (head_or_tail x is.entry (xs ++ r ∷ back) has) [
      | inl same ↦ (zero, omega arith, same)
      | inr there ↦
          let (k, within, at) = rest xs there in
          (suc k, omega (arith, within), at)
    ]

all_among_rest : (front back : List Record) (r : Record) (ps : List Pair) →
    All (λ (q : Pair). q.key ≢ key_of r) ps → All (λ (q : Pair). IsAmong (front ++ r ∷ back) q.key q.value) ps →
    All (λ (q : Pair). IsAmong (front ++ back) q.key q.value) ps
all_among_rest front back r ps apart among = λ i d within.
    among_rest front back r (get_or ps i d).key (get_or ps i d).value (apart i d within) (among i d within)

-- so these are no more bytes than those
pub no_longer : (ps : List Pair) (rs : List Record) → Differ ps →
    All (λ (p : Pair). IsAmong rs p.key p.value) ps → length (record_bytes ps) ≤ sum_by size rs
unfolding size
no_longer [] rs apart among = omega arith
no_longer (p ∷ ps) rs apart among =
    let here : IsAmong rs p.key p.value = All-head (λ (q : Pair). IsAmong rs q.key q.value) p ps among in
    let split = split_at rs here.entry here.its in
    let others = all_among_rest split.front split.back here.entry ps
    (λ i d within same. apart.0 i d within (same ∙ here.keyed))
    (subst (λ (xs : List Record). All (λ (q : Pair). IsAmong xs q.key q.value) ps) split.whole
    (All-tail (λ (q : Pair). IsAmong rs q.key q.value) p ps among)) in
    let rest = no_longer ps (split.front ++ split.back) apart.1 others in
    let whole = ap (sum_by size) split.whole in
    omega (
      arith,
      rest,
      whole,
      length-append (pair_bytes p) (record_bytes ps),
      length-pair p,
      here.long,
      sum_by-append size split.front (here.entry ∷ split.back),
      sum_by-cons size here.entry split.back,
      sum_by-append size split.front split.back,
    )

-- ---- a bucket without room

in_records : (ps : List Pair) (P : Pair → Type 0) → ((p : Pair) → Contains ps p → P p) → All P ps
in_records [] P each = All-nil P
in_records (p ∷ ps) P each = All-cons P p ps (each p (zero, omega arith, refl))
    (in_records ps P (λ q has. each q (
      suc has.0,
      omega (arith, has.1),
      has.2,
    )))

-- a key that is not looked up is none of theirs
unlike : (key : RecordKey) (ps : List Pair) → lookup key ps ≡ None → All (λ (q : Pair). q.key ≢ key) ps
unlike key [] none = All-nil (λ (q : Pair). q.key ≢ key)
unlike key (p ∷ ps) none = by (is_same p.key key) refl (unlike key ps)
  where
    by : (b : Bool) → is_same p.key key ≡ b → (lookup key ps ≡ None → All (λ (q : Pair). q.key ≢ key) ps) →
        All (λ (q : Pair). q.key ≢ key) (p ∷ ps)
    by true same rest = let clash : ◌≡◌ {A = Option (List ℕ)} (Some p.value) None = rw same at none in absurd cc
    by false other rest = All-cons (λ (q : Pair). q.key ≢ key) p ps
        (λ same. both_ways (is_same p.key key) other
        (subst (λ (k : RecordKey). is_same p.key k ≡ true) same (same_self p.key)))
        (rest (rw other at none))

-- where all that a file holds, and the record that has no room, are among the records of a system, these are more than
-- a bucket holds
pub over_a_bucket : (hash : RecordKey → ℕ) (w : World) (key : RecordKey) (value : List ℕ) (s : State) →
    IsSoundWorld hash w → HasNoRoom hash (pair key value) w →
    ((k : RecordKey) (v : List ℕ) → contents w.store k ≡ Some v → IsAmong (image s) k v) →
    IsAmong (image s) key value → ROOM_BYTES < bytes_of_system s
over_a_bucket hash w key value s sound none held new =
    let page = none.page in
    let ps : List Pair = records_at w.store page in
    let placed = sound.file.placed page none.lacks.home.0 in
    let are = contents_are_pairs hash w.store w.change sound.file in
    let each : All (λ (p : Pair). IsAmong (image s) p.key p.value) ps =
    in_records ps (λ (p : Pair). IsAmong (image s) p.key p.value)
    (λ p has. held p.key p.value ((are.pairs p.key p.value).1
    (in_flat_map (records_at w.store) (chain w.store) page p none.lacks.home.0 has))) in
    let all = no_longer (pair key value ∷ ps) (image s)
    (unlike key ps none.lacks.absent, ascending_differ ps placed.ascends)
    (All-cons (λ (p : Pair). IsAmong (image s) p.key p.value) (pair key value) ps new each) in
    omega (
      arith,
      all,
      none.lacks.full,
      image_size s,
      length-append (pair_bytes (pair key value)) (record_bytes ps),
    )
