-- A bucket filled record by record.
use Rattle.std.proofs.Common.{◌≡◌, ℕ, ◌+◌, ◌≤◌, Bool, true, false, cond, Option, Some, None, List, [], ◌∷◌, ◌++◌, length, refl, sym, ap, subst, ◌∙◌, append_assoc, arith}
use Rattle.std.specs.List.{filter}
use Rattle.std.proofs.lemmas.List.{length-append}
use Rattle.std.proofs.lemmas.List.Concat.{flat_map-append}
use Rattle.bucket_page.specs.declared.layout.TheConstants.{ROOM_BYTES}
use Rattle.bucket_page.specs.declared.record_key.RecordKey.{RecordKey}
use Rattle.bucket_page.specs.Records.{Pair, pair_bytes, record_bytes, is_above, ascend_from, ascend}
use Rattle.bucket_page.specs.Bucket.{Bucket}
use Rattle.bucket_page.specs.Reading.{used_at, bucket_in, records_in}
use Rattle.bucket_page.specs.Changes.{SpellsBucket, IsBucketPage, Appends}
use Rattle.bucket_page.specs.Dividing.{has_bit_as, with_bit, pattern_of_half, half_of}
use Rattle.directory.proofs.of_numbers.Tests.{both_true}
use Rattle.bucket_page.proofs.Steps.{length-pair}
use Rattle.bucket_page.proofs.PageLaws.{bucket_again}
use Rattle.bucket_page.proofs.OrderLaws.{ascend_lower}
use Rattle.bucket_page.proofs.ChangeLaws.{opened}

-- a payload spells one bucket
pub bucket_is : (b : Bucket) (bytes : List ℕ) → SpellsBucket b bytes → bucket_in bytes ≡ b
bucket_is b bytes it = ap bucket_in it.spelled ∙ (bucket_again b it.in_range).value

pub is_page : (b : Bucket) (bytes : List ℕ) → SpellsBucket b bytes → IsBucketPage bytes
is_page b bytes it = subst (λ (x : Bucket). SpellsBucket x bytes) (sym (bucket_is b bytes it)) it

-- the payload is the bucket that is to be but for these records, which are still to be appended
pub record Filling (target : Bucket) (todo : List Pair) (bytes : List ℕ) : Type 0 where
  pub spells : SpellsBucket (record target { records = records_in bytes }) bytes
  pub all : records_in bytes ++ todo ≡ target.records

pub begun : (target : Bucket) (todo : List Pair) (bytes : List ℕ)
    → SpellsBucket (record target { records = [] }) bytes → todo ≡ target.records → Filling target todo bytes
begun target todo bytes it is =
    let none : records_in bytes ≡ [] = ap (λ (b : Bucket). b.records) (bucket_is _ bytes it) in
    record {
      spells = subst (λ (ps : List Pair). SpellsBucket (record target { records = ps }) bytes) (sym none) it;
      all = ap (λ (ps : List Pair). ps ++ todo) none ∙ is;
    }

regrouped : (xs ys : List Pair) (p : Pair) → (xs ++ p ∷ []) ++ ys ≡ xs ++ p ∷ ys
regrouped xs ys p = append_assoc xs (p ∷ []) ys

ascend_front : (low : Option RecordKey) (xs ys : List Pair) → ascend_from low (xs ++ ys) ≡ true
    → ascend_from low xs ≡ true
ascend_front low [] ys h = refl
ascend_front low (x ∷ xs) ys h =
    let both = both_true (is_above low x.key) (ascend_from (Some x.key) (xs ++ ys)) h in
    rw both.0 (ascend_front (Some x.key) xs ys both.1)

-- the next record fits and keeps the order
pub record IsNext (p : Pair) (bytes : List ℕ) : Type 0 where
  pub page : IsBucketPage bytes
  pub order : ascend (records_in bytes ++ p ∷ []) ≡ true
  pub room : used_at bytes + (15 + length p.value) ≤ ROOM_BYTES

pub is_next : (target : Bucket) (p : Pair) (todo rest : List Pair) (bytes : List ℕ) → Filling target todo bytes
    → todo ≡ p ∷ rest → ascend target.records ≡ true
    → length (record_bytes target.records) ≤ ROOM_BYTES → IsNext p bytes
is_next target p todo rest bytes it is order room =
    let done : List Pair = records_in bytes in
    let page = is_page _ bytes it.spells in
    let says = opened bytes page in
    let all : (done ++ p ∷ []) ++ rest ≡ target.records =
    regrouped done rest p ∙ ap (λ (ps : List Pair). done ++ ps) (sym is) ∙ it.all in
    let len : length (record_bytes target.records) ≡ length (record_bytes done) + length (pair_bytes p) + length
    (record_bytes rest) =
    ap (λ (ps : List Pair). length (record_bytes ps)) (sym all ∙ regrouped done rest p)
    ∙ ap length (flat_map-append pair_bytes done (p ∷ rest))
    ∙ omega (
      arith,
      length-append (record_bytes done) (pair_bytes p ++ record_bytes rest),
      length-append (pair_bytes p) (record_bytes rest),
    ) in
    record {
      page = page;
      order = ascend_front None (done ++ p ∷ []) rest (ap ascend all ∙ order);
      room = omega (arith, len, room, says.used, length-pair p);
    }

pub goes_on : (target : Bucket) (p : Pair) (todo rest : List Pair) (old new : List ℕ) → Filling target todo old
    → todo ≡ p ∷ rest → Appends p old new → Filling target rest new
goes_on target p todo rest old new it is appends =
    let done : List Pair = records_in old in
    let was : bucket_in old ≡ record target { records = done } = bucket_is _ old it.spells in
    let now : SpellsBucket (record target { records = done ++ p ∷ [] }) new =
    subst (λ (b : Bucket). SpellsBucket (record b { records = done ++ p ∷ [] }) new) was appends in
    let records : records_in new ≡ done ++ p ∷ [] = ap (λ (b : Bucket). b.records) (bucket_is _ new now) in
    record {
      spells = subst (λ (ps : List Pair). SpellsBucket (record target { records = ps }) new) (sym records) now;
      all = ap (λ (ps : List Pair). ps ++ rest) records ∙ regrouped done rest p
          ∙ ap (λ (ps : List Pair). done ++ ps) (sym is) ∙ it.all;
    }

-- ---- a half of a bucket's records

ascend_some : (f : Pair → Bool) (low : Option RecordKey) (ps : List Pair) → ascend_from low ps ≡ true
    → ascend_from low (filter f ps) ≡ true
ascend_some f low [] h = refl
ascend_some f low (p ∷ ps) h =
    let both = both_true (is_above low p.key) (ascend_from (Some p.key) ps) h in
    by_test (f p) both.0 (ascend_some f (Some p.key) ps both.1)
    (ascend_some f low ps (ascend_lower low p ps both.0 both.1))
  where
    by_test : (b : Bool) → is_above low p.key ≡ true → ascend_from (Some p.key) (filter f ps) ≡ true
        → ascend_from low (filter f ps) ≡ true
        → ascend_from low (cond b (p ∷ filter f ps) (filter f ps)) ≡ true
    by_test true first kept dropped = rw first kept
    by_test false first kept dropped = dropped

some_within : (f : Pair → Bool) (ps : List Pair) → length (record_bytes (filter f ps)) ≤ length (record_bytes ps)
some_within f [] = omega arith
some_within f (p ∷ ps) = by_test (f p) (some_within f ps)
  where
    by_test : (b : Bool) → length (record_bytes (filter f ps)) ≤ length (record_bytes ps)
        → length (record_bytes (cond b (p ∷ filter f ps) (filter f ps))) ≤ length (record_bytes (p ∷ ps))
    by_test true less = omega (
      arith,
      less,
      length-append (pair_bytes p) (record_bytes ps),
      length-append (pair_bytes p) (record_bytes (filter f ps)),
    )
    by_test false less =
        let whole : length (record_bytes (p ∷ ps)) ≡ length (pair_bytes p) + length (record_bytes ps) =
        length-append (pair_bytes p) (record_bytes ps) in
        let part : length (record_bytes (filter f ps)) ≤ length (record_bytes (p ∷ ps)) =
        omega (arith, less, whole) in
        part

-- the records of a half ascend and have room
pub record IsHalf (ps : List Pair) : Type 0 where
  pub order : ascend ps ≡ true
  pub room : length (record_bytes ps) ≤ ROOM_BYTES

pub is_half : (set : Bool) (place : ℕ) (of_key : RecordKey → ℕ) (bytes : List ℕ) → IsBucketPage bytes
    → IsHalf (with_bit set place of_key (records_in bytes))
is_half set place of_key bytes it =
    let f = λ (p : Pair). has_bit_as set place (of_key p.key) in
    record {
      order = ascend_some f None (records_in bytes) it.in_range.order;
      room = omega (arith, some_within f (records_in bytes), it.in_range.room);
    }

-- what is left to append, where the first record that is left belongs to the half, and where it doesn't
pub taken_on : (set : Bool) (place : ℕ) (of_key : RecordKey → ℕ) (p : Pair) (ps qs : List Pair) (key : ℕ) (r : Bool)
    → qs ≡ p ∷ ps → key ≡ of_key p.key → r ≡ has_bit_as set place key → r ≡ true
    → with_bit set place of_key qs ≡ p ∷ with_bit set place of_key ps
taken_on set place of_key p ps qs key r is key-is test holds =
    let b : has_bit_as set place (of_key p.key) ≡ true = ap (has_bit_as set place) (sym key-is) ∙ sym test ∙ holds in
    ap (with_bit set place of_key) is ∙ rw b refl

-- a bucket of a half without records
pub begun_half : (set : Bool) (of_key : RecordKey → ℕ) (next pattern : ℕ) (b : Bucket) (ps : List Pair)
    (bytes : List ℕ) → pattern ≡ pattern_of_half set b
    → SpellsBucket (record { depth = b.depth + 1; pattern = pattern; next = next; records = [] }) bytes
    → ps ≡ b.records
    → Filling (half_of set of_key next b) (with_bit set b.depth of_key ps) bytes
begun_half set of_key next pattern b ps bytes pattern-is it is =
    begun (half_of set of_key next b) (with_bit set b.depth of_key ps) bytes
    (subst (λ (p : ℕ). SpellsBucket (record { depth = b.depth + 1; pattern = p; next = next; records = [] }) bytes)
    pattern-is it)
    (ap (with_bit set b.depth of_key) is)

pub half_next : (set : Bool) (of_key : RecordKey → ℕ) (next : ℕ) (full bytes : List ℕ) (p : Pair) (ps qs : List Pair)
    (key : ℕ) (r : Bool) → IsBucketPage full
    → Filling (half_of set of_key next (bucket_in full)) (with_bit set (bucket_in full).depth of_key qs) bytes
    → qs ≡ p ∷ ps → key ≡ of_key p.key
    → r ≡ has_bit_as set (bucket_in full).depth key → r ≡ true → IsNext p bytes
half_next set of_key next full bytes p ps qs key r it filling is key-is test holds =
    let b : Bucket = bucket_in full in
    let half = is_half set b.depth of_key full it in
    is_next (half_of set of_key next b) p (with_bit set b.depth of_key qs) (with_bit set b.depth of_key ps) bytes
    filling
    (taken_on set b.depth of_key p ps qs key r is key-is test holds) half.order half.room

pub half_on : (set : Bool) (of_key : RecordKey → ℕ) (next : ℕ) (full old new : List ℕ) (p : Pair) (ps qs : List Pair)
    (key : ℕ) (r : Bool)
    → Filling (half_of set of_key next (bucket_in full)) (with_bit set (bucket_in full).depth of_key qs) old
    → qs ≡ p ∷ ps → key ≡ of_key p.key
    → r ≡ has_bit_as set (bucket_in full).depth key → r ≡ true → Appends p old new
    → Filling (half_of set of_key next (bucket_in full)) (with_bit set (bucket_in full).depth of_key ps) new
half_on set of_key next full old new p ps qs key r filling is key-is test holds appends =
    let b : Bucket = bucket_in full in
    goes_on (half_of set of_key next b) p (with_bit set b.depth of_key qs) (with_bit set b.depth of_key ps) old new
    filling
    (taken_on set b.depth of_key p ps qs key r is key-is test holds) appends
