-- A record that stands in a bucket's payload is replaced or taken out.
use Rattle.std.proofs.Common.{◌≡◌, ◌&&◌, ℕ, ◌+◌, ◌-◌, ◌≤◌, Bool, true, Option, Some, None, List, [], ◌∷◌, ◌++◌, length, take, drop, refl, sym, ap, subst, ◌∙◌, append_assoc, arith}
use Rattle.std.specs.Prelude.{IsSome, unwrap_or}
use Rattle.std.specs.List.{AllByRecursion}
use Rattle.std.proofs.lemmas.List.{drop_at, length-append, length-drop, length-take, take-append-drop}
use Rattle.std.proofs.lemmas.List.Concat.{flat_map-append}
use Rattle.bucket_page.specs.declared.layout.TheConstants.{ROOM_BYTES}
use Rattle.bucket_page.specs.declared.head.Head.{Head}
use Rattle.bucket_page.specs.declared.record_key.RecordKey.{RecordKey}
use Rattle.directory.specs.numbers.Numbers.{two, zeros, two_at, overwritten}
use Rattle.bucket_page.specs.Keys.{key_bytes}
use Rattle.bucket_page.specs.Records.{Pair, pair, is_above, ascend_from, IsPair, pair_bytes, record_bytes, ascend, lookup}
use Rattle.bucket_page.specs.Spelling.{head_bytes, padded}
use Rattle.bucket_page.specs.Reading.{record_count_at, used_at, head_at, bucket_in, records_in}
use Rattle.bucket_page.specs.Changes.{SpellsBucket, IsBucketPage, Changes, below, fronted, replaced, removed, taken_out, value_of_key}
use Rattle.directory.proofs.of_numbers.NumberLaws.{two_again, length-two}
use Rattle.bucket_page.proofs.KeyLaws.{length-key}
use Rattle.bucket_page.proofs.Steps.{length-pair}
use Rattle.bucket_page.proofs.OrderLaws.{behind, IsAmong, is_among, ascend_without}
use Rattle.bucket_page.proofs.SpliceLaws.{taken_between}
use Rattle.directory.proofs.of_numbers.WrittenLaws.{written_between}
use Rattle.bucket_page.proofs.ChangeLaws.{opened, remade}

-- the bytes before a record, its own, and those behind it
pub record Stands (key : RecordKey) (value bytes : List ℕ) : Type 0 where
  pub among : IsAmong key value (records_in bytes)
  pub own : IsPair (pair key value)
  pub parts : record_bytes (records_in bytes) ≡ record_bytes (below key (records_in bytes))
      ++ (pair_bytes (pair key value) ++ record_bytes (behind key (records_in bytes)))
  pub within : length (record_bytes (below key (records_in bytes))) + (15 + length value) ≤ used_at bytes
  pub some : 1 ≤ record_count_at bytes
  pub len : two_at (length (record_bytes (below key (records_in bytes)))) (drop 16 bytes) ≡ length value

all_at : (P : Pair → Type 0) (p : Pair) (lower upper : List Pair) → AllByRecursion P (lower ++ p ∷ upper) → P p
all_at P p [] upper all = all.0
all_at P p (q ∷ lower) upper all = all_at P p lower upper all.1

pub stands : (bytes value : List ℕ) (key : RecordKey) → IsBucketPage bytes
    → lookup key (records_in bytes) ≡ Some value → Stands key value bytes
stands bytes value key it there =
    let says = opened bytes it in
    let ps : List Pair = records_in bytes in
    let among = is_among key value None ps says.ascends there in
    let f : List ℕ = record_bytes (below key ps) in
    let x : List ℕ = pair_bytes (pair key value) in
    let u : List ℕ = record_bytes (behind key ps) in
    let own : IsPair (pair key value) = all_at IsPair (pair key value) (below key ps) (behind key ps)
    (subst (AllByRecursion IsPair) among.parts it.in_range.pairs) in
    let parts : record_bytes ps ≡ f ++ (x ++ u) = ap record_bytes among.parts
    ∙ flat_map-append pair_bytes (below key ps) (pair key value ∷ behind key ps) in
    let len = length-pair (pair key value) in
    let z : List ℕ = zeros (ROOM_BYTES - length (f ++ (x ++ u))) in
    let back : drop 16 bytes ≡ f ++ ((x ++ u) ++ z) = says.back ∙ ap (padded ROOM_BYTES) parts
    ∙ append_assoc f (x ++ u) z in
    let place : drop (length f) (drop 16 bytes) ≡ (x ++ u) ++ z =
    ap (drop (length f)) back ∙ drop_at f ((x ++ u) ++ z) (length f) refl in
    let first : drop (length f) (drop 16 bytes) ≡ two (length value) ++ (((key_bytes key ++ value) ++ u) ++ z) =
    place ∙ append_assoc x u z ∙ append_assoc (two (length value)) (key_bytes key ++ value) (u ++ z)
    ∙ ap (λ (xs : List ℕ). two (length value) ++ xs) (sym (append_assoc (key_bytes key ++ value) u z)) in
    record {
      among = among;
      own = own;
      parts = parts;
      within = omega (arith, says.used, ap length parts, length-append f (x ++ u), length-append x u, len);
      some = omega (
        arith,
        says.count,
        ap length among.parts,
        length-append (below key ps) (pair key value ∷ behind key ps),
      );
      len = two_again (length f) (length value) (drop 16 bytes) (((key_bytes key ++ value) ++ u) ++ z) first
          own.value;
    }

-- the value in an option that has one
pub value_in : Option (List ℕ) → List ℕ
value_in None = []
value_in (Some value) = value

some_in : (o : Option (List ℕ)) → IsSome o → o ≡ Some (value_in o)
unfolding value_in
some_in None is = absurd cc
some_in (Some value) is = refl

-- the record of a key that is there
pub stands_there : (bytes : List ℕ) (key : RecordKey) → IsBucketPage bytes → IsSome (lookup key (records_in bytes))
    → Stands key (value_in (lookup key (records_in bytes))) bytes
stands_there bytes key it there = stands bytes _ key it (some_in (lookup key (records_in bytes)) there)

-- its length, as the code reads it
pub record IsRead (bytes : List ℕ) (key : RecordKey) (h : Head) (at n : ℕ) : Type 0 where
  pub len : n ≡ length (value_in (lookup key (records_in bytes)))
  pub fits : at + (15 + n) ≤ h.used

pub is_read : (bytes back : List ℕ) (key : RecordKey) (h : Head) (at n : ℕ) → IsBucketPage bytes
    → IsSome (lookup key (records_in bytes)) → h ≡ head_at bytes
    → at ≡ length (record_bytes (below key (records_in bytes))) → back ≡ drop 16 bytes → n ≡ two_at at back
    → IsRead bytes key h at n
is_read bytes back key h at n it there head at-is back-is n-is =
    let stand = stands_there bytes key it there in
    let len : n ≡ length (value_in (lookup key (records_in bytes))) =
    n-is ∙ (λ i. two_at (at-is i) (back-is i)) ∙ stand.len in
    record { len = len; fits = omega (arith, stand.within, len, at-is, ap (λ (o : Head). o.used) head) }

-- ---- replaced

all_with : (P : Pair → Type 0) (old new : Pair) (lower upper : List Pair) → P new
    → AllByRecursion P (lower ++ old ∷ upper) → AllByRecursion P (lower ++ new ∷ upper)
all_with P old new [] upper mine all = (mine, all.1)
all_with P old new (q ∷ lower) upper mine all = (all.0, all_with P old new lower upper mine all.1)

ascend_with : (low : Option RecordKey) (key : RecordKey) (old new : List ℕ) (lower upper : List Pair)
    → ascend_from low (lower ++ pair key old ∷ upper) ≡ ascend_from low (lower ++ pair key new ∷ upper)
ascend_with low key old new [] upper = refl
ascend_with low key old new (q ∷ lower) upper = ap (λ (b : Bool). is_above low q.key && b)
    (ascend_with (Some q.key) key old new lower upper)

-- a record's parts among others
spread : (f t k v u z : List ℕ) → (f ++ ((t ++ (k ++ v)) ++ u)) ++ z ≡ (f ++ (t ++ k)) ++ (v ++ (u ++ z))
spread f t k v u z =
    let left = append_assoc f ((t ++ (k ++ v)) ++ u) z ∙ ap (λ (xs : List ℕ). f ++ xs)
    (append_assoc (t ++ (k ++ v)) u z ∙ append_assoc t (k ++ v) (u ++ z)
    ∙ ap (λ (xs : List ℕ). t ++ xs) (append_assoc k v (u ++ z))) in
    left ∙ sym (append_assoc f (t ++ k) (v ++ (u ++ z))
    ∙ ap (λ (xs : List ℕ). f ++ xs) (append_assoc t k (v ++ (u ++ z))))

written_value : (f u value new : List ℕ) (key : RecordKey) (room : ℕ) → length value ≡ length new
    → overwritten (padded room (f ++ (pair_bytes (pair key value) ++ u))) (length f + 15) new
    ≡ padded room (f ++ (pair_bytes (pair key new) ++ u))
written_value f u value new key room same =
    let k : List ℕ = key_bytes key in
    let t : List ℕ = two (length value) in
    let z : List ℕ = zeros (room - length (f ++ ((t ++ (k ++ value)) ++ u))) in
    let head : length (f ++ (t ++ k)) ≡ length f + 15 =
    omega (arith, length-append f (t ++ k), length-append t k, length-two (length value), length-key key) in
    let len : length (f ++ ((t ++ (k ++ value)) ++ u)) ≡ length (f ++ ((two (length new) ++ (k ++ new)) ++ u)) =
    omega (
      arith,
      same,
      length-append f ((t ++ (k ++ value)) ++ u),
      length-append f ((two (length new) ++ (k ++ new)) ++ u),
      length-append (t ++ (k ++ value)) u,
      length-append (two (length new) ++ (k ++ new)) u,
      length-pair (pair key value),
      length-pair (pair key new),
    ) in
    ap (λ (xs : List ℕ). overwritten xs (length f + 15) new) (spread f t k value u z)
    ∙ written_between (f ++ (t ++ k)) value new (u ++ z) (length f + 15) head same
    ∙ sym (spread f t k new u z)
    ∙ (λ i. (f ++ ((two (same i) ++ (k ++ new)) ++ u)) ++ zeros (room - len i))

pub replace_makes : (bytes value new front back body : List ℕ) (key : RecordKey) (at : ℕ) → IsBucketPage bytes
    → Stands key value bytes → length value ≡ length new
    → at ≡ length (record_bytes (below key (records_in bytes))) → front ≡ take 16 bytes → back ≡ drop 16 bytes
    → body ≡ overwritten back (at + 15) new
    → Changes (replaced (pair key new)) bytes (front ++ body)
replace_makes bytes value new front back body key at it stand same at-is front-is back-is body-is =
    let says = opened bytes it in
    let ps : List Pair = records_in bytes in
    let lower : List Pair = below key ps in
    let upper : List Pair = behind key ps in
    let f : List ℕ = record_bytes lower in
    let u : List ℕ = record_bytes upper in
    let among = stand.among in
    let own : IsPair (pair key new) = record { key = stand.own.key; value = omega (arith, same, stand.own.value) } in
    let all = all_with IsPair (pair key value) (pair key new) lower upper own
    (subst (AllByRecursion IsPair) among.parts it.in_range.pairs) in
    let whole : record_bytes (lower ++ pair key new ∷ upper) ≡ f ++ (pair_bytes (pair key new) ++ u) =
    flat_map-append pair_bytes lower (pair key new ∷ upper) in
    let order : ascend (lower ++ pair key new ∷ upper) ≡ true =
    sym (ascend_with None key value new lower upper) ∙ ap ascend (sym among.parts) ∙ says.ascends in
    let len : length (record_bytes (lower ++ pair key new ∷ upper)) ≡ used_at bytes =
    omega (
      arith,
      says.used,
      ap length whole,
      ap length stand.parts,
      length-append f (pair_bytes (pair key value) ++ u),
      length-append f (pair_bytes (pair key new) ++ u),
      length-append (pair_bytes (pair key value)) u,
      length-append (pair_bytes (pair key new)) u,
      length-pair (pair key value),
      length-pair (pair key new),
      same,
    ) in
    let count : length (lower ++ pair key new ∷ upper) ≡ record_count_at bytes =
    omega (
      arith,
      says.count,
      ap length among.parts,
      length-append lower (pair key value ∷ upper),
      length-append lower (pair key new ∷ upper),
    ) in
    let head : head_at bytes ≡ record (head_at bytes) {
      count = length (lower ++ pair key new ∷ upper);
      used =
          length (record_bytes (lower ++ pair key new ∷ upper));
    } =
    λ i. record (head_at bytes) { count = sym count i; used = sym len i } in
    let is : body ≡ padded ROOM_BYTES (record_bytes (lower ++ pair key new ∷ upper)) =
    body-is ∙ (λ i. overwritten ((back-is ∙ says.back ∙ ap (padded ROOM_BYTES) stand.parts) i) (at-is i + 15) new)
    ∙ written_value f u value new key ROOM_BYTES same ∙ ap (padded ROOM_BYTES) (sym whole) in
    subst (λ (qs : List Pair). SpellsBucket (record (bucket_in bytes) { records = qs }) (front ++ body))
    (sym (among.replaced new))
    (remade bytes front body (head_at bytes) (lower ++ pair key new ∷ upper) it all (omega (arith, len, says.room))
    order head (front-is ∙ says.front) is)

-- ---- replaced in part

-- the first bytes of what stands between others are written over
over_front : (f v b front : List ℕ) (at : ℕ) → length f ≡ at → length front ≤ length v
    → overwritten (f ++ (v ++ b)) at front ≡ overwritten (f ++ (v ++ b)) at (front ++ drop (length front) v)
over_front f v b front at is long =
    let n : ℕ = length front in
    let parts : f ++ (v ++ b) ≡ f ++ (take n v ++ (drop n v ++ b)) =
    ap (λ (xs : List ℕ). f ++ xs) (ap (λ (xs : List ℕ). xs ++ b) (sym (take-append-drop n v))
    ∙ append_assoc (take n v) (drop n v) b) in
    let taken : length (take n v) ≡ n = let t = length-take n v in omega (arith, t, long) in
    let same : length v ≡ length (front ++ drop n v) =
    let a = length-append front (drop n v) in let d = length-drop n v in omega (arith, a, d, long) in
    ap (λ (xs : List ℕ). overwritten xs at front) parts
    ∙ written_between f (take n v) front (drop n v ++ b) at is taken
    ∙ ap (λ (xs : List ℕ). f ++ xs) (sym (append_assoc front (drop n v) b))
    ∙ sym (written_between f v (front ++ drop n v) b at is same)

pub some_with : (o : Option (List ℕ)) → IsSome o → o ≡ Some (unwrap_or o [])
some_with None is = absurd cc
some_with (Some value) is = refl

pub front_makes : (bytes first front back body : List ℕ) (key : RecordKey) (at : ℕ) → IsBucketPage bytes
    → IsSome (lookup key (records_in bytes)) → length first ≤ length (value_of_key key (records_in bytes))
    → at ≡ length (record_bytes (below key (records_in bytes))) → front ≡ take 16 bytes → back ≡ drop 16 bytes
    → body ≡ overwritten back (at + 15) first
    → Changes (fronted key first) bytes (front ++ body)
front_makes bytes first front back body key at it there long at-is front-is back-is body-is =
    let says = opened bytes it in
    let ps : List Pair = records_in bytes in
    let value : List ℕ = value_of_key key ps in
    let stand = stands bytes value key it (some_with (lookup key ps) there) in
    let f : List ℕ = record_bytes (below key ps) in
    let u : List ℕ = record_bytes (behind key ps) in
    let k : List ℕ = key_bytes key in
    let t : List ℕ = two (length value) in
    let z : List ℕ = zeros (ROOM_BYTES - length (f ++ ((t ++ (k ++ value)) ++ u))) in
    let head : length (f ++ (t ++ k)) ≡ at + 15 =
    omega (arith, length-append f (t ++ k), length-append t k, length-two (length value), length-key key, at-is) in
    let is : back ≡ (f ++ (t ++ k)) ++ (value ++ (u ++ z)) =
    back-is ∙ says.back ∙ ap (padded ROOM_BYTES) stand.parts ∙ spread f t k value u z in
    let new : List ℕ = first ++ drop (length first) value in
    let same : length value ≡ length new =
    let a = length-append first (drop (length first) value) in let d = length-drop (length first) value in
    omega (arith, a, d, long) in
    replace_makes bytes value new front back body key at it stand same at-is front-is back-is
    (body-is ∙ ap (λ (xs : List ℕ). overwritten xs (at + 15) first) is
    ∙ over_front (f ++ (t ++ k)) value (u ++ z) first (at + 15) head long
    ∙ ap (λ (xs : List ℕ). overwritten xs (at + 15) new) (sym is))

-- ---- removed

all_without : (P : Pair → Type 0) (p : Pair) (lower upper : List Pair) → AllByRecursion P (lower ++ p ∷ upper)
    → AllByRecursion P (lower ++ upper)
all_without P p [] upper all = all.1
all_without P p (q ∷ lower) upper all = (all.0, all_without P p lower upper all.1)

pub remove_makes : (bytes value front back body : List ℕ) (key : RecordKey) (h : Head) (at : ℕ) → IsBucketPage bytes
    → Stands key value bytes
    → at ≡ length (record_bytes (below key (records_in bytes))) → h ≡ head_at bytes
    → front ≡ head_bytes (record h { count = h.count - 1; used = h.used - (15 + length value) })
    → back ≡ drop 16 bytes → body ≡ taken_out back h.used at (15 + length value)
    → Changes (removed key) bytes (front ++ body)
remove_makes bytes value front back body key h at it stand at-is head front-is back-is body-is =
    let says = opened bytes it in
    let ps : List Pair = records_in bytes in
    let lower : List Pair = below key ps in
    let upper : List Pair = behind key ps in
    let f : List ℕ = record_bytes lower in
    let x : List ℕ = pair_bytes (pair key value) in
    let u : List ℕ = record_bytes upper in
    let among = stand.among in
    let n : ℕ = 15 + length value in
    let all = all_without IsPair (pair key value) lower upper
    (subst (AllByRecursion IsPair) among.parts it.in_range.pairs) in
    let whole : record_bytes (lower ++ upper) ≡ f ++ u = flat_map-append pair_bytes lower upper in
    let order : ascend (lower ++ upper) ≡ true = ascend_without None (pair key value) lower upper
    (ap ascend (sym among.parts) ∙ says.ascends) in
    let used : used_at bytes ≡ length (f ++ (x ++ u)) = says.used ∙ ap length stand.parts in
    let xlen : length x ≡ n = length-pair (pair key value) in
    let len : length (record_bytes (lower ++ upper)) ≡ used_at bytes - n =
    omega (arith, used, ap length whole, xlen, length-append f (x ++ u), length-append x u, length-append f u) in
    let count : length (lower ++ upper) ≡ record_count_at bytes - 1 =
    omega (
      arith,
      says.count,
      ap length among.parts,
      length-append lower (pair key value ∷ upper),
      length-append lower upper,
    ) in
    let shrunk : record h { count = h.count - 1; used = h.used - n }
    ≡ record (head_at bytes) { count = length (lower ++ upper); used = length (record_bytes (lower ++ upper)) } =
    ap (λ (o : Head). record o { count = o.count - 1; used = o.used - n }) head
    ∙ (λ i. record (head_at bytes) { count = sym count i; used = sym len i }) in
    let room : length (f ++ (x ++ u)) ≤ ROOM_BYTES = omega (arith, used, says.room) in
    let is : body ≡ padded ROOM_BYTES (record_bytes (lower ++ upper)) =
    body-is ∙ (λ i. taken_out ((back-is ∙ says.back ∙ ap (padded ROOM_BYTES) stand.parts) i)
    ((ap (λ (o : Head). o.used) head ∙ used) i) (at-is i) (sym xlen i))
    ∙ taken_between f x u ROOM_BYTES room ∙ ap (padded ROOM_BYTES) (sym whole) in
    subst (λ (qs : List Pair). SpellsBucket (record (bucket_in bytes) { records = qs }) (front ++ body))
    (sym among.removed)
    (remade bytes front body _ (lower ++ upper) it all (omega (arith, len, says.room)) order shrunk front-is is)
