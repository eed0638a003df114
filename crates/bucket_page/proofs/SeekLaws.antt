-- A walk over the bytes of records for a key.
use Rattle.std.proofs.Common.{◌≡◌, ℕ, zero, suc, ◌+◌, ◌<◌, ◌≤◌, ◌≢◌, ◌^◌, true, false, Option, Some, None, List, ◌∷◌, length, drop, refl, sym, ap, subst, ◌∙◌, arith}
use Rattle.std.proofs.lemmas.Bool.{eqb-true}
use Rattle.std.proofs.lemmas.Bool.Decides.{nat_tests}
use Rattle.std.proofs.lemmas.List.{drop-drop, length-drop, length-take}
use Rattle.directory.specs.numbers.Numbers.{two_at}
use Rattle.bucket_page.specs.declared.record_key.RecordKey.{RecordKey}
use Rattle.bucket_page.specs.Keys.{is_beside, is_same, is_below, owner_of}
use Rattle.bucket_page.specs.Records.{Pair, pair_at, after_pair, pairs_of, begins, fills, record_bytes, ascend, lookup}
use Rattle.bucket_page.specs.Changes.{below, place_in}
use Rattle.bucket_page.specs.declared.place.Place.{Place}
use Rattle.bucket_page.proofs.KeyLaws.{below_other, of_lower, of_owner}
use Rattle.bucket_page.proofs.OrderLaws.{lookup_on, none_from}
use Rattle.bucket_page.proofs.Steps.{begins_within, length-cons}
use Rattle.directory.proofs.of_numbers.Tests.{both_true}

-- a walk for a key has passed so many bytes of records, which are below it: these bytes are left, of so many records
pub record IsWalked (key : RecordKey) (all : List Pair) (at count : ℕ) (rest : List ℕ) : Type 0 where
  pub filled : fills count rest ≡ true
  pub ascends : ascend (pairs_of count rest) ≡ true
  pub same : lookup key (pairs_of count rest) ≡ lookup key all
  pub passed : length (record_bytes (below key all)) ≡ at + length (record_bytes (below key (pairs_of count rest)))

-- it stands at a place in the bytes
pub record IsAt (key : RecordKey) (all : List Pair) (bytes : List ℕ) (at : ℕ) : Type 0 where
  pub within : at ≤ length bytes
  pub count : ℕ
  pub walked : IsWalked key all at count (drop at bytes)

pub begun : (key : RecordKey) (n : ℕ) (bytes : List ℕ) → fills n bytes ≡ true → ascend (pairs_of n bytes) ≡ true
    → IsAt key (pairs_of n bytes) bytes 0
begun key n bytes filled order =
    record {
      within = omega arith;
      count = n;
      walked = record { filled = filled; ascends = order; same = refl; passed = omega arith };
    }

-- the walk stands before a record
pub record Meets (key : RecordKey) (all : List Pair) (bytes rest : List ℕ) (at : ℕ) : Type 0 where
  pub is : IsAt key all bytes at
  pub more : at < length bytes
  pub rest_is : rest ≡ drop at bytes

some_left : (key : RecordKey) (all : List Pair) (bytes rest : List ℕ) (at : ℕ)
    → Meets key all bytes rest at → 0 < length rest
some_left key all bytes rest at m = omega (arith, m.more, ap length m.rest_is, length-drop at bytes)

walked_to : (key : RecordKey) (all : List Pair) (bytes rest : List ℕ) (at : ℕ)
    → (m : Meets key all bytes rest at) → IsWalked key all at m.is.count rest
walked_to key all bytes rest at m = subst (IsWalked key all at m.is.count) (sym m.rest_is) m.is.walked

-- where bytes are left, a record begins
begins_by : (count : ℕ) (rest : List ℕ) → fills count rest ≡ true → 0 < length rest → begins rest ≡ true
begins_by zero rest filled some = absurd (let none = eqb-true _ _ filled in omega (arith, none, some))
begins_by (suc n) rest filled some = (both_true (begins rest) (fills n (after_pair rest)) filled).0

pub begins_there : (key : RecordKey) (all : List Pair) (bytes rest : List ℕ) (at : ℕ) → IsAt key all bytes at
    → at < length bytes → rest ≡ drop at bytes → begins rest ≡ true
begins_there key all bytes rest at is more rest-is =
    let some : 0 < length (drop at bytes) = omega (arith, more, length-drop at bytes) in
    ap begins rest-is ∙ begins_by is.count (drop at bytes) is.walked.filled some

-- ---- a record below the key is passed

passed_by : (key : RecordKey) (all : List Pair) (at count : ℕ) (rest : List ℕ) → IsWalked key all at (suc count) rest
    → is_below (pair_at rest).key key ≡ true → IsWalked key all (at + (15 + two_at 0 rest)) count (after_pair rest)
passed_by key all at n rest is under =
    let p : Pair = pair_at rest in
    let ps : List Pair = pairs_of n (after_pair rest) in
    let both = both_true (begins rest) (fills n (after_pair rest)) is.filled in
    let fits = begins_within rest both.0 in
    let on = lookup_on key p ps (p ∷ ps) false refl (sym (below_other p.key key under).0) refl is.ascends in
    let first : below key (p ∷ ps) ≡ p ∷ below key ps = rw under refl in
    let part : length (record_bytes (below key (p ∷ ps))) ≡ length (record_bytes (p ∷ below key ps)) =
    ap (λ (xs : List Pair). length (record_bytes xs)) first in
    let value : length p.value ≡ two_at 0 rest =
    let t = length-take (two_at 0 rest) (drop 15 rest) in omega (arith, t, fits, length-drop 15 rest) in
    record {
      filled = both.1;
      ascends = on.0;
      same = on.1 ∙ is.same;
      passed = omega (arith, is.passed, part, length-cons p (below key ps), value);
    }

passes_by : (key : RecordKey) (all : List Pair) (bytes rest : List ℕ) (at count : ℕ) → rest ≡ drop at bytes
    → IsWalked key all at count rest → at < length bytes → 0 < length rest
    → is_below (pair_at rest).key key ≡ true → IsAt key all bytes (at + (15 + two_at 0 rest))
passes_by key all bytes rest at zero rest-is is more some under =
    absurd (let none = eqb-true _ _ is.filled in omega (arith, none, some))
passes_by key all bytes rest at (suc n) rest-is is more some under =
    let len : ℕ = two_at 0 rest in
    let fits = begins_within rest (both_true (begins rest) (fills n (after_pair rest)) is.filled).0 in
    let next : drop (at + (15 + len)) bytes ≡ after_pair rest =
    sym (drop-drop (15 + len) at bytes) ∙ ap (drop (15 + len)) (sym rest-is) ∙ sym (drop-drop len 15 rest) in
    record {
      within = omega (arith, fits, more, ap length rest-is, length-drop at bytes);
      count = n;
      walked = subst (IsWalked key all (at + (15 + len)) n) (sym next) (passed_by key all at n rest is under);
    }

passes : (key : RecordKey) (all : List Pair) (bytes rest : List ℕ) (at len : ℕ) → Meets key all bytes rest at
    → len ≡ 15 + two_at 0 rest → is_below (pair_at rest).key key ≡ true → IsAt key all bytes (at + len)
passes key all bytes rest at len m len-is under =
    subst (λ (n : ℕ). IsAt key all bytes (at + n)) (sym len-is)
    (passes_by key all bytes rest at m.is.count m.rest_is (walked_to key all bytes rest at m) m.more
    (some_left key all bytes rest at m) under)

-- ---- where it stops

-- a key has its place in a list, and this value or none
pub record IsFound (key : RecordKey) (all : List Pair) (at : ℕ) (told : Option (List ℕ)) : Type 0 where
  pub place : ◌≡◌ {A = Place} (record { key = key; at = at }) (place_in key all)
  pub value : lookup key all ≡ told

-- all bytes are passed
ends_by : (key : RecordKey) (all : List Pair) (at count : ℕ) (rest : List ℕ) → IsWalked key all at count rest
    → length rest ≡ 0 → IsFound key all at None
ends_by key all at zero rest is none =
    let there : at ≡ length (record_bytes (below key all)) = omega (arith, is.passed) in
    record { place = λ i. record { key = key; at = there i }; value = sym is.same }
ends_by key all at (suc n) rest is none =
    let fits = begins_within rest (both_true (begins rest) (fills n (after_pair rest)) is.filled).0 in
    absurd (omega (arith, fits, none))

pub ends : (key : RecordKey) (all : List Pair) (bytes : List ℕ) (at : ℕ) → IsAt key all bytes at
    → length bytes ≤ at → IsFound key all at None
ends key all bytes at is past =
    ends_by key all at is.count (drop at bytes) is.walked (omega (arith, past, length-drop at bytes))

-- a record that is not below the key: there is the place of the key
stands_by : (key : RecordKey) (all : List Pair) (at count : ℕ) (rest : List ℕ) → IsWalked key all at count rest
    → 0 < length rest → is_below (pair_at rest).key key ≡ false → at ≡ length (record_bytes (below key all))
stands_by key all at zero rest is some over =
    absurd (let none = eqb-true _ _ is.filled in omega (arith, none, some))
stands_by key all at (suc n) rest is some over =
    let p : Pair = pair_at rest in
    let ps : List Pair = pairs_of n (after_pair rest) in
    let none : length (record_bytes (below key (p ∷ ps))) ≡ 0 = rw over refl in
    omega (arith, is.passed, none)

-- its own record has its value
own_by : (key : RecordKey) (all : List Pair) (at count : ℕ) (rest : List ℕ) → IsWalked key all at count rest
    → 0 < length rest → is_same (pair_at rest).key key ≡ true → lookup key all ≡ Some (pair_at rest).value
own_by key all at zero rest is some same = absurd (let none = eqb-true _ _ is.filled in omega (arith, none, some))
own_by key all at (suc n) rest is some same = sym is.same ∙ rw same refl

-- a record above the key: the key has none
above_by : (key : RecordKey) (all : List Pair) (at count : ℕ) (rest : List ℕ) → IsWalked key all at count rest
    → 0 < length rest → is_below key (pair_at rest).key ≡ true → lookup key all ≡ None
above_by key all at zero rest is some over = absurd (let none = eqb-true _ _ is.filled in omega (arith, none, some))
above_by key all at (suc n) rest is some over =
    let p : Pair = pair_at rest in
    let ps : List Pair = pairs_of n (after_pair rest) in
    sym is.same ∙ none_from key p ps (p ∷ ps) is.ascends refl over

-- ---- the record that it stops at

own_key : (a b : RecordKey) → is_beside a b ≡ true → b.number ≤ a.number → a.number ≤ b.number
    → (is_below a b ≡ false) × (is_same a b ≡ true)
unfolding is_below
own_key a b beside low high = (grind (arith, nat_tests), grind (arith, nat_tests))

over_key : (a b : RecordKey) → is_beside a b ≡ true → b.number < a.number
    → (is_below a b ≡ false) × (is_below b a ≡ true)
unfolding is_below
over_key a b beside over = (grind (arith, nat_tests), grind (arith, nat_tests))

near_key : (a b : RecordKey) → is_beside a b ≡ true → a.number < b.number → is_below a b ≡ true
unfolding is_below
near_key a b beside low = grind (arith, nat_tests)

-- a walk stands before a record, whose owner was read
pub record Reads (key : RecordKey) (all : List Pair) (bytes rest : List ℕ) (at found owner : ℕ) : Type 0 where
  pub meets : Meets key all bytes rest at
  pub found_is : found ≡ owner_of (pair_at rest).key
  pub owner_is : owner ≡ owner_of key
  pub small : (pair_at rest).key.queue < 2 ^ 32
  pub fits : key.queue < 2 ^ 32

pub reads : (key : RecordKey) (all : List Pair) (bytes rest : List ℕ) (at found owner : ℕ) → IsAt key all bytes at
    → at < length bytes → rest ≡ drop at bytes → found ≡ owner_of (pair_at rest).key → (pair_at rest).key.queue < 2 ^ 32
    → owner ≡ owner_of key → key.queue < 2 ^ 32 → Reads key all bytes rest at found owner
reads key all bytes rest at found owner is more rest-is found-is small owner-is fits =
    record {
      meets = record { is = is; more = more; rest_is = rest-is };
      found_is = found-is;
      owner_is = owner-is;
      small = small;
      fits = fits;
    }

beside_by : (key : RecordKey) (all : List Pair) (bytes rest : List ℕ) (at found owner : ℕ)
    → Reads key all bytes rest at found owner → found ≡ owner → is_beside (pair_at rest).key key ≡ true
beside_by key all bytes rest at found owner r same =
    of_owner (pair_at rest).key key r.small r.fits (sym r.found_is ∙ same ∙ r.owner_is)

-- the key's own record
pub own : (key : RecordKey) (all : List Pair) (bytes rest : List ℕ) (at found owner number : ℕ) (told : List ℕ)
    → Reads key all bytes rest at found owner → found ≡ owner → number ≡ (pair_at rest).key.number
    → key.number ≤ number → number ≤ key.number → told ≡ (pair_at rest).value → IsFound key all at (Some told)
own key all bytes rest at found owner number told r same number-is low high told-is =
    let m = r.meets in
    let some = some_left key all bytes rest at m in
    let walked = walked_to key all bytes rest at m in
    let its = own_key (pair_at rest).key key (beside_by key all bytes rest at found owner r same)
    (omega (arith, number-is, low)) (omega (arith, number-is, high)) in
    let stands = stands_by key all at m.is.count rest walked some its.0 in
    record {
      place = λ i. record { key = key; at = stands i };
      value = own_by key all at m.is.count rest walked some its.1 ∙ ap (λ (v : List ℕ). Some v) (sym told-is);
    }

above : (key : RecordKey) (all : List Pair) (bytes rest : List ℕ) (at : ℕ)
    → Meets key all bytes rest at → is_below (pair_at rest).key key ≡ false → is_below key (pair_at rest).key ≡ true
    → IsFound key all at None
above key all bytes rest at m over under =
    let some = some_left key all bytes rest at m in
    let walked = walked_to key all bytes rest at m in
    let stands = stands_by key all at m.is.count rest walked some over in
    record {
      place = λ i. record { key = key; at = stands i };
      value = above_by key all at m.is.count rest walked some under;
    }

-- a record of the same owner with a greater number
pub beside_above : (key : RecordKey) (all : List Pair) (bytes rest : List ℕ) (at found owner number : ℕ)
    → Reads key all bytes rest at found owner → found ≡ owner → number ≡ (pair_at rest).key.number
    → key.number < number → IsFound key all at None
beside_above key all bytes rest at found owner number r same number-is over =
    let its = over_key (pair_at rest).key key (beside_by key all bytes rest at found owner r same)
    (omega (arith, number-is, over)) in
    above key all bytes rest at r.meets its.0 its.1

-- a record of a greater owner
pub owner_above : (key : RecordKey) (all : List Pair) (bytes rest : List ℕ) (at found owner : ℕ)
    → Reads key all bytes rest at found owner → owner < found → IsFound key all at None
owner_above key all bytes rest at found owner r over =
    let its = of_lower key (pair_at rest).key r.fits r.small (omega (arith, over, r.found_is, r.owner_is)) in
    above key all bytes rest at r.meets its.1 its.0

-- a record below the key is passed: its number is lower, or its owner
pub passes_number : (key : RecordKey) (all : List Pair) (bytes rest : List ℕ) (at found owner number len : ℕ)
    → Reads key all bytes rest at found owner → found ≡ owner → number ≡ (pair_at rest).key.number
    → number < key.number → len ≡ 15 + two_at 0 rest → IsAt key all bytes (at + len)
passes_number key all bytes rest at found owner number len r same number-is low len-is =
    passes key all bytes rest at len r.meets len-is
    (near_key (pair_at rest).key key (beside_by key all bytes rest at found owner r same)
    (omega (arith, number-is, low)))

pub passes_owner : (key : RecordKey) (all : List Pair) (bytes rest : List ℕ) (at found owner len : ℕ)
    → Reads key all bytes rest at found owner → found ≢ owner → found ≤ owner → len ≡ 15 + two_at 0 rest
    → IsAt key all bytes (at + len)
passes_owner key all bytes rest at found owner len r other low len-is =
    let lower : owner_of (pair_at rest).key < owner_of key =
    omega (arith, other, low, r.found_is, r.owner_is) in
    passes key all bytes rest at len r.meets len-is
    (of_lower (pair_at rest).key key r.small r.fits lower).0
