-- Records one on, and the bytes that they take.
use Rattle.std.proofs.Common.{◌≡◌, ◌≢◌, ℕ, zero, suc, ◌+◌, ◌-◌, ◌<◌, ◌≤◌, true, ◌&&◌, List, ◌∷◌, length, drop, ◌++◌, refl, arith}
use Rattle.std.proofs.lemmas.Bool.{eqb-true, leb-true}
use Rattle.std.proofs.lemmas.List.{length-append, length-take, length-drop}
use Rattle.directory.specs.numbers.Numbers.{two, two_at}
use Rattle.bucket_page.specs.Keys.{key_bytes}
use Rattle.bucket_page.specs.Records.{Pair, pair_bytes, pair_at, after_pair, pairs_of, begins, fills, record_bytes}
use Rattle.directory.proofs.of_numbers.NumberLaws.{length-two}
use Rattle.bucket_page.proofs.KeyLaws.{length-key}
use Rattle.directory.proofs.of_numbers.Tests.{both_true}

-- ---- a count down to none

pub fills_more : (n i : ℕ) (bytes : List ℕ) → i < n → fills (n - i) bytes
    ≡ (begins bytes && fills (n - (i + 1)) (after_pair bytes))
fills_more n i bytes lt = let k : n - i ≡ suc (n - (i + 1)) = omega arith in rw k refl

pub fills_none : (n i : ℕ) (bytes : List ℕ) → n ≤ i → fills (n - i) bytes ≡ fills 0 bytes
fills_none n i bytes le = let k : n - i ≡ 0 = omega arith in rw k refl

pub fills_rest : (n : ℕ) (bytes : List ℕ) → n ≢ 0 → fills n bytes ≡ true
    → (begins bytes ≡ true) × (fills (n - 1) (after_pair bytes) ≡ true)
fills_rest zero bytes some h = absurd (some refl)
fills_rest (suc n) bytes some h = let k : suc n - 1 ≡ n =
    omega arith in rw k (both_true (begins bytes) (fills n (after_pair bytes)) h)

pub pairs_first : (n : ℕ) (bytes : List ℕ) → n ≢ 0 → pairs_of n bytes
    ≡ pair_at bytes ∷ pairs_of (n - 1) (after_pair bytes)
pairs_first zero bytes some = absurd (some refl)
pairs_first (suc n) bytes some = let k : suc n - 1 ≡ n = omega arith in rw k refl

-- ---- lengths

-- the bytes of a record that lies within the bytes
pub begins_within : (bytes : List ℕ) → begins bytes ≡ true
    → (15 ≤ length bytes) × (15 + two_at 0 bytes ≤ length bytes)
begins_within bytes h =
    let both = both_true _ _ h in
    let head : 15 ≤ length bytes = leb-true _ _ both.0 in
    let tail : two_at 0 bytes ≤ length (drop 15 bytes) = leb-true _ _ both.1 in
    (head, omega (arith, length-drop 15 bytes))

pub length-pair : (p : Pair) → length (pair_bytes p) ≡ 15 + length p.value
length-pair p =
    omega (
      arith,
      length-append (two (length p.value)) (key_bytes p.key ++ p.value),
      length-append (key_bytes p.key) p.value,
      length-two (length p.value),
      length-key p.key,
    )

pub length-cons : (p : Pair) (ps : List Pair) → length (record_bytes (p ∷ ps))
    ≡ 15 + length p.value + length (record_bytes ps)
length-cons p ps = omega (arith, length-append (pair_bytes p) (record_bytes ps), length-pair p)

pub length_records : (n : ℕ) (bytes : List ℕ) → fills n bytes ≡ true
    → length bytes ≡ length (record_bytes (pairs_of n bytes))
length_records zero bytes h = eqb-true _ _ h
length_records (suc n) bytes h =
    let both = both_true _ _ h in
    let within = begins_within bytes both.0 in
    let others : length (after_pair bytes) ≡ length (record_bytes (pairs_of n (after_pair bytes))) =
    length_records n (after_pair bytes) both.1 in
    let rest = length-drop (two_at 0 bytes) (drop 15 bytes) in
    let value = length-take (two_at 0 bytes) (drop 15 bytes) in
    let all = length-cons (pair_at bytes) (pairs_of n (after_pair bytes)) in
    omega (arith, all, others, rest, value, within, length-drop 15 bytes)
