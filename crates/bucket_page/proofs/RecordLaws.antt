-- Records that fill their bytes are spelled by them, and records are read from their spelling.
use Rattle.std.proofs.Common.{◌≡◌, ℕ, zero, suc, ◌+◌, ◌≤◌, true, List, [], ◌∷◌, ◌++◌, length, take, drop, leb, refl, sym, ap, subst, ◌∙◌, append_assoc, arith}
use Rattle.std.specs.Prelude.{◌↔◌}
use Rattle.bucket_page.specs.Laws.{AreBytesOf}
use Rattle.std.specs.List.{AllByRecursion}
use Rattle.std.proofs.lemmas.Bool.{eqb-true, le-leb}
use Rattle.std.proofs.lemmas.List.{take-append-drop, take_at, drop_at, length-append, length-take, length-drop, nil_from_length}
use Rattle.directory.specs.numbers.Numbers.{two, two_at}
use Rattle.bucket_page.specs.Keys.{key_bytes, key_at}
use Rattle.bucket_page.specs.Records.{Pair, IsPair, pair_bytes, record_bytes, pair_at, after_pair, pairs_of, begins, fills}
use Rattle.directory.proofs.of_numbers.Tests.{both_true}
use Rattle.bucket_page.proofs.Steps.{begins_within, length-pair}
use Rattle.directory.proofs.of_numbers.NumberLaws.{IsBytes, IsBytes-drop, past, after_part, two_takes, two_again, two_small, length-two}
use Rattle.bucket_page.proofs.KeyLaws.{key_takes, key_again, key_small, length-key}

-- ---- from bytes to records

regrouped : (t k v a : List ℕ) → t ++ (k ++ (v ++ a)) ≡ (t ++ (k ++ v)) ++ a
regrouped t k v a = sym (append_assoc t (k ++ v) a ∙ ap (λ (xs : List ℕ). t ++ xs) (append_assoc k v a))

pub pair_takes : (bytes : List ℕ) → begins bytes ≡ true → IsBytes bytes
    → (bytes ≡ pair_bytes (pair_at bytes) ++ after_pair bytes) × IsPair (pair_at bytes)
pair_takes bytes h all =
    let within = begins_within bytes h in
    let key = key_at (drop 2 bytes) in
    let value : List ℕ = take (two_at 0 bytes) (drop 15 bytes) in
    let long : length value ≡ two_at 0 bytes = omega (
      arith,
      within,
      length-take (two_at 0 bytes) (drop 15 bytes),
      length-drop 15 bytes,
    ) in
    let small = two_small 0 bytes all in
    let front : bytes ≡ two (length value) ++ drop 2 bytes =
    two_takes 0 bytes (omega (arith, within)) all ∙ ap (λ (n : ℕ). two n ++ drop 2 bytes) (sym long) in
    let middle : drop 2 bytes ≡ key_bytes key ++ drop 15 bytes =
    key_takes (drop 2 bytes) (omega (arith, within, length-drop 2 bytes)) (IsBytes-drop 2 bytes all)
    ∙ ap (λ (xs : List ℕ). key_bytes key ++ xs) (past 2 13 bytes) in
    let back : drop 15 bytes ≡ value ++ after_pair bytes = sym (take-append-drop (two_at 0 bytes) (drop 15 bytes)) in
    let parts = front ∙ ap (λ (xs : List ℕ). two (length value) ++ xs) (middle
    ∙ ap (λ (xs : List ℕ). key_bytes key ++ xs) back) in (
      parts ∙ regrouped (two (length value)) (key_bytes key) value (after_pair bytes),
      record { key = key_small (drop 2 bytes) (IsBytes-drop 2 bytes all); value = omega (arith, long, small) },
    )

pub records_take : (n : ℕ) (bytes : List ℕ) → fills n bytes ≡ true → IsBytes bytes
    → (bytes ≡ record_bytes (pairs_of n bytes)) × AllByRecursion IsPair (pairs_of n bytes)
    × (length (pairs_of n bytes) ≡ n)
records_take zero bytes h all = (nil_from_length bytes (eqb-true _ _ h), tt, refl)
records_take (suc n) bytes h all =
    let both = both_true _ _ h in
    let first = pair_takes bytes both.0 all in
    let others = records_take n (after_pair bytes) both.1
    (IsBytes-drop (two_at 0 bytes) (drop 15 bytes) (IsBytes-drop 15 bytes all)) in
    (first.0 ∙ ap (λ (xs : List ℕ). pair_bytes (pair_at bytes) ++ xs) others.0, (first.1, others.1), ap suc others.2)

-- ---- from records to bytes

record IsFirst (p : Pair) (rest bytes : List ℕ) : Type 0 where
  begins : begins bytes ≡ true
  pair : pair_at bytes ≡ p
  after : after_pair bytes ≡ rest

pair_again : (p : Pair) (rest : List ℕ) → IsPair p → IsFirst p rest (pair_bytes p ++ rest)
pair_again p rest is =
    let tail : List ℕ = p.value ++ rest in
    let bytes : List ℕ = two (length p.value) ++ (key_bytes p.key ++ tail) in
    let len : two_at 0 bytes ≡ length p.value = two_again 0 (length p.value) bytes (key_bytes p.key ++ tail) refl
    is.value in
    let at2 : drop 2 bytes ≡ key_bytes p.key ++ tail =
    after_part 0 2 bytes (two (length p.value)) (key_bytes p.key ++ tail) refl (length-two (length p.value)) in
    let at15 : drop 15 bytes ≡ tail = after_part 2 13 bytes (key_bytes p.key) tail at2 (length-key p.key) in
    let whole : length bytes ≡ 15 + (length p.value + length rest) =
    omega (
      arith,
      length-key p.key,
      length-two (length p.value),
      length-append (two (length p.value)) (key_bytes p.key ++ tail),
      length-append (key_bytes p.key) tail,
      length-append p.value rest,
    ) in
    let head : leb 15 (length bytes) ≡ true = le-leb _ _ (omega (arith, whole)) in
    let fits : leb (two_at 0 bytes) (length (drop 15 bytes)) ≡ true =
    le-leb _ _ (omega (arith, len, ap length at15, length-append p.value rest)) in
    let key : key_at (drop 2 bytes) ≡ p.key = ap key_at at2 ∙ key_again p.key tail is.key in
    let value : take (two_at 0 bytes) (drop 15 bytes) ≡ p.value =
    rw (len, at15) (take_at p.value rest (length p.value) refl) in
    let after : drop (two_at 0 bytes) (drop 15 bytes) ≡ rest =
    rw (len, at15) (drop_at p.value rest (length p.value) refl) in
    let it : IsFirst p rest bytes = record {
      begins = rw (head, fits) refl;
      pair =
          λ i. record { key = key i; value = value i };
      after = after;
    } in
    subst (IsFirst p rest) (regrouped (two (length p.value)) (key_bytes p.key) p.value rest) it

pub records_again : (ps : List Pair) → AllByRecursion IsPair ps
    → (fills (length ps) (record_bytes ps) ≡ true) × (pairs_of (length ps) (record_bytes ps) ≡ ps)
records_again [] all = (refl, refl)
records_again (p ∷ ps) all =
    let first = pair_again p (record_bytes ps) all.0 in
    let others = records_again ps all.1 in
    (rw (first.begins, first.after) others.0, rw (first.pair, first.after) (ap (λ (qs : List Pair). p ∷ qs) others.1))

-- each record has at least fifteen bytes
pub count_below : (ps : List Pair) → length ps ≤ length (record_bytes ps)
count_below [] = omega arith
count_below (p ∷ ps) = omega (arith, count_below ps, length-pair p, length-append (pair_bytes p) (record_bytes ps))

-- the test of lengths passes for exactly the bytes of so many records
pub fills_just : (n : ℕ) (bytes : List ℕ) → IsBytes bytes → (fills n bytes ≡ true) ↔ AreBytesOf n bytes
fills_just n bytes all = (to_records, to_test)
  where
    to_records : fills n bytes ≡ true → AreBytesOf n bytes
    to_records h = let it = records_take n bytes h all in (pairs_of n bytes, (it.1, it.2), it.0)

    to_test : AreBytesOf n bytes → fills n bytes ≡ true
    to_test it = (λ i. fills (sym it.1.1 i) (it.2 i)) ∙ (records_again it.0 it.1.0).0
