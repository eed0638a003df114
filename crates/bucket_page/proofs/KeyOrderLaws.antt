-- The order of keys is that of their bytes.
use Rattle.std.proofs.Common.{◌≡◌, ℕ, zero, suc, ◌+◌, ◌*◌, ◌<◌, ◌≤◌, ◌^◌, Bool, true, false, cond, ◌&&◌, ◌||◌, ltb, eqb, List, [], ◌∷◌, ◌++◌, length, refl, sym, ap, ◌∙◌, arith, inl, inr}
use Rattle.std.proofs.Common.{Ordering, Less, Equal, Greater}
use Rattle.std.proofs.Math.Nat.{mul-le-mul_right, add-mul}
use Rattle.std.proofs.lemmas.Bool.{cases_lt}
use Rattle.std.proofs.lemmas.Bool.Decides.{nat_tests}
use Rattle.std.proofs.lemmas.List.{append-nil}
use Rattle.std.specs.Ordering.{is_lt, ordering_then, nat_cmp}
use Rattle.std.specs.Cmp.Lexicographic.{slice_cmp}
use Rattle.byteorder.specs.Endian.{big_number}
use Rattle.byteorder.specs.Numbers.{big_from-cons, big_from-lt}
use Rattle.bucket_page.specs.declared.record_key.RecordKey.{RecordKey}
use Rattle.directory.specs.numbers.Numbers.{four, eight, four_at, eight_at}
use Rattle.bucket_page.specs.Keys.{IsKey, key_bytes, is_below}
use Rattle.directory.proofs.of_numbers.NumberLaws.{IsBytes, IsBytes-four, IsBytes-eight, length-four, length-eight, four_again, eight_again}

-- ---- numbers with a highest digit

cmp_less : (a b : ℕ) → a < b → nat_cmp a b ≡ Less
cmp_less a b lt = let t : ltb a b ≡ true = grind (arith, nat_tests) in rw t refl

cmp_greater : (a b : ℕ) → b < a → nat_cmp a b ≡ Greater
cmp_greater a b gt =
    let t : ltb a b ≡ false = grind (arith, nat_tests) in
    let e : eqb a b ≡ false = grind (arith, nat_tests) in
    rw (t, e) refl

-- a common part changes nothing
cmp_common : (c a b : ℕ) → nat_cmp (c + a) (c + b) ≡ nat_cmp a b
cmp_common c a b =
    let t : ltb (c + a) (c + b) ≡ ltb a b = grind (arith, nat_tests) in
    let e : eqb (c + a) (c + b) ≡ eqb a b = grind (arith, nat_tests) in
    rw (t, e) refl

digit_less : (p x y r s : ℕ) → x < y → r < p → x * p + r < y * p + s
digit_less p x y r s lt small =
    let le : (x + 1) * p ≤ y * p = mul-le-mul_right p (omega (arith, lt)) in
    omega (arith, le, add-mul x 1 p, small)

digits : (p x y r s : ℕ) → r < p → s < p → ordering_then (nat_cmp x y) (nat_cmp r s) ≡ nat_cmp (x * p + r) (y * p + s)
digits p x y r s r-small s-small =
    elim (cases_lt x y) [
      | inl lt ↦ rw (cmp_less x y lt) (sym (cmp_less _ _ (digit_less p x y r s lt r-small)))
      | inr le ↦ elim (cases_lt y x) [
        | inl gt ↦ rw (cmp_greater x y gt) (sym (cmp_greater _ _ (digit_less p y x s r gt s-small)))
        | inr ge ↦ same (omega (arith, le, ge))
      ]
    ]
  where
    same : x ≡ y → ordering_then (nat_cmp x y) (nat_cmp r s) ≡ nat_cmp (x * p + r) (y * p + s)
    same is =
        let t : ltb x y ≡ false = grind (arith, nat_tests) in
        let e : eqb x y ≡ true = grind (arith, nat_tests) in
        rw (t, e) (sym (cmp_common (y * p) r s) ∙ ap (λ (n : ℕ). nat_cmp (n * p + r) (y * p + s)) (sym is))

-- bytes stand in the order of the number in them
numbers_order : (n : ℕ) (xs ys : List ℕ) → length xs ≡ n → length ys ≡ n → IsBytes xs → IsBytes ys
    → slice_cmp nat_cmp xs ys ≡ nat_cmp (big_number n xs) (big_number n ys)
numbers_order zero [] [] a b all every = refl
numbers_order zero (x ∷ xs) ys a b all every = absurd (omega (arith, a))
numbers_order zero [] (y ∷ ys) a b all every = absurd (omega (arith, b))
numbers_order (suc n) [] ys a b all every = absurd (omega (arith, a))
numbers_order (suc n) (x ∷ xs) [] a b all every = absurd (omega (arith, b))
numbers_order (suc n) (x ∷ xs) (y ∷ ys) a b all every =
    let rest = numbers_order n xs ys (omega (arith, a)) (omega (arith, b)) (λ i. all (suc i)) (λ i. every (suc i)) in
    ap (ordering_then (nat_cmp x y)) rest
    ∙ digits (256 ^ n) x y (big_number n xs) (big_number n ys) (big_from-lt 0 n xs (λ i. all (suc i)))
    (big_from-lt 0 n ys (λ i. every (suc i)))
    ∙ (λ i. nat_cmp (x * 256 ^ n + sym (big_from-cons 0 n x xs) i) (y * 256 ^ n + sym (big_from-cons 0 n y ys) i))

-- ---- one part after the other

then-assoc : (o p q : Ordering) → ordering_then (ordering_then o p) q ≡ ordering_then o (ordering_then p q)
then-assoc Less p q = refl
then-assoc Equal p q = refl
then-assoc Greater p q = refl

parts_order : (a b c d : List ℕ) → length a ≡ length c
    → slice_cmp nat_cmp (a ++ b) (c ++ d) ≡ ordering_then (slice_cmp nat_cmp a c) (slice_cmp nat_cmp b d)
parts_order [] b [] d len = refl
parts_order [] b (y ∷ c) d len = absurd (omega (arith, len))
parts_order (x ∷ a) b [] d len = absurd (omega (arith, len))
parts_order (x ∷ a) b (y ∷ c) d len =
    ap (ordering_then (nat_cmp x y)) (parts_order a b c d (omega (arith, len)))
    ∙ sym (then-assoc (nat_cmp x y) (slice_cmp nat_cmp a c) (slice_cmp nat_cmp b d))

four_order : (m n : ℕ) → m < 2 ^ 32 → n < 2 ^ 32 → slice_cmp nat_cmp (four m) (four n) ≡ nat_cmp m n
unfolding four_at
four_order m n small low =
    numbers_order 4 (four m) (four n) (length-four m) (length-four n) (IsBytes-four m) (IsBytes-four n)
    ∙ (λ i. nat_cmp (four_again 0 m (four m) [] (sym (append-nil (four m))) small i)
    (four_again 0 n (four n) [] (sym (append-nil (four n))) low i))

eight_order : (m n : ℕ) → m < 2 ^ 64 → n < 2 ^ 64 → slice_cmp nat_cmp (eight m) (eight n) ≡ nat_cmp m n
unfolding eight_at
eight_order m n small low =
    numbers_order 8 (eight m) (eight n) (length-eight m) (length-eight n) (IsBytes-eight m) (IsBytes-eight n)
    ∙ (λ i. nat_cmp (eight_again 0 m (eight m) [] (sym (append-nil (eight m))) small i)
    (eight_again 0 n (eight n) [] (sym (append-nil (eight n))) low i))

lt-then : (a b : ℕ) (o : Ordering) → is_lt (ordering_then (nat_cmp a b) o) ≡ (ltb a b || (eqb a b && is_lt o))
lt-then a b o = by_test (ltb a b) (eqb a b)
  where
    by_test : (t e : Bool) → is_lt (ordering_then (cond t Less (cond e Equal Greater)) o) ≡ (t || (e && is_lt o))
    by_test true e = refl
    by_test false true = refl
    by_test false false = refl

lt-last : (a b : ℕ) → is_lt (nat_cmp a b) ≡ ltb a b
lt-last a b = by_test (ltb a b) (eqb a b)
  where
    by_test : (t e : Bool) → is_lt (cond t Less (cond e Equal Greater)) ≡ t
    by_test true e = refl
    by_test false true = refl
    by_test false false = refl

pub key_order : (a b : RecordKey) → IsKey a → IsKey b → is_below a b
    ≡ is_lt (slice_cmp nat_cmp (key_bytes a) (key_bytes b))
unfolding is_below key_bytes
key_order a b is it =
    let others : slice_cmp nat_cmp (four a.queue ++ eight a.number) (four b.queue ++ eight b.number)
    ≡ ordering_then (nat_cmp a.queue b.queue) (nat_cmp a.number b.number) =
    parts_order (four a.queue) (eight a.number) (four b.queue) (eight b.number) (length-four a.queue
    ∙ sym (length-four b.queue))
    ∙ (λ i. ordering_then (four_order a.queue b.queue is.queue it.queue i)
    (eight_order a.number b.number is.number it.number i)) in
    let last : is_lt (ordering_then (nat_cmp a.queue b.queue) (nat_cmp a.number b.number))
    ≡ (ltb a.queue b.queue || (eqb a.queue b.queue && ltb a.number b.number)) =
    lt-then a.queue b.queue (nat_cmp a.number b.number)
    ∙ ap (λ (t : Bool). ltb a.queue b.queue || (eqb a.queue b.queue && t)) (lt-last a.number b.number) in
    sym (
    ap (λ (o : Ordering). is_lt (ordering_then (nat_cmp a.kind b.kind) o)) others
    ∙ lt-then a.kind b.kind (ordering_then (nat_cmp a.queue b.queue) (nat_cmp a.number b.number))
    ∙ ap (λ (t : Bool). ltb a.kind b.kind || (eqb a.kind b.kind && t)) last
    )
