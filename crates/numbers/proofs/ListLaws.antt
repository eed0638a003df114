-- Numbers of four bytes, one after the other: read from their bytes, spelled by them, and one of them written.
use Rattle.std.proofs.Common.{◌≡◌, ℕ, zero, suc, ◌+◌, ◌*◌, ◌<◌, ◌^◌, List, [], ◌∷◌, ◌++◌, length, drop, get_or, slice_index, slice_set, refl, sym, ap, ◌∙◌, arith}
use Rattle.std.specs.List.{AllByRecursion}
use Rattle.std.proofs.lemmas.List.{drop_at, drop-drop, length-append, length-drop, nil_from_length}
use Rattle.byteorder.specs.Endian.{big_number, IsRead}
use Rattle.numbers.specs.Numbers.{four, four_at, numbers_bytes, numbers_of}
use Rattle.numbers.proofs.NumberLaws.{IsBytes, IsBytes-drop, length-four, four_takes, four_again, four_small}

four_at-past : (at n : ℕ) (bytes : List ℕ) → four_at at (drop n bytes) ≡ four_at (n + at) bytes
unfolding four_at
four_at-past at n bytes = ap (λ (xs : List ℕ). big_number 4 xs) (drop-drop at n bytes)

pub number_is : (n i : ℕ) (bytes : List ℕ) → i < n → slice_index (numbers_of n bytes) i ≡ four_at (4 * i) bytes
number_is zero i bytes lt = absurd (omega (arith, lt))
number_is (suc n) zero bytes lt = refl
number_is (suc n) (suc i) bytes lt =
    let next : 4 + 4 * i ≡ 4 * suc i = omega arith in
    number_is n i (drop 4 bytes) (omega (arith, lt)) ∙ four_at-past (4 * i) 4 bytes
    ∙ ap (λ (k : ℕ). four_at k bytes) next

-- bytes are those of the numbers in them
pub numbers_take : (n : ℕ) (bytes : List ℕ) → length bytes ≡ 4 * n → IsBytes bytes
    → (bytes ≡ numbers_bytes (numbers_of n bytes))
    × AllByRecursion (λ e. e < 2 ^ 32) (numbers_of n bytes) × (length (numbers_of n bytes) ≡ n)
numbers_take zero bytes long all = (nil_from_length bytes long, tt, refl)
numbers_take (suc n) bytes long all =
    let first = four_takes 0 bytes (omega (arith, long)) all in
    let behind : length (drop 4 bytes) ≡ 4 * n = omega (arith, long, length-drop 4 bytes) in
    let others = numbers_take n (drop 4 bytes) behind (IsBytes-drop 4 bytes all) in (
      first ∙ ap (λ (xs : List ℕ). four (four_at 0 bytes) ++ xs) others.0,
      (four_small 0 bytes all, others.1),
      ap suc others.2,
    )

-- numbers are read from their bytes
pub numbers_again : (ns : List ℕ) → AllByRecursion (λ n. n < 2 ^ 32) ns → numbers_of (length ns) (numbers_bytes ns) ≡ ns
numbers_again [] all = refl
numbers_again (n ∷ ns) all =
    let first = four_again 0 n (numbers_bytes (n ∷ ns)) (numbers_bytes ns) refl all.0 in
    let rest : drop 4 (numbers_bytes (n ∷ ns)) ≡ numbers_bytes ns =
    drop_at (four n) (numbers_bytes ns) 4 (length-four n) in
    (λ i. first i ∷ numbers_of (length ns) (rest i)) ∙ ap (λ (xs : List ℕ). n ∷ xs) (numbers_again ns all.1)

pub length-numbers : (ns : List ℕ) → length (numbers_bytes ns) ≡ 4 * length ns
length-numbers [] = refl
length-numbers (n ∷ ns) = omega (arith, length-numbers ns, length-four n, length-append (four n) (numbers_bytes ns))

pub all_small : (ns : List ℕ) → ((i : ℕ) → get_or ns i 0 < 2 ^ 32) → AllByRecursion (λ n. n < 2 ^ 32) ns
all_small [] small = tt
all_small (n ∷ ns) small = (small 0, all_small ns (λ i. small (suc i)))

-- numbers read one by one
pub read_all : (n : ℕ) (src dst : List ℕ) → length dst ≡ n → IsRead big_number 4 src dst → dst ≡ numbers_of n src
unfolding four_at
read_all zero src dst long read = nil_from_length dst long
read_all (suc n) src [] long read = absurd (omega (arith, long))
read_all (suc n) src (d ∷ ds) long read =
    let others : IsRead big_number 4 (drop 4 src) ds =
    λ k within. read (suc k) (omega (arith, within))
    ∙ ap (big_number 4) (ap (λ (m : ℕ). drop m src) (next k) ∙ sym (drop-drop (4 * k) 4 src)) in
    λ i. read 0 (omega arith) i ∷ read_all n (drop 4 src) ds (omega (arith, long)) others i
  where
    next : (k : ℕ) → 4 * suc k ≡ 4 + 4 * k
    next k = omega arith

-- a number of many is replaced
pub all_set : (ns : List ℕ) (slot number : ℕ) → number < 2 ^ 32 → AllByRecursion (λ e. e < 2 ^ 32) ns
    → AllByRecursion (λ e. e < 2 ^ 32) (slice_set ns slot number)
all_set [] slot number small all = tt
all_set (n ∷ ns) zero number small all = (small, all.1)
all_set (n ∷ ns) (suc slot) number small all = (all.0, all_set ns slot number small all.1)
