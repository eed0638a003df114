-- Numbers read from their bytes, and bytes that are those of the number in them.
use Rattle.std.proofs.Common.{◌≡◌, ℕ, zero, suc, ◌+◌, ◌*◌, ◌/◌, ◌%◌, ◌^◌, ◌<◌, ◌≤◌, List, [], ◌∷◌, ◌++◌, length, take, drop, get_or, refl, sym, ap, ◌∙◌, arith, inl, inr}
use Rattle.std.proofs.lemmas.Bool.{cases_lt}
use Rattle.std.proofs.Math.Nat.{mod-lt, zero-add, add-mul-div_right, add-mul-mod_self_right, div-one, div-eq_of_lt, mod-eq_of_lt, pow-succ', one-le-pow, mul_assoc}
use Rattle.std.proofs.lemmas.List.{drop-drop, get_or-drop, get_or-take, get_or_past, drop_at, length-drop, length-take}
use Rattle.byteorder.specs.Endian.{big_bytes, big_number}
use Rattle.byteorder.specs.Numbers.{length-bytes_high_first, big_number-reads_back, big_from-cons, big_from-lt}
use Rattle.std.specs.Int.{byte_at}
use Rattle.numbers.specs.Numbers.{two, four, eight, two_at, four_at, eight_at}

abbrev pub IsBytes : List ℕ → Type 0
IsBytes bytes = (i : ℕ) → get_or bytes i 0 < 256

pub IsBytes-drop : (n : ℕ) (bytes : List ℕ) → IsBytes bytes → IsBytes (drop n bytes)
IsBytes-drop n bytes all i = rw get_or-drop (all (n + i))

pub IsBytes-take : (n : ℕ) (bytes : List ℕ) → IsBytes bytes → IsBytes (take n bytes)
IsBytes-take n bytes all i =
    elim (cases_lt i n) [
      | inl lt ↦ rw (get_or-take n bytes i 0 lt) (all i)
      | inr le ↦ rw (get_or_past (take n bytes) i 0 (omega (arith, le, length-take n bytes))) (omega arith)
    ]

pub past : (at n : ℕ) (bytes : List ℕ) → drop n (drop at bytes) ≡ drop (at + n) bytes
past at n bytes = drop-drop n at bytes

-- ---- numbers of any width

positive : (n : ℕ) → zero < 256 ^ n
positive n = let one = one-le-pow n 256 (omega arith) in omega (arith, one)

byte_at-is : (n x : ℕ) → byte_at n x ≡ x / 256 ^ n % 256
byte_at-is zero x = ap (λ (y : ℕ). y % 256) (sym (div-one x))
byte_at-is (suc n) x = refl

-- the low bytes don't see what stands above them
low_bytes : (n c r : ℕ) → big_bytes n (r + c * 256 ^ n) ≡ big_bytes n r
low_bytes zero c r = refl
low_bytes (suc n) c r =
    let wide : r + c * 256 ^ suc n ≡ r + (c * 256) * 256 ^ n =
    ap (λ (x : ℕ). r + x) (ap (λ (x : ℕ). c * x) (pow-succ' 256 n) ∙ sym (mul_assoc c 256 (256 ^ n))) in
    let first : (r + (c * 256) * 256 ^ n) / 256 ^ n % 256 ≡ r / 256 ^ n % 256 =
    ap (λ (x : ℕ). x % 256) (add-mul-div_right r (c * 256) (positive n))
    ∙ add-mul-mod_self_right (r / 256 ^ n) c 256 in
    let top : byte_at n (r + (c * 256) * 256 ^ n) ≡ byte_at n r =
    byte_at-is n (r + (c * 256) * 256 ^ n) ∙ first ∙ sym (byte_at-is n r) in
    ap (big_bytes (suc n)) wide ∙ (λ i. top i ∷ low_bytes n (c * 256) r i)

-- bytes are those of the number in them
pub number_takes : (n : ℕ) (bytes : List ℕ) → n ≤ length bytes → IsBytes bytes
    → bytes ≡ big_bytes n (big_number n bytes) ++ drop n bytes
number_takes zero bytes long all = refl
number_takes (suc n) [] long all = absurd (omega (arith, long))
number_takes (suc n) (b ∷ bytes) long all =
    let others : IsBytes bytes = λ i. all (suc i) in
    let low = big_from-lt 0 n bytes others in
    let moved : big_number (suc n) (b ∷ bytes) ≡ big_number n bytes + b * 256 ^ n =
    ap (λ (x : ℕ). b * 256 ^ n + x) (big_from-cons 0 n b bytes) ∙ omega arith in
    let quotient : (big_number n bytes + b * 256 ^ n) / 256 ^ n ≡ b =
    add-mul-div_right (big_number n bytes) b (positive n) ∙ ap (λ (x : ℕ). x + b) (div-eq_of_lt low) ∙ zero-add b in
    let first : byte_at n (big_number n bytes + b * 256 ^ n) ≡ b =
    byte_at-is n _ ∙ ap (λ (x : ℕ). x % 256) quotient ∙ mod-eq_of_lt (all 0) in
    let tail : bytes ≡ big_bytes n (big_number n bytes + b * 256 ^ n) ++ drop n bytes =
    number_takes n bytes (omega (arith, long)) others ∙ ap (λ (xs : List ℕ). xs ++ drop n bytes)
    (sym (low_bytes n b (big_number n bytes))) in
    (λ i. sym first i ∷ tail i) ∙ ap (λ (x : ℕ). big_bytes (suc n) x ++ drop n bytes) (sym moved)

-- ---- two, four and eight bytes

pub length-two : (n : ℕ) → length (two n) ≡ 2
unfolding two
length-two n = length-bytes_high_first 2 n

pub length-four : (n : ℕ) → length (four n) ≡ 4
unfolding four
length-four n = length-bytes_high_first 4 n

pub length-eight : (n : ℕ) → length (eight n) ≡ 8
unfolding eight
length-eight n = length-bytes_high_first 8 n

-- from a place on stand the bytes of the number there
pub two_takes : (at : ℕ) (bytes : List ℕ) → at + 2 ≤ length bytes → IsBytes bytes
    → drop at bytes ≡ two (two_at at bytes) ++ drop (at + 2) bytes
unfolding two two_at
two_takes at bytes long all =
    number_takes 2 (drop at bytes) (omega (arith, long, length-drop at bytes)) (IsBytes-drop at bytes all)
    ∙ ap (λ (xs : List ℕ). big_bytes 2 (big_number 2 (drop at bytes)) ++ xs) (past at 2 bytes)

pub four_takes : (at : ℕ) (bytes : List ℕ) → at + 4 ≤ length bytes → IsBytes bytes
    → drop at bytes ≡ four (four_at at bytes) ++ drop (at + 4) bytes
unfolding four four_at
four_takes at bytes long all =
    number_takes 4 (drop at bytes) (omega (arith, long, length-drop at bytes)) (IsBytes-drop at bytes all)
    ∙ ap (λ (xs : List ℕ). big_bytes 4 (big_number 4 (drop at bytes)) ++ xs) (past at 4 bytes)

pub eight_takes : (at : ℕ) (bytes : List ℕ) → at + 8 ≤ length bytes → IsBytes bytes
    → drop at bytes ≡ eight (eight_at at bytes) ++ drop (at + 8) bytes
unfolding eight eight_at
eight_takes at bytes long all =
    number_takes 8 (drop at bytes) (omega (arith, long, length-drop at bytes)) (IsBytes-drop at bytes all)
    ∙ ap (λ (xs : List ℕ). big_bytes 8 (big_number 8 (drop at bytes)) ++ xs) (past at 8 bytes)

-- a number whose bytes stand at a place is read there
pub two_again : (at n : ℕ) (bytes rest : List ℕ) → drop at bytes ≡ two n ++ rest → n < 2 ^ 16 → two_at at bytes ≡ n
unfolding two two_at
two_again at n bytes rest is small = ap (big_number 2) is ∙ big_number-reads_back 2 n rest (omega (arith, small))

pub four_again : (at n : ℕ) (bytes rest : List ℕ) → drop at bytes ≡ four n ++ rest → n < 2 ^ 32 → four_at at bytes ≡ n
unfolding four four_at
four_again at n bytes rest is small = ap (big_number 4) is ∙ big_number-reads_back 4 n rest (omega (arith, small))

pub eight_again : (at n : ℕ) (bytes rest : List ℕ) → drop at bytes ≡ eight n ++ rest → n < 2 ^ 64
    → eight_at at bytes ≡ n
unfolding eight eight_at
eight_again at n bytes rest is small = ap (big_number 8) is ∙ big_number-reads_back 8 n rest (omega (arith, small))

-- numbers read from bytes fit them
pub two_small : (at : ℕ) (bytes : List ℕ) → IsBytes bytes → two_at at bytes < 2 ^ 16
unfolding two_at
two_small at bytes all = big_from-lt 0 2 (drop at bytes) (IsBytes-drop at bytes all)

pub four_small : (at : ℕ) (bytes : List ℕ) → IsBytes bytes → four_at at bytes < 2 ^ 32
unfolding four_at
four_small at bytes all = big_from-lt 0 4 (drop at bytes) (IsBytes-drop at bytes all)

pub eight_small : (at : ℕ) (bytes : List ℕ) → IsBytes bytes → eight_at at bytes < 2 ^ 64
unfolding eight_at
eight_small at bytes all = big_from-lt 0 8 (drop at bytes) (IsBytes-drop at bytes all)

-- what follows a part
pub after_part : (at n : ℕ) (bytes p q : List ℕ) → drop at bytes ≡ p ++ q → length p ≡ n → drop (at + n) bytes ≡ q
after_part at n bytes p q is long = sym (past at n bytes) ∙ ap (drop n) is ∙ drop_at p q n long

-- ---- the bytes of a number

byte_small : (k n : ℕ) → byte_at k n < 256
byte_small k n = rw (byte_at-is k n) (mod-lt (n / 256 ^ k) (omega arith))

IsBytes-number : (k n : ℕ) → IsBytes (big_bytes k n)
IsBytes-number zero n i = omega arith
IsBytes-number (suc k) n zero = byte_small k n
IsBytes-number (suc k) n (suc i) = IsBytes-number k n i

pub IsBytes-four : (n : ℕ) → IsBytes (four n)
unfolding four
IsBytes-four n = IsBytes-number 4 n

pub IsBytes-eight : (n : ℕ) → IsBytes (eight n)
unfolding eight
IsBytes-eight n = IsBytes-number 8 n
