-- Numbers in bytes, the lowest byte first: bytes are those of the number in them, and it is read from its bytes.
use Rattle.std.proofs.Common.{◌≡◌, ℕ, zero, suc, ◌+◌, ◌*◌, ◌/◌, ◌%◌, ◌^◌, ◌<◌, ◌≤◌, List, [], ◌∷◌, ◌++◌, length, drop, refl, sym, ap, ◌∙◌, arith}
use Rattle.std.proofs.Math.Nat.{zero-add, add-mul-div_left, add-mul-mod_self_left, div-one, div-eq_of_lt, div-div-eq-div-mul, mod-eq_of_lt, pow-succ'}
use Rattle.std.proofs.lemmas.List.{length-drop}
use Rattle.byteorder.specs.Endian.{little_bytes, little_number}
use Rattle.byteorder.specs.Numbers.{length-bytes_low_first, little_number-reads_back, little_from-cons, little_from-lt}
use Rattle.std.specs.Int.{byte_at, bytes_low_first}
use Rattle.numbers.proofs.NumberLaws.{IsBytes, IsBytes-drop, past}
use Rattle.frames.specs.Little.{two, four, eight, two_at, four_at, eight_at}

-- ---- numbers of any width

byte_at-is : (n x : ℕ) → byte_at n x ≡ x / 256 ^ n % 256
byte_at-is zero x = ap (λ (y : ℕ). y % 256) (sym (div-one x))
byte_at-is (suc n) x = refl

-- a byte is that of the number without its lowest byte, one lower
byte_above : (j x : ℕ) → byte_at (suc j) x ≡ byte_at j (x / 256)
byte_above j x =
    let wide : x / 256 ^ suc j ≡ x / (256 * 256 ^ j) = ap (λ (p : ℕ). x / p) (pow-succ' 256 j) in
    let twice : x / 256 / 256 ^ j ≡ x / (256 * 256 ^ j) = div-div-eq-div-mul x 256 (256 ^ j) in
    ap (λ (y : ℕ). y % 256) (wide ∙ sym twice) ∙ sym (byte_at-is j (x / 256))

bytes_above : (n j x : ℕ) → bytes_low_first (suc j) n x ≡ bytes_low_first j n (x / 256)
bytes_above zero j x = refl
bytes_above (suc n) j x = λ i. byte_above j x i ∷ bytes_above n (suc j) x i

-- bytes are those of the number in them
pub number_takes : (n : ℕ) (bytes : List ℕ) → n ≤ length bytes → IsBytes bytes
    → bytes ≡ little_bytes n (little_number n bytes) ++ drop n bytes
number_takes zero bytes long all = refl
number_takes (suc n) [] long all = absurd (omega (arith, long))
number_takes (suc n) (b ∷ bytes) long all =
    let others : IsBytes bytes = λ i. all (suc i) in
    let small : b < 256 = all 0 in
    let is : little_number (suc n) (b ∷ bytes) ≡ b + 256 * little_number n bytes =
    ap (λ (x : ℕ). b + 256 * x) (little_from-cons 0 n b bytes) in
    let first : byte_at 0 (b + 256 * little_number n bytes) ≡ b =
    add-mul-mod_self_left b 256 (little_number n bytes) ∙ mod-eq_of_lt small in
    let above : (b + 256 * little_number n bytes) / 256 ≡ little_number n bytes =
    add-mul-div_left b (little_number n bytes) (omega arith)
    ∙ ap (λ (x : ℕ). x + little_number n bytes) (div-eq_of_lt small)
    ∙ zero-add (little_number n bytes) in
    let low : bytes_low_first 1 n (b + 256 * little_number n bytes) ≡ little_bytes n (little_number n bytes) =
    bytes_above n 0 (b + 256 * little_number n bytes) ∙ ap (little_bytes n) above in
    let tail : bytes ≡ bytes_low_first 1 n (b + 256 * little_number n bytes) ++ drop n bytes =
    number_takes n bytes (omega (arith, long)) others ∙ ap (λ (xs : List ℕ). xs ++ drop n bytes) (sym low) in
    (λ i. sym first i ∷ tail i) ∙ ap (λ (x : ℕ). little_bytes (suc n) x ++ drop n bytes) (sym is)

-- ---- two, four and eight bytes

pub length-two : (n : ℕ) → length (two n) ≡ 2
unfolding two
length-two n = length-bytes_low_first 0 2 n

pub length-four : (n : ℕ) → length (four n) ≡ 4
unfolding four
length-four n = length-bytes_low_first 0 4 n

pub length-eight : (n : ℕ) → length (eight n) ≡ 8
unfolding eight
length-eight n = length-bytes_low_first 0 8 n

-- from a place on stand the bytes of the number there
pub two_takes : (at : ℕ) (bytes : List ℕ) → at + 2 ≤ length bytes → IsBytes bytes
    → drop at bytes ≡ two (two_at at bytes) ++ drop (at + 2) bytes
unfolding two two_at
two_takes at bytes long all =
    number_takes 2 (drop at bytes) (omega (arith, long, length-drop at bytes)) (IsBytes-drop at bytes all)
    ∙ ap (λ (xs : List ℕ). little_bytes 2 (little_number 2 (drop at bytes)) ++ xs) (past at 2 bytes)

pub four_takes : (at : ℕ) (bytes : List ℕ) → at + 4 ≤ length bytes → IsBytes bytes
    → drop at bytes ≡ four (four_at at bytes) ++ drop (at + 4) bytes
unfolding four four_at
four_takes at bytes long all =
    number_takes 4 (drop at bytes) (omega (arith, long, length-drop at bytes)) (IsBytes-drop at bytes all)
    ∙ ap (λ (xs : List ℕ). little_bytes 4 (little_number 4 (drop at bytes)) ++ xs) (past at 4 bytes)

pub eight_takes : (at : ℕ) (bytes : List ℕ) → at + 8 ≤ length bytes → IsBytes bytes
    → drop at bytes ≡ eight (eight_at at bytes) ++ drop (at + 8) bytes
unfolding eight eight_at
eight_takes at bytes long all =
    number_takes 8 (drop at bytes) (omega (arith, long, length-drop at bytes)) (IsBytes-drop at bytes all)
    ∙ ap (λ (xs : List ℕ). little_bytes 8 (little_number 8 (drop at bytes)) ++ xs) (past at 8 bytes)

-- a number whose bytes stand at a place is read there
pub two_again : (at n : ℕ) (bytes rest : List ℕ) → drop at bytes ≡ two n ++ rest → n < 2 ^ 16 → two_at at bytes ≡ n
unfolding two two_at
two_again at n bytes rest is small =
    ap (little_number 2) is ∙ little_number-reads_back 2 n rest (omega (arith, small))

pub four_again : (at n : ℕ) (bytes rest : List ℕ) → drop at bytes ≡ four n ++ rest → n < 2 ^ 32
    → four_at at bytes ≡ n
unfolding four four_at
four_again at n bytes rest is small =
    ap (little_number 4) is ∙ little_number-reads_back 4 n rest (omega (arith, small))

pub eight_again : (at n : ℕ) (bytes rest : List ℕ) → drop at bytes ≡ eight n ++ rest → n < 2 ^ 64
    → eight_at at bytes ≡ n
unfolding eight eight_at
eight_again at n bytes rest is small =
    ap (little_number 8) is ∙ little_number-reads_back 8 n rest (omega (arith, small))

-- numbers read from bytes fit them
pub eight_small : (at : ℕ) (bytes : List ℕ) → IsBytes bytes → eight_at at bytes < 2 ^ 64
unfolding eight_at
eight_small at bytes all = little_from-lt 0 8 (drop at bytes) (IsBytes-drop at bytes all)
