-- What `parse` reads of words of digits.
use Rattle.std.proofs.Common.{◌≡◌, ℕ, ◌<◌, ◌≤◌, ◌+◌, ◌^◌, ◌==◌, true, false, Bool, cond, List, [], ◌∷◌, length, Result, Ok, Err, refl, arith, ℤ, pos, neg_ℤ}
use Rattle.std.proofs.lemmas.Bool.Decides.{nat_tests}
use Rattle.std.proofs.lemmas.Str.Ascii.{IsAscii-nil, IsAscii-cons}
use Rattle.std.proofs.lemmas.Str.Parse.{IsDigitsTest, IsNumeralModel, numerals_by_value, parse_digits, parse_signed_digits, parse_signed_minus}
use Rattle.std.specs.Char.{is_ascii_digit}
use Rattle.std.specs.List.{list_all}
use Rattle.std.specs.Int.{w64}
use Rattle.std.specs.Option.{option_map}
use Rattle.std.specs.Result.{result_ok, OkIff}
use Rattle.std.specs.Str.{IsAscii}
use Rattle.std.specs.Str.Parse.{digits_value, ParsesUnsigned, ParsesSigned}
use Rattle.schedules.specs.Numbers.{decimal_of, without_minus, signed_of}

pub digits_ascii : (bs : List ℕ) → list_all is_ascii_digit bs ≡ true → IsAscii bs
digits_ascii [] all = IsAscii-nil
digits_ascii (b ∷ bs) all =
    let small : b < 128 = grind (arith, nat_tests) in
    let rest : list_all is_ascii_digit bs ≡ true = grind (arith, nat_tests) in
    IsAscii-cons b bs small (digits_ascii bs rest)

-- digits alone make a numeral
pub tells : IsDigitsTest (λ ds. list_all is_ascii_digit ds ≡ true)
tells = record {
  empty = refl;
  parts = λ c cs all. (grind (arith, nat_tests), grind (arith, nat_tests));
  more = λ c cs digit all. grind (arith, nat_tests);
}

pub own : IsNumeralModel (λ ds. list_all is_ascii_digit ds ≡ true) (digits_value 10)
own = numerals_by_value _ tells

-- what a parse that is exact in its value and its bound gives, as an option
gives_decimal : {E : Type 0} (word : List ℕ) (r : Result ℕ E) (bound : ℕ) → list_all is_ascii_digit word ≡ true
    → OkIff r ((0 < length word) × (digits_value 10 word < bound)) (digits_value 10 word)
    → result_ok r ≡ decimal_of bound word
gives_decimal word (Ok n) bound all parsed = rw all (grind (arith, nat_tests))
gives_decimal word (Err e) bound all parsed = rw all (grind (arith, nat_tests))

pub parse_decimal : {E : Type 0} (word : List ℕ) (r : Result ℕ E) → list_all is_ascii_digit word ≡ true
    → ParsesUnsigned 32 10 word r → result_ok r ≡ decimal_of (2 ^ 32) word
parse_decimal word r all parsed = gives_decimal word r (2 ^ 32) all (parse_digits own 32 word r parsed all)

-- a word that is ASCII behind its `-` is ASCII
pub signed_ascii : (word : List ℕ) → list_all is_ascii_digit (without_minus word) ≡ true → IsAscii word
signed_ascii [] all = IsAscii-nil
signed_ascii (b ∷ bs) all = by_minus b bs (b == 45) refl all
  where
    by_minus : (b : ℕ) (bs : List ℕ) (minus : Bool) → (b == 45) ≡ minus
        → list_all is_ascii_digit (cond minus bs (b ∷ bs)) ≡ true → IsAscii (b ∷ bs)
    by_minus b bs true is all = IsAscii-cons b bs (grind (arith, nat_tests)) (digits_ascii bs all)
    by_minus b bs false is all = digits_ascii (b ∷ bs) all

gives_negative : (word : List ℕ) {E : Type 0} (r : Result ℤ E) → list_all is_ascii_digit word ≡ true
    → OkIff r ((list_all is_ascii_digit word ≡ true) × (0 < length word) × (digits_value 10 word ≤ 2 ^ 63))
    (neg_ℤ (pos (digits_value 10 word)))
    → result_ok r ≡ option_map (λ n. neg_ℤ (pos n)) (decimal_of (2 ^ 63 + 1) word)
gives_negative word (Ok n) all parsed = rw all (grind (arith, nat_tests))
gives_negative word (Err e) all parsed = rw all (grind (arith, nat_tests))

gives_positive : (word : List ℕ) {E : Type 0} (r : Result ℤ E) → list_all is_ascii_digit word ≡ true
    → OkIff r ((0 < length word) × (digits_value 10 word < 2 ^ 63)) (pos (digits_value 10 word))
    → result_ok r ≡ option_map pos (decimal_of (2 ^ 63) word)
gives_positive word (Ok n) all parsed = rw all (grind (arith, nat_tests))
gives_positive word (Err e) all parsed = rw all (grind (arith, nat_tests))

pub parse_signed : {E : Type 0} (word : List ℕ) (r : Result ℤ E) → list_all is_ascii_digit (without_minus word) ≡ true
    → ParsesSigned w64 10 word r → result_ok r ≡ signed_of word
parse_signed [] r all parsed = gives_positive [] r refl (parse_signed_digits own w64 [] r parsed refl)
parse_signed {E} (b ∷ bs) r all parsed = by_minus (b == 45) refl all
  where
    by_minus : (minus : Bool) → (b == 45) ≡ minus → list_all is_ascii_digit (cond minus bs (b ∷ bs)) ≡ true
        → result_ok r ≡ cond minus (option_map (λ n. neg_ℤ (pos n)) (decimal_of (2 ^ 63 + 1) bs))
        (option_map pos (decimal_of (2 ^ 63) (b ∷ bs)))
    by_minus true is digits =
        gives_negative bs r digits (parse_signed_minus own w64 (b ∷ bs) r parsed (grind (arith, nat_tests)))
    by_minus false is digits = gives_positive (b ∷ bs) r digits (parse_signed_digits own w64 (b ∷ bs) r parsed digits)
