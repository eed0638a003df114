-- The bits of bytes all told are none where each byte is zero, and nowhere else.
use Rattle.std.proofs.Common.{◌≡◌, ℕ, zero, suc, ◌≤◌, ◌==◌, Bool, true, false, ◌&&◌, List, [], ◌∷◌, refl, sym, ap, ◌∙◌, arith}
use Rattle.std.proofs.lemmas.Bool.Decides.{nat_tests}
use Rattle.std.specs.Int.Bits.{bit_or, or_zero_l}
use Rattle.std.specs.List.{fold}
use Rattle.std.proofs.lemmas.Nat.{le_or_l}
use Rattle.numbers.specs.Numbers.{is_zero, union}

-- what is above a number that is not zero is none either
above_zero : (a b : ℕ) → a ≤ b → (a == 0) ≡ false → (b == 0) ≡ false
above_zero a b le h = grind (arith, nat_tests, le, h)

-- neither of two is zero where one is not
either_zero : (a b : ℕ) → (bit_or a b == 0) ≡ ((a == 0) && (b == 0))
either_zero zero b = ap (λ (n : ℕ). n == 0) (or_zero_l b)
either_zero (suc a) b =
    let some : (suc a == 0) ≡ false = grind (arith, nat_tests) in
    above_zero (suc a) (bit_or (suc a) b) (le_or_l (suc a) b) some ∙ ap (λ (t : Bool). t && (b == 0)) (sym some)

and_true : (a : Bool) → a ≡ (a && true)
and_true true = refl
and_true false = refl

all_three : (a b c : Bool) → ((a && b) && c) ≡ (a && (b && c))
all_three true b c = refl
all_three false b c = refl

union_from : (a : ℕ) (bytes : List ℕ) → (fold bit_or a bytes == 0) ≡ ((a == 0) && is_zero bytes)
union_from a [] = and_true (a == 0)
union_from a (b ∷ bytes) =
    union_from (bit_or a b) bytes
    ∙ ap (λ (t : Bool). t && is_zero bytes) (either_zero a b)
    ∙ all_three (a == 0) (b == 0) (is_zero bytes)

pub union_is_zero : (bytes : List ℕ) → (union bytes == 0) ≡ is_zero bytes
union_is_zero bytes = union_from 0 bytes
