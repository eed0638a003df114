-- Bytes that are zero.
use Rattle.std.proofs.Common.{◌≡◌, ℕ, zero, suc, ◌-◌, ◌==◌, true, List, [], ◌∷◌, ◌++◌, ◌+◌, replicate, length, take, drop, ◌≤◌, refl, sym, ap, ◌∙◌, arith}
use Rattle.std.proofs.Math.Nat.{zero-add}
use Rattle.std.proofs.lemmas.Bool.{eqb-true}
use Rattle.std.proofs.lemmas.List.{drop-replicate, length-drop, length-replicate, length-take, take-append-drop}
use Rattle.numbers.proofs.NumberLaws.{past}
use Rattle.numbers.proofs.Tests.{both_true}
use Rattle.numbers.specs.Numbers.{is_zero, zeros}

pub zeros_are : (bytes : List ℕ) → is_zero bytes ≡ true → bytes ≡ zeros (length bytes)
unfolding zeros
zeros_are [] h = refl
zeros_are (b ∷ bytes) h =
    let both = both_true (b == 0) (is_zero bytes) h in
    λ i. eqb-true b 0 both.0 i ∷ zeros_are bytes both.1 i

-- so many bytes that are zero
pub zeros_of : (n : ℕ) (bytes : List ℕ) → length bytes ≡ n → is_zero bytes ≡ true → bytes ≡ zeros n
zeros_of n bytes long h = zeros_are bytes h ∙ ap zeros long

pub zeros_again : (n : ℕ) → is_zero (zeros n) ≡ true
unfolding zeros
zeros_again zero = refl
zeros_again (suc n) = zeros_again n

pub length-zeros : (n : ℕ) → length (zeros n) ≡ n
unfolding zeros
length-zeros n = length-replicate n 0

pub drop-zeros : (m n : ℕ) → drop m (zeros n) ≡ zeros (n - m)
unfolding zeros
drop-zeros m n = drop-replicate m n 0

pub zeros-zeros : (m n : ℕ) → zeros m ++ zeros n ≡ zeros (m + n)
unfolding zeros
zeros-zeros zero n = ap (λ (k : ℕ). replicate k 0) (sym (zero-add n))
zeros-zeros (suc m) n = ap (λ (xs : List ℕ). 0 ∷ xs) (zeros-zeros m n) ∙ ap (λ (k : ℕ). replicate k 0) next
  where
    next : suc (m + n) ≡ suc m + n
    next = omega arith

-- bytes that are zero from a place on
pub zeros_at : (at n : ℕ) (bytes : List ℕ) → at + n ≤ length bytes → is_zero (take n (drop at bytes)) ≡ true
    → drop at bytes ≡ zeros n ++ drop (at + n) bytes
zeros_at at n bytes long h =
    let len : length (take n (drop at bytes)) ≡ n = omega (
      arith,
      long,
      length-take n (drop at bytes),
      length-drop at bytes,
    ) in
    sym (take-append-drop n (drop at bytes)) ∙ (λ i. zeros_of n (take n (drop at bytes)) len h i ++ past at n bytes i)
