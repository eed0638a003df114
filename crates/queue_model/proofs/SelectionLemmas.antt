-- Which message a receive takes, by the three kinds of its type.
use Rattle.std.proofs.Common.{◌≡◌, ℕ, zero, suc, ℤ, pos, negsuc, true, false, List, [], ◌∷◌, length, Option, Some, None, arith, refl}
use Rattle.std.specs.Prelude.{position, ◌==◌, nat_lt, int_lt, IfSome, IfNone}
use Rattle.std.proofs.lemmas.Int.{ints}
use Rattle.std.proofs.Math.IntN.{nat_abs}
use Rattle.std.specs.Ordering.{int_eq}
use Rattle.std.specs.Option.{option_eq}
use Rattle.queue_model.specs.declared.message.Message.{Message}
use Rattle.queue_model.proofs.ListLemmas.{IsFoundAt-position, find-None}
use Rattle.queue_model.specs.Found.{IsFoundAt}
use Rattle.queue_model.specs.Selection.{selects, selected, has_type, lowest_type}

-- type 0 takes the first message
pub position_selects-zero : (t : ℤ) (ms : List Message) → int_lt (pos 0) t ≡ false → int_lt t (pos 0) ≡ false →
    (length ms == 0) ≡ false → position (selects t ms) ms ≡ Some 0
position_selects-zero (pos zero) [] above below some = absurd cc
position_selects-zero (pos zero) (m ∷ ms) above below some =
    let within : nat_lt 0 (suc (length ms)) ≡ true = grind arith in rw within refl
position_selects-zero (pos (suc n)) ms above below some = absurd (grind (arith, ints, above))
position_selects-zero (negsuc n) ms above below some = absurd (grind (arith, ints, below))

-- a type above 0 takes the first of that type
pub position_selects-above : (t : ℤ) (ms : List Message) → int_lt (pos 0) t ≡ true →
    position (selects t ms) ms ≡ position (λ m. int_eq m.mtype t) ms
position_selects-above (pos zero) ms above = absurd (grind (arith, ints, above))
position_selects-above (pos (suc n)) ms above = refl
position_selects-above (negsuc n) ms above = absurd (grind (arith, ints, above))

-- a type below 0 takes the first of the lowest type that is at most its absolute value
pub position_selects-below : (t : ℤ) (ms : List Message) → int_lt t (pos 0) ≡ true →
    position (selects t ms) ms ≡ position (has_type (lowest_type (pos (nat_abs t)) ms)) ms
position_selects-below (pos n) ms below = absurd (grind (arith, ints, below))
position_selects-below (negsuc n) ms below = refl

-- whether a message has the type that was found, as the code asks it
pub has_type-option_eq : (found : Option ℤ) (m : Message) → option_eq int_eq (Some m.mtype) found ≡ has_type found m
has_type-option_eq None m = refl
has_type-option_eq (Some t) m = refl

-- where a receive of type t takes a message
pub selected_found : (t : ℤ) (ms : List Message) (p : Option ℕ) → position (selects t ms) ms ≡ p →
    IfSome p (IsFoundAt (selects t ms) ms)
selected_found t ms None none = tt
selected_found t ms (Some i) at = IsFoundAt-position (selects t ms) ms i at

-- and where it takes none
pub selected_none : (t : ℤ) (ms : List Message) (p : Option ℕ) → position (selects t ms) ms ≡ p →
    IfNone p (selected t ms ≡ None)
selected_none t ms None none = find-None (selects t ms) ms none
selected_none t ms (Some i) at = tt
