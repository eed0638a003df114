-- What stands on joined and made lists.
use Rattle.std.proofs.Common.{◌≡◌, zero, suc, List, [], ◌∷◌, map, Option, Some, None, ◌⊎◌, inl, inr, refl, ap, arith}
use Rattle.std.specs.Prelude.{option_to_list}
use Rattle.std.specs.List.{Contains, flat_map}
use Rattle.std.proofs.lemmas.List.Elements.{Contains-append_left, Contains-append_right, Contains-append_cases}

pub contains_head : {X : Type 0} (x : X) (xs : List X) → Contains (x ∷ xs) x
contains_head x xs = (zero, omega arith, refl)

pub contains_tail : {X : Type 0} (y x : X) (xs : List X) → Contains xs x → Contains (y ∷ xs) x
contains_tail y x xs (k, within, at) = (suc k, omega (arith, within), at)

pub head_or_tail : {X : Type 0} (y x : X) (xs : List X) → Contains (y ∷ xs) x → (y ≡ x) ⊎ Contains xs x
head_or_tail y x xs (zero, within, at) = inl at
head_or_tail y x xs (suc k, within, at) = inr (k, omega (arith, within), at)

pub in_map : {X Y : Type 0} (f : X → Y) (xs : List X) (x : X) → Contains xs x → Contains (map f xs) (f x)
in_map f [] x (k, within, at) = absurd (omega (arith, within))
in_map f (y ∷ ys) x (zero, within, at) = (zero, omega arith, ap f at)
in_map f (y ∷ ys) x (suc k, within, at) =
    contains_tail (f y) (f x) (map f ys) (in_map f ys x (k, omega (arith, within), at))

pub from_map : {X Y : Type 0} (f : X → Y) (xs : List X) (y : Y) → Contains (map f xs) y →
    (x : X) × Contains xs x × (f x ≡ y)
from_map f [] y (k, within, at) = absurd (omega (arith, within))
from_map f (x ∷ xs) y (zero, within, at) = (x, contains_head x xs, at)
from_map f (x ∷ xs) y (suc k, within, at) =
    let (z, stands, is) = from_map f xs y (k, omega (arith, within), at) in
    (z, contains_tail x z xs stands, is)

pub in_flat_map : {X Y : Type 0} (f : X → List Y) (xs : List X) (x : X) (y : Y) → Contains xs x → Contains (f x) y →
    Contains (flat_map f xs) y
in_flat_map f [] x y (k, within, at) stands = absurd (omega (arith, within))
in_flat_map f (z ∷ zs) x y (zero, within, at) stands =
    Contains-append_left (f z) (flat_map f zs) y (rw at stands)
in_flat_map f (z ∷ zs) x y (suc k, within, at) stands =
    Contains-append_right (f z) (flat_map f zs) y (in_flat_map f zs x y (k, omega (arith, within), at) stands)

pub from_flat_map : {X Y : Type 0} (f : X → List Y) (xs : List X) (y : Y) → Contains (flat_map f xs) y →
    (x : X) × Contains xs x × Contains (f x) y
from_flat_map f [] y (k, within, at) = absurd (omega (arith, within))
from_flat_map f (x ∷ xs) y stands = elim (Contains-append_cases (f x) (flat_map f xs) y stands) [
  | inl here ↦ (x, contains_head x xs, here)
  | inr later ↦
      let (z, there, is) = from_flat_map f xs y later in
      (z, contains_tail x z xs there, is)
]

pub from_option : {X : Type 0} (o : Option X) (x : X) → Contains (option_to_list o) x → o ≡ Some x
from_option None x (k, within, at) = absurd (omega (arith, within))
from_option (Some y) x (zero, within, at) = ap Some at
from_option (Some y) x (suc k, within, at) = absurd (omega (arith, within))
