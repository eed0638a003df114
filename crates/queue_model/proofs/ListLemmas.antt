-- Facts on lists: the first place that passes, and what a removal keeps.
use Rattle.std.proofs.Common.{◌≡◌, ℕ, zero, suc, ◌<◌, ◌≤◌, Bool, true, false, List, [], ◌∷◌, ◌++◌, length, map, take, drop, Some, None, arith, refl, sym, ap, ◌∙◌, cond}
use Rattle.std.specs.Prelude.{nat_lt, slice_get, slice_index_or, position}
use Rattle.std.specs.List.{All, Contains, find, position_or_len, remove}
use Rattle.std.proofs.lemmas.Option.{cond_some, slice_get-get_or, slice_get_past}
use Rattle.std.proofs.lemmas.List.Folds.{find_at}
use Rattle.std.proofs.lemmas.List.Sums.{position_or_len_is}
use Rattle.std.proofs.lemmas.List.Elements.{All-append, All-cons, All-take, All-drop}
use Rattle.std.proofs.lemmas.List.{map-append, take-map, drop-map}
use Rattle.queue_model.specs.Found.{IsFoundAt}

-- a place that `position` gives is the first that passes
pub IsFoundAt-position : {X : Type 0} (p : X → Bool) (xs : List X) (i : ℕ) → position p xs ≡ Some i → IsFoundAt p xs i
IsFoundAt-position p xs i at =
    let both = cond_some (nat_lt (position_or_len p xs) (length xs)) (position_or_len p xs) i at in
    let within : i < length xs = grind (arith, both.0, both.1) in
    record {
      within = within;
      first = both.1;
      found = λ d. find_at p xs ∙ ap (slice_get xs) both.1 ∙ slice_get-get_or xs i d within;
    }

-- where `position` gives no place, no element passes
pub find-None : {X : Type 0} (p : X → Bool) (xs : List X) → position p xs ≡ None → find p xs ≡ None
find-None p xs none = find_at p xs
    ∙ slice_get_past xs (position_or_len p xs) (past (nat_lt (position_or_len p xs) (length xs)) refl none)
  where
    past : (b : Bool) → nat_lt (position_or_len p xs) (length xs) ≡ b →
        cond b (Some (position_or_len p xs)) None ≡ None → length xs ≤ position_or_len p xs
    past true t n = absurd cc
    past false t n = grind (arith, t)

-- what all elements have, those that stay after a removal have
pub All-remove : {X : Type 0} (P : X → Type 0) (xs : List X) (i : ℕ) → All P xs → All P (remove xs i)
All-remove P xs i all = All-append P (take i xs) (drop (suc i) xs) (All-take P i xs all) (All-drop P (suc i) xs all)

-- a removal before or after a map is the same
pub map-remove : {X Y : Type 0} (f : X → Y) (xs : List X) (i : ℕ) → map f (remove xs i) ≡ remove (map f xs) i
map-remove f xs i =
    map-append f (take i xs) (drop (suc i) xs)
    ∙ ap (λ ys. ys ++ map f (drop (suc i) xs)) (sym (take-map f i xs))
    ∙ ap (λ ys. take i (map f xs) ++ ys) (sym (drop-map f (suc i) xs))

-- where no element passes, the first place is the end
position_or_len_end : {X : Type 0} (p : X → Bool) (xs : List X) → All (λ x. p x ≡ false) xs →
    position_or_len p xs ≡ length xs
position_or_len_end p [] none = refl
position_or_len_end p (x ∷ xs) none =
    let head : p x ≡ false = none zero x (omega arith) in
    let rest = position_or_len_end p xs (λ k d h. none (suc k) d (omega arith)) in
    rw head (omega (arith, rest))

-- so `position` gives none
pub position_None : {X : Type 0} (p : X → Bool) (xs : List X) → All (λ x. p x ≡ false) xs → position p xs ≡ None
position_None p xs none =
    let past : nat_lt (position_or_len p xs) (length xs) ≡ false = grind (arith, position_or_len_end p xs none) in
    rw past refl

-- a place that passes, where none before it does, is the first
pub position_at : {X : Type 0} (p : X → Bool) (xs : List X) (i : ℕ) (d : X) → i < length xs →
    ((k : ℕ) (e : X) → k < i → p (slice_index_or xs k e) ≡ false) → p (slice_index_or xs i d) ≡ true →
    position p xs ≡ Some i
position_at p xs i d within before passes =
    let at = position_or_len_is p xs i d (omega arith) (λ k h. before k d h) (λ _. passes) in
    let inside : nat_lt (position_or_len p xs) (length xs) ≡ true = grind (arith, at) in
    rw (inside, at) refl

-- where `find` finds none, no element passes
pub find-None-All : {X : Type 0} (p : X → Bool) (xs : List X) → find p xs ≡ None → All (λ x. p x ≡ false) xs
find-None-All p [] none = λ k d h. absurd (omega (arith, h))
find-None-All p (x ∷ xs) none = at_head (p x) refl none (find-None-All p xs)
  where
    at_head : (b : Bool) → p x ≡ b → cond b (Some x) (find p xs) ≡ None →
        (find p xs ≡ None → All (λ y. p y ≡ false) xs) → All (λ y. p y ≡ false) (x ∷ xs)
    at_head true e n rest = absurd cc
    at_head false e n rest = All-cons (λ y. p y ≡ false) x xs e (rest n)

-- what `find` finds passes, and stands on the list
pub find-Some : {X : Type 0} (p : X → Bool) (xs : List X) (y : X) → find p xs ≡ Some y → (p y ≡ true) × Contains xs y
find-Some p [] y found = absurd cc
find-Some p (x ∷ xs) y found = at_head (p x) refl found (find-Some p xs y)
  where
    at_head : (b : Bool) → p x ≡ b → cond b (Some x) (find p xs) ≡ Some y →
        (find p xs ≡ Some y → (p y ≡ true) × Contains xs y) → (p y ≡ true) × Contains (x ∷ xs) y
    at_head true e f rest = let same : x ≡ y = cc in (rw (← same) e, (zero, omega arith, same))
    at_head false e f rest = let r = rest f in (r.0, (suc r.1.0, omega (arith, r.1.1), r.1.2))
