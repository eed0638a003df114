-- What is found on a list of which the first that passes a test went.
use Rattle.std.proofs.Common.{◌≡◌, ℕ, zero, suc, Bool, true, false, cond, List, [], ◌∷◌, Option, Some, None, refl, ap, ◌∙◌, arith}
use Rattle.xsi_control.specs.RemoveWords.{All, find, position_or_len, remove, find-Some, PassesOnce, pairs_head, pairs_tail}
use Rattle.std.proofs.lemmas.List.Elements.{All-contains, All-head, All-tail, All-weaker}

pub not_true : (b : Bool) → (b ≡ true → ⊥) → b ≡ false
not_true true never = absurd (never refl)
not_true false never = refl

pub none_passes : {X : Type 0} (r : X → Bool) (xs : List X) → All (λ (x : X). r x ≡ true → ⊥) xs → find r xs ≡ None
none_passes r [] none = refl
none_passes {X} r (x ∷ xs) none =
    let over : r x ≡ false = not_true (r x) (All-head (λ (x : X). r x ≡ true → ⊥) x xs none) in
    rw over (none_passes r xs (All-tail (λ (x : X). r x ≡ true → ⊥) x xs none))

-- ---- the place of the first that passes

pub place_here : {X : Type 0} (p : X → Bool) (x : X) (xs : List X) → p x ≡ true → position_or_len p (x ∷ xs) ≡ zero
place_here p x xs e = rw e refl

pub place_later : {X : Type 0} (p : X → Bool) (x : X) (xs : List X) → p x ≡ false →
    position_or_len p (x ∷ xs) ≡ suc (position_or_len p xs)
place_later p x xs e = rw e (omega arith)

-- ---- the first that passes p went

module _ {X : Type 0} (p : X → Bool) where
  pub find_removed_other : (r : X → Bool) (xs : List X) (x : X) → find p xs ≡ Some x → r x ≡ false →
      find r (remove xs (position_or_len p xs)) ≡ find r xs
  find_removed_other r [] x found other = absurd cc
  find_removed_other r (z ∷ xs) x found other =
      by (p z) refl found (λ rest. find_removed_other r xs x rest other)
    where
      by : (b : Bool) → p z ≡ b → cond b (Some z) (find p xs) ≡ Some x →
          (find p xs ≡ Some x → find r (remove xs (position_or_len p xs)) ≡ find r xs) →
          find r (remove (z ∷ xs) (position_or_len p (z ∷ xs))) ≡ find r (z ∷ xs)
      by true e found later =
          let is : z ≡ x = cc in
          let over : r z ≡ false = ap r is ∙ other in
          ap (λ (i : ℕ). find r (remove (z ∷ xs) i)) (place_here p z xs e) ∙ rw over refl
      by false e found later =
          ap (λ (i : ℕ). find r (remove (z ∷ xs) i)) (place_later p z xs e)
          ∙ ap (λ (o : Option X). cond (r z) (Some z) o) (later found)

  -- where no two pass, it is not found again
  pub find_removed : (r : X → Bool) (xs : List X) (x : X) → find p xs ≡ Some x → r x ≡ true → PassesOnce r xs →
      find r (remove xs (position_or_len p xs)) ≡ None
  find_removed r [] x found passes once = absurd cc
  find_removed r (z ∷ xs) x found passes once =
      let rest = pairs_tail (λ (a b : X). r a ≡ true → r b ≡ true → ⊥) z xs once in
      by (p z) refl found (λ later. find_removed r xs x later passes rest)
    where
      none : r z ≡ true → find r xs ≡ None
      none first = none_passes r xs (All-weaker (λ (b : X). r z ≡ true → r b ≡ true → ⊥) (λ (b : X). r b ≡ true → ⊥)
          (λ b never. never first) xs (pairs_head (λ (a b : X). r a ≡ true → r b ≡ true → ⊥) z xs once))

      over : find p xs ≡ Some x → r z ≡ false
      over found = not_true (r z) (λ first. All-contains (λ (b : X). r z ≡ true → r b ≡ true → ⊥) xs x
          (pairs_head (λ (a b : X). r a ≡ true → r b ≡ true → ⊥) z xs once) (find-Some p xs x found).1 first passes)

      by : (b : Bool) → p z ≡ b → cond b (Some z) (find p xs) ≡ Some x →
          (find p xs ≡ Some x → find r (remove xs (position_or_len p xs)) ≡ None) →
          find r (remove (z ∷ xs) (position_or_len p (z ∷ xs))) ≡ None
      by true e found later =
          let is : z ≡ x = cc in
          ap (λ (i : ℕ). find r (remove (z ∷ xs) i)) (place_here p z xs e) ∙ none (ap r is ∙ passes)
      by false e found later =
          ap (λ (i : ℕ). find r (remove (z ∷ xs) i)) (place_later p z xs e) ∙ rw (over found) (later found)
