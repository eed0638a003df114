-- Members of lists.
use Rattle.std.proofs.Common.{zero, suc, ◌≡◌, List, [], ◌∷◌, ◌++◌, arith, refl, ap, ◌⊎◌, inl, inr}
use Rattle.std.specs.List.{Contains}
use Rattle.std.proofs.lemmas.List.Elements.{Contains-append_left, Contains-append_right, Contains-append_cases}

module _ {X : Type 0} where
  -- the first is a member
  pub contains_head : (x : X) (xs : List X) → Contains (x ∷ xs) x
  contains_head x xs = (zero, omega arith, refl)

  -- and so are those behind it
  pub contains_tail : (x y : X) (xs : List X) → Contains xs y → Contains (x ∷ xs) y
  contains_tail x y xs (i, h, e) = (suc i, omega arith, e)

  -- and there are no others
  pub contains_cases : (x y : X) (xs : List X) → Contains (x ∷ xs) y → (x ≡ y) ⊎ Contains xs y
  contains_cases x y xs (zero, h, e) = inl e
  contains_cases x y xs (suc i, h, e) = inr (i, omega arith, e)

  -- an empty list has no member
  pub contains_none : (y : X) → Contains [] y → ⊥
  contains_none y (i, h, e) = omega arith

  -- a member stands between a front and a back
  pub contains_between : (xs : List X) (y : X) → Contains xs y →
      (front : List X) × (back : List X) × (xs ≡ front ++ y ∷ back)
  contains_between [] y c = absurd (contains_none y c)
  contains_between (x ∷ xs) y c = elim (contains_cases x y xs c) [
    | inl same ↦ ([], xs, ap (λ (z : X). z ∷ xs) same)
    | inr d ↦ behind (contains_between xs y d)
  ]
    where
      behind : (front : List X) × (back : List X) × (xs ≡ front ++ y ∷ back) →
          (front : List X) × (back : List X) × (x ∷ xs ≡ front ++ y ∷ back)
      behind (front, back, same) = (x ∷ front, back, ap (λ (ys : List X). x ∷ ys) same)

  -- an item is put in behind x: what stood on the list still does
  pub contains_grown : (front : List X) (x y : X) (back : List X) (z : X) → Contains (front ++ x ∷ back) z →
      Contains (front ++ x ∷ y ∷ back) z
  contains_grown front x y back z c = elim (Contains-append_cases front (x ∷ back) z c) [
    | inl before ↦ Contains-append_left front (x ∷ y ∷ back) z before
    | inr after ↦ Contains-append_right front (x ∷ y ∷ back) z (elim (contains_cases x z back after) [
      | inl same ↦ rw same (contains_head z (y ∷ back))
      | inr d ↦ contains_tail x z (y ∷ back) (contains_tail y z back d)
    ])
  ]

  -- so does the new one
  pub contains_new : (front : List X) (x y : X) (back : List X) → Contains (front ++ x ∷ y ∷ back) y
  contains_new front x y back =
      Contains-append_right front (x ∷ y ∷ back) y (contains_tail x y (y ∷ back) (contains_head y back))

  -- and nothing else
  pub contains_grown_cases : (front : List X) (x y : X) (back : List X) (z : X) → Contains (front ++ x ∷ y ∷ back) z →
      Contains (front ++ x ∷ back) z ⊎ (y ≡ z)
  contains_grown_cases front x y back z c = elim (Contains-append_cases front (x ∷ y ∷ back) z c) [
    | inl before ↦ inl (Contains-append_left front (x ∷ back) z before)
    | inr after ↦ elim (contains_cases x z (y ∷ back) after) [
      | inl same ↦ inl (Contains-append_right front (x ∷ back) z (rw same (contains_head z back)))
      | inr d ↦ elim (contains_cases y z back d) [
        | inl same ↦ inr same
        | inr d' ↦ inl (Contains-append_right front (x ∷ back) z (contains_tail x z back d'))
      ]
    ]
  ]
