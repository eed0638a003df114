-- How many tiles begin at or before a position.
use Rattle.std.proofs.Common.{ℕ, suc, ◌≡◌, ◌+◌, ◌<◌, ◌≤◌, List, [], ◌∷◌, ◌++◌, arith, refl, inl, inr}
use Rattle.std.specs.List.{Contains}
use Rattle.std.proofs.lemmas.Bool.{cases_lt, le-leb, lt-leb}
use Rattle.directory.specs.declared.range.Range.{Range}
use Rattle.directory.specs.Ranges.{HasPosition, start_of, stop_of}
use Rattle.directory.specs.Tiles.{Tiles, begun}
use Rattle.directory.proofs.MemberLaws.{contains_head, contains_tail, contains_cases, contains_none}
use Rattle.directory.proofs.PositionLaws.{width_positive}
use Rattle.directory.proofs.TileLaws.{LiesWithin, tiles_within}

module _ {X : Type 0} (range : X → Range) where
  -- no tile begins before the first
  pub begun_none : (xs : List X) (a b p : ℕ) → Tiles range a xs b → p < a → begun range xs p ≡ 0
  begun_none [] a b p t low = refl
  begun_none (x ∷ xs) a b p t low =
      let far : p < start_of (range x) = omega (arith, t.0.begins) in
      let rest = begun_none xs (stop_of (range x)) b p t.1 (omega (arith, far)) in
      rw (lt-leb (start_of (range x)) p far) (omega (arith, rest))

  -- further right no fewer have begun
  pub begun_rises : (xs : List X) (p q : ℕ) → p ≤ q → begun range xs p ≤ begun range xs q
  begun_rises [] p q h = omega arith
  begun_rises (x ∷ xs) p q h = elim (cases_lt p (start_of (range x))) [
    | inl far ↦ rw (lt-leb (start_of (range x)) p far) (omega (arith, begun_rises xs p q h))
    | inr near ↦ rw (le-leb (start_of (range x)) p near, le-leb (start_of (range x)) q (omega arith))
        (omega (arith, begun_rises xs p q h))
  ]

  -- those of two lists are counted apart
  pub begun_append : (xs ys : List X) (p : ℕ) → begun range (xs ++ ys) p ≡ begun range xs p + begun range ys p
  begun_append [] ys p = omega arith
  begun_append (x ∷ xs) ys p = omega (arith, begun_append xs ys p)

  -- one more item counts where it has begun
  pub begun_insert : (front : List X) (x y : X) (back : List X) (p : ℕ) →
      begun range (front ++ x ∷ y ∷ back) p ≡ begun range (front ++ x ∷ back) p + begun range (y ∷ []) p
  begun_insert front x y back p =
      omega (arith, begun_append front (x ∷ y ∷ back) p, begun_append front (x ∷ back) p)

  -- one item counts once at most
  pub begun_one : (x : X) (p : ℕ) → begun range (x ∷ []) p ≤ 1
  begun_one x p = elim (cases_lt p (start_of (range x))) [
    | inl far ↦ rw (lt-leb (start_of (range x)) p far) (omega arith)
    | inr near ↦ rw (le-leb (start_of (range x)) p near) (omega arith)
  ]

  -- what moves no start keeps the count
  pub begun_same : (new : X → Range) (xs : List X) (p : ℕ) →
      ((x : X) → Contains xs x → start_of (new x) ≡ start_of (range x)) → begun new xs p ≡ begun range xs p
  begun_same new [] p same = refl
  begun_same new (x ∷ xs) p same =
      rw (same x (contains_head x xs), begun_same new xs p (λ y c. same y (contains_tail x y xs c))) refl

  -- inside a tile no further one begins
  pub begun_inside : (xs : List X) (a b : ℕ) (x : X) (p : ℕ) → Tiles range a xs b → Contains xs x →
      HasPosition (range x) p →
      begun range xs p ≡ begun range xs (start_of (range x))
  begun_inside [] a b x p t c has = absurd (contains_none x c)
  begun_inside (y ∷ xs) a b x p t c has = elim (contains_cases y x xs c) [
    | inl same ↦ at_head same (λ q low. begun_none xs (stop_of (range y)) b q t.1 low)
    | inr d ↦ in_tail (tiles_within range xs (stop_of (range y)) b x t.1 d)
        (begun_inside xs (stop_of (range y)) b x p t.1 d has)
  ]
    where
      at_head : y ≡ x → ((q : ℕ) → q < stop_of (range y) → begun range xs q ≡ 0) →
          begun range (y ∷ xs) p ≡ begun range (y ∷ xs) (start_of (range x))
      at_head same none =
          let has' = rw (← same) at has in
          let start = start_of (range y) in
          rw (
            ← same,
            le-leb start p has'.0,
            le-leb start start (omega arith),
            none p has'.1,
            none start (omega (arith, width_positive (range y).depth)),
          ) refl

      in_tail : LiesWithin (range x) (stop_of (range y)) b → begun range xs p ≡ begun range xs (start_of (range x)) →
          begun range (y ∷ xs) p ≡ begun range (y ∷ xs) (start_of (range x))
      in_tail w rest =
          let start = start_of (range y) in
          rw (
            le-leb start p (omega (arith, w.from, has.0)),
            le-leb start (start_of (range x)) (omega (arith, w.from)),
          ) (omega (arith, rest))

  -- at the end of each tile but the last exactly one more begins
  pub begun_next : (xs : List X) (a b : ℕ) (x : X) (p : ℕ) → Tiles range a xs b → Contains xs x →
      HasPosition (range x) p →
      stop_of (range x) < b → begun range xs (stop_of (range x)) ≡ suc (begun range xs p)
  begun_next [] a b x p t c has short = absurd (contains_none x c)
  begun_next (y ∷ xs) a b x p t c has short = elim (contains_cases y x xs c) [
    | inl same ↦ at_head xs same t.1
    | inr d ↦ in_tail (tiles_within range xs (stop_of (range y)) b x t.1 d)
        (begun_next xs (stop_of (range y)) b x p t.1 d has short)
  ]
    where
      at_head : (zs : List X) → y ≡ x → Tiles range (stop_of (range y)) zs b →
          begun range (y ∷ zs) (stop_of (range x)) ≡ suc (begun range (y ∷ zs) p)
      at_head [] same u = absurd (let s = rw (← same) at short in omega (arith, s, u))
      at_head (z ∷ zs) same u =
          let has' = rw (← same) at has in
          let here : start_of (range z) ≡ stop_of (range y) = u.0.begins in
          let beyond : stop_of (range y) < stop_of (range z) = omega (arith, here, width_positive (range z).depth) in
          rw (
            ← same,
            le-leb (start_of (range y)) (stop_of (range y)) (omega arith),
            le-leb (start_of (range z)) (stop_of (range y)) (omega arith),
            begun_none zs (stop_of (range z)) b (stop_of (range y)) u.1 beyond,
            le-leb (start_of (range y)) p has'.0,
            lt-leb (start_of (range z)) p (omega (arith, here, has'.1)),
            begun_none zs (stop_of (range z)) b p u.1 (omega (arith, has'.1, beyond)),
          ) refl

      in_tail : LiesWithin (range x) (stop_of (range y)) b →
          begun range xs (stop_of (range x)) ≡ suc (begun range xs p) →
          begun range (y ∷ xs) (stop_of (range x)) ≡ suc (begun range (y ∷ xs) p)
      in_tail w rest =
          let start = start_of (range y) in
          rw (
            le-leb start (stop_of (range x)) (omega (arith, w.from)),
            le-leb start p (omega (arith, w.from, has.0)),
          ) (omega (arith, rest))
