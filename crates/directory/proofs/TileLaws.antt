-- Tiles side by side: joined, cut, looked up by position.
use Rattle.std.proofs.Common.{ℕ, ◌≡◌, ◌≢◌, ◌+◌, ◌*◌, ◌^◌, ◌<◌, ◌≤◌, List, [], ◌∷◌, ◌++◌, length, arith, refl, sym, ◌∙◌, inl, inr}
use Rattle.std.specs.List.{Contains}
use Rattle.std.proofs.lemmas.Bool.{cases_lt}
use Rattle.std.proofs.Math.Nat.{suc-mul, le_of_mul-le-mul_right}
use Rattle.directory.specs.declared.pseudokey.TheConstants.{PSEUDOKEY_BITS, POSITIONS}
use Rattle.directory.specs.declared.range.Range.{Range}
use Rattle.directory.specs.Positions.{width_of}
use Rattle.directory.specs.Ranges.{IsRange, HasPosition, whole_range, start_of, stop_of}
use Rattle.directory.specs.Tiles.{IsTileAt, Tiles}
use Rattle.directory.proofs.MemberLaws.{contains_head, contains_tail, contains_cases, contains_none}
use Rattle.directory.proofs.PositionLaws.{position_zero, width_positive, width_falls, width_parts, width_whole}

-- a range whose interval lies between two positions
pub record LiesWithin (r : Range) (a b : ℕ) : Type 0 where
  pub valid : IsRange r
  pub from : a ≤ start_of r
  pub to : stop_of r ≤ b

-- tiles from a to b, cut before one of them
pub record Cut {X : Type 0} (range : X → Range) (a b : ℕ) (front : List X) (x : X) (back : List X) : Type 0 where
  pub before : Tiles range a front (start_of (range x))
  pub valid : IsRange (range x)
  pub after : Tiles range (stop_of (range x)) back b

module _ {X : Type 0} (range : X → Range) where
  -- tiles lead to the right
  pub tiles_up : (xs : List X) (a b : ℕ) → Tiles range a xs b → a ≤ b
  tiles_up [] a b t = omega arith
  tiles_up (x ∷ xs) a b t = omega (arith, t.0.begins, tiles_up xs (stop_of (range x)) b t.1)

  -- the range of all pseudokeys is a tiling by itself
  pub tiles_whole : (x : X) → range x ≡ whole_range → Tiles range 0 (x ∷ []) POSITIONS
  tiles_whole x is = rw is (
    record { valid = record { within = omega arith; below = omega arith }; begins = position_zero },
    omega (arith, position_zero, width_whole),
  )

  -- tiles to m and tiles from m on are tiles
  pub tiles_join : (xs ys : List X) (a m b : ℕ) → Tiles range a xs m → Tiles range m ys b → Tiles range a (xs ++ ys) b
  tiles_join [] ys a m b t u = rw t u
  tiles_join (x ∷ xs) ys a m b t u = (t.0, tiles_join xs ys (stop_of (range x)) m b t.1 u)

  -- one more tile is put behind
  pub tiles_push : (xs : List X) (x : X) (a m : ℕ) → Tiles range a xs m → IsTileAt (range x) m →
      Tiles range a (xs ++ x ∷ []) (stop_of (range x))
  tiles_push xs x a m t tile = tiles_join xs (x ∷ []) a m (stop_of (range x)) t (tile, refl)

  -- where tiles end hangs on where they begin alone
  pub tiles_end : (xs : List X) (a b c : ℕ) → Tiles range a xs b → Tiles range a xs c → b ≡ c
  tiles_end [] a b c t u = sym t ∙ u
  tiles_end (x ∷ xs) a b c t u = tiles_end xs (stop_of (range x)) b c t.1 u.1

  -- tiles may be cut before each item
  pub tiles_cut : (front : List X) (x : X) (back : List X) (a b : ℕ) → Tiles range a (front ++ x ∷ back) b →
      Cut range a b front x back
  tiles_cut [] x back a b t = record { before = sym t.0.begins; valid = t.0.valid; after = t.1 }
  tiles_cut (y ∷ front) x back a b t =
      let rest = tiles_cut front x back (stop_of (range y)) b t.1 in
      record { before = (t.0, rest.before); valid = rest.valid; after = rest.after }

  -- what changes no range of the list keeps the tiling
  pub tiles_same : (new : X → Range) (xs : List X) (a b : ℕ) → ((x : X) → Contains xs x → new x ≡ range x) →
      Tiles range a xs b → Tiles new a xs b
  tiles_same new [] a b same t = t
  tiles_same new (x ∷ xs) a b same t =
      let here : new x ≡ range x = same x (contains_head x xs) in
      rw here (t.0, tiles_same new xs (stop_of (range x)) b (λ y c. same y (contains_tail x y xs c)) t.1)

  -- each item has a range within the interval
  pub tiles_within : (xs : List X) (a b : ℕ) (x : X) → Tiles range a xs b → Contains xs x → LiesWithin (range x) a b
  tiles_within [] a b x t c = absurd (contains_none x c)
  tiles_within (y ∷ xs) a b x t c = elim (contains_cases y x xs c) [
    | inl same ↦ at_head same
    | inr d ↦ in_tail (tiles_within xs (stop_of (range y)) b x t.1 d)
  ]
    where
      at_head : y ≡ x → LiesWithin (range x) a b
      at_head same = rw (← same) (record {
        valid = t.0.valid;
        from = omega (arith, t.0.begins);
        to = tiles_up xs (stop_of (range y)) b t.1;
      })

      in_tail : LiesWithin (range x) (stop_of (range y)) b → LiesWithin (range x) a b
      in_tail w = record { valid = w.valid; from = omega (arith, w.from, t.0.begins); to = w.to }

  -- each position of the interval lies in some tile
  pub tiles_found : (xs : List X) (a b p : ℕ) → Tiles range a xs b → a ≤ p → p < b →
      (x : X) × Contains xs x × HasPosition (range x) p
  tiles_found [] a b p t low high = absurd (omega arith)
  tiles_found (x ∷ xs) a b p t low high = elim (cases_lt p (stop_of (range x))) [
    | inl lt ↦ (x, contains_head x xs, (omega (arith, t.0.begins), lt))
    | inr le ↦ later (tiles_found xs (stop_of (range x)) b p t.1 le high)
  ]
    where
      later : (y : X) × Contains xs y × HasPosition (range y) p →
          (y : X) × Contains (x ∷ xs) y × HasPosition (range y) p
      later (y, c, has) = (y, contains_tail x y xs c, has)

  -- and in no two
  pub tiles_unique : (xs : List X) (a b p : ℕ) (x y : X) → Tiles range a xs b → Contains xs x → Contains xs y →
      HasPosition (range x) p → HasPosition (range y) p → x ≡ y
  tiles_unique [] a b p x y t c d u v = absurd (contains_none x c)
  tiles_unique (z ∷ xs) a b p x y t c d u v = elim (contains_cases z x xs c) [
    | inl at_x ↦ elim (contains_cases z y xs d) [
      | inl at_y ↦ sym at_x ∙ at_y
      | inr in_y ↦ absurd (apart x at_x u (tiles_within xs (stop_of (range z)) b y t.1 in_y) v)
    ]
    | inr in_x ↦ elim (contains_cases z y xs d) [
      | inl at_y ↦ absurd (apart y at_y v (tiles_within xs (stop_of (range z)) b x t.1 in_x) u)
      | inr in_y ↦ tiles_unique xs (stop_of (range z)) b p x y t.1 in_x in_y u v
    ]
  ]
    where
      apart : (x : X) {y : X} → z ≡ x → HasPosition (range x) p → LiesWithin (range y) (stop_of (range z)) b →
          HasPosition (range y) p → ⊥
      apart x same u w v = let u' = rw (← same) at u in omega (arith, u'.1, w.from, v.0)

  -- an item stands only once: neither before itself
  pub tiles_not_before : (front : List X) (x : X) (back : List X) (a b : ℕ) (y : X) →
      Tiles range a (front ++ x ∷ back) b →
      Contains front y → y ≢ x
  tiles_not_before front x back a b y t c same =
      let cut = tiles_cut front x back a b t in
      let w = tiles_within front a (start_of (range x)) y cut.before c in
      let w' = rw same at w in
      omega (arith, w'.to, width_positive (range x).depth)

  -- nor behind
  pub tiles_not_behind : (front : List X) (x : X) (back : List X) (a b : ℕ) (y : X) →
      Tiles range a (front ++ x ∷ back) b →
      Contains back y → y ≢ x
  tiles_not_behind front x back a b y t c same =
      let cut = tiles_cut front x back a b t in
      let w = tiles_within back (stop_of (range x)) b y cut.after c in
      let w' = rw same at w in
      omega (arith, w'.from, width_positive (range x).depth)

  -- tiles that are no deeper than l are no narrower than a range of depth l
  pub tiles_length : (xs : List X) (a b l : ℕ) → Tiles range a xs b → ((x : X) → Contains xs x → (range x).depth ≤ l) →
      a + length xs * width_of l ≤ b
  tiles_length [] a b l t deep = omega (arith, t)
  tiles_length (x ∷ xs) a b l t deep =
      let rest = tiles_length xs (stop_of (range x)) b l t.1 (λ y c. deep y (contains_tail x y xs c)) in
      let wide : width_of l ≤ width_of (range x).depth = width_falls (range x).depth l (deep x (contains_head x xs)) in
      omega (arith, rest, wide, t.0.begins, suc-mul (length xs) (width_of l))

  -- so no more of them tile all positions than there are patterns of that depth
  pub tiles_few : (xs : List X) (l : ℕ) → Tiles range 0 xs POSITIONS → l ≤ PSEUDOKEY_BITS →
      ((x : X) → Contains xs x → (range x).depth ≤ l) → length xs ≤ 2 ^ l
  tiles_few xs l t within deep =
      let wide = tiles_length xs 0 POSITIONS l t deep in
      let parts = width_parts l within in
      le_of_mul-le-mul_right (omega arith) (width_positive l)
