-- A tile gives way to its two halves, and two halves to their parent.
use Rattle.std.proofs.Common.{ℕ, ◌≡◌, ◌≢◌, ◌<◌, List, [], ◌∷◌, ◌++◌, arith, refl, sym, ap, ◌∙◌}
use Rattle.std.specs.List.{Contains}
use Rattle.std.proofs.lemmas.List.Elements.{Contains-append_left, Contains-append_right}
use Rattle.directory.specs.declared.pseudokey.TheConstants.{PSEUDOKEY_BITS}
use Rattle.directory.specs.declared.range.Range.{Range}
use Rattle.directory.specs.Ranges.{IsRange, AreHalvesOf, start_of, stop_of, upper_half_of}
use Rattle.directory.specs.Tiles.{Tiles, Splits, AreNeighbours}
use Rattle.directory.proofs.MemberLaws.{contains_tail, contains_between, contains_new}
use Rattle.directory.proofs.RangeLaws.{upper_half_start, upper_half_stop, lower_half_valid, upper_half_valid, halved_valid, range_has_start}
use Rattle.directory.proofs.TileLaws.{tiles_join, tiles_cut, tiles_same, tiles_within, tiles_unique, tiles_not_before, tiles_not_behind}

module _ {X : Type 0} (old new : X → Range) where
  -- what stands between two tilings is replaced
  pub tiles_replaced : (front middle back : List X) (a m n b : ℕ) → Tiles old a front m → Tiles old n back b →
      ((y : X) → Contains front y → new y ≡ old y) → ((y : X) → Contains back y → new y ≡ old y) →
      Tiles new m middle n → Tiles new a (front ++ (middle ++ back)) b
  tiles_replaced front middle back a m n b before after front_same back_same between =
      tiles_join new front (middle ++ back) a m b (tiles_same old new front a m front_same before)
      (tiles_join new middle back m n b between (tiles_same old new back n b back_same after))

  -- a tile that is no deepest one may be split
  pub split_tiles : (front : List X) (x low high : X) (back : List X) (a b : ℕ) → Splits old new front x low high back →
      (old x).depth < PSEUDOKEY_BITS → Tiles old a (front ++ x ∷ back) b → Tiles new a (front ++ (low ∷ high ∷ back)) b
  split_tiles front x low high back a b s shallow t =
      let cut = tiles_cut old front x back a b t in
      let r = old x in
      tiles_replaced front (low ∷ high ∷ []) back a (start_of r) (stop_of r) b cut.before cut.after
      s.front_same s.back_same
      (rw (s.halves.lower, s.halves.upper) (
        record { valid = lower_half_valid r cut.valid shallow; begins = refl },
        (
          record { valid = upper_half_valid r cut.valid shallow; begins = upper_half_start r cut.valid shallow },
          upper_half_stop r cut.valid shallow,
        ),
      ))

  -- two halves may be joined
  pub join_tiles : (front : List X) (x low high : X) (back : List X) (a b : ℕ) → Splits new old front x low high back →
      Tiles old a (front ++ low ∷ high ∷ back) b → Tiles new a (front ++ (x ∷ back)) b
  join_tiles front x low high back a b s t =
      let cut = tiles_cut old front low (high ∷ back) a b t in
      let r = new x in
      let high_valid : IsRange (upper_half_of r) = rw (s.halves.upper) at cut.after.0.valid in
      let whole = halved_valid r high_valid in
      let starts : start_of (old low) ≡ start_of r = rw (s.halves.lower) refl in
      let stops : stop_of (old high) ≡ stop_of r = rw (s.halves.upper) (upper_half_stop r whole.0 whole.1) in
      tiles_replaced front (x ∷ []) back a (start_of (old low)) (stop_of (old high)) b cut.before cut.after.1
      (λ y c. sym (s.front_same y c)) (λ y c. sym (s.back_same y c))
      (record { valid = whole.0; begins = sym starts }, sym stops)

  -- where an item is split in its place, what else stands on the list keeps its range
  pub splits_in_place : (front : List X) (x high : X) (back : List X) (a b : ℕ) → Tiles old a (front ++ x ∷ back) b →
      AreHalvesOf (old x) (new x) (new high) → ((y : X) → Contains (front ++ x ∷ back) y → y ≢ x → new y ≡ old y) →
      Splits old new front x x high back
  splits_in_place front x high back a b t halves same = record {
    halves = halves;
    front_same = λ y c. same y (Contains-append_left front (x ∷ back) y c)
        (tiles_not_before old front x back a b y t c);
    back_same = λ y c. same y (Contains-append_right front (x ∷ back) y (contains_tail x y back c))
        (tiles_not_behind old front x back a b y t c);
  }

  -- likewise where the lower of two items takes the range of both
  pub joins_in_place : (front : List X) (x high : X) (back : List X) (a b : ℕ) →
      Tiles old a (front ++ x ∷ high ∷ back) b →
      AreHalvesOf (new x) (old x) (old high) →
      ((y : X) → Contains (front ++ x ∷ high ∷ back) y → y ≢ x → new y ≡ old y) →
      Splits new old front x x high back
  joins_in_place front x high back a b t halves same = record {
    halves = halves;
    front_same = λ y c. sym (same y (Contains-append_left front (x ∷ high ∷ back) y c)
        (tiles_not_before old front x (high ∷ back) a b y t c));
    back_same = λ y c. sym (same y (behind y c)
        (tiles_not_behind old front x (high ∷ back) a b y t (contains_tail high y back c)));
  }
    where
      behind : (y : X) → Contains back y → Contains (front ++ x ∷ high ∷ back) y
      behind y c =
          let further = contains_tail high y back c in
          Contains-append_right front (x ∷ high ∷ back) y (contains_tail x y (high ∷ back) further)

module _ {X : Type 0} (range : X → Range) where
  -- two items whose ranges are the halves of one stand side by side
  pub halves_neighbours : (xs : List X) (a b : ℕ) (r : Range) (x y : X) → Tiles range a xs b → Contains xs x →
      Contains xs y →
      AreHalvesOf r (range x) (range y) → AreNeighbours xs x y
  halves_neighbours xs a b r x y t c d halves = at_x (contains_between xs x c)
    where
      meet : start_of (range y) ≡ stop_of (range x)
      meet =
          let valid : IsRange (upper_half_of r) = rw (halves.upper) at (tiles_within range xs a b y t d).valid in
          let whole = halved_valid r valid in
          rw (halves.lower, halves.upper) (upper_half_start r whole.0 whole.1)

      behind : (front back : List X) → xs ≡ front ++ x ∷ back → Tiles range (stop_of (range x)) back b →
          AreNeighbours xs x y
      behind front [] same after =
          let w = tiles_within range xs a b y t d in
          absurd (omega (arith, after, meet, w.to, (range_has_start (range y)).1))
      behind front (z ∷ back) same after =
          let in_z : Contains xs z = rw same (contains_new front x z back) in
          let p = start_of (range y) in
          let has = range_has_start (range z) in
          let is : z ≡ y = tiles_unique range xs a b p z y t in_z d
          (omega (arith, after.0.begins, meet), omega (arith, has.1, after.0.begins, meet))
          (range_has_start (range y)) in
          (front, back, same ∙ ap (λ (w : X). front ++ x ∷ w ∷ back) is)

      at_x : (front : List X) × (back : List X) × (xs ≡ front ++ x ∷ back) → AreNeighbours xs x y
      at_x (front, back, same) =
          let t' = rw same at t in
          behind front back same (tiles_cut range front x back a b t').after
