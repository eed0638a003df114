-- A list of ranges ascends and covers each pseudokey once exactly where it tiles all positions.
use Rattle.std.proofs.Common.{ℕ, zero, suc, ◌≡◌, ◌≢◌, ◌<◌, ◌≤◌, ◌↔◌, List, [], ◌∷◌, slice_index_or, arith, sym, ◌∙◌, inl, inr}
use Rattle.std.specs.List.{Contains, All, AllPairs}
use Rattle.std.proofs.lemmas.Bool.{cases_lt}
use Rattle.std.proofs.lemmas.List.Elements.{All-contains, All-contains_itself}
use Rattle.std.proofs.lemmas.List.Kept.{AllPairs-cons}
use Rattle.directory.specs.declared.pseudokey.TheConstants.{POSITIONS}
use Rattle.directory.specs.declared.range.Range.{Range}
use Rattle.directory.specs.Positions.{position_of}
use Rattle.directory.specs.Ranges.{IsRange, Covers, HasPosition, start_of, stop_of}
use Rattle.directory.specs.Tiles.{Tiles}
use Rattle.directory.specs.Partition.{LiesInOne, IsPartition}
use Rattle.directory.proofs.MemberLaws.{contains_head, contains_tail, contains_cases, contains_none}
use Rattle.directory.proofs.PositionLaws.{position_below, position_twice, width_positive}
use Rattle.directory.proofs.RangeLaws.{range_stop, range_has, range_covers, range_has_start}
use Rattle.directory.proofs.TileLaws.{tiles_within, tiles_found, tiles_unique}

-- of pairs of a list, those of its first element, and those of the others
pairs_head : {X : Type 0} (R : X → X → Type 0) (x : X) (xs : List X) → AllPairs R (x ∷ xs) → (y : X) → Contains xs y →
    R x y
pairs_head R x xs pairs y (k, within, is) = rw is at (pairs zero (suc k) y (omega arith) (omega arith))

pairs_tail : {X : Type 0} (R : X → X → Type 0) (x : X) (xs : List X) → AllPairs R (x ∷ xs) → AllPairs R xs
pairs_tail R x xs pairs i j d before within = pairs (suc i) (suc j) d (omega arith) (omega arith)

pairs_none : {X : Type 0} (R : X → X → Type 0) → AllPairs R []
pairs_none R i j d before within = absurd (omega arith)

module _ {X : Type 0} (range : X → Range) where
  -- x begins before y
  abbrev BeginsBefore : X → X → Type 0
  BeginsBefore x y = start_of (range x) < start_of (range y)

  -- from position a on each position lies in one range, and the ranges ascend
  pub record IsOrdered (xs : List X) (a : ℕ) : Type 0 where
    pub valid : (x : X) → Contains xs x → IsRange (range x)
    pub ascends : AllPairs BeginsBefore xs
    pub low : (x : X) → Contains xs x → a ≤ start_of (range x)
    pub covered : (p : ℕ) → a ≤ p → p < POSITIONS → (x : X) × Contains xs x × HasPosition (range x) p
    pub once : (p : ℕ) (x y : X) → Contains xs x → Contains xs y → HasPosition (range x) p → HasPosition (range y) p →
        x ≡ y

  -- the first range of such a list begins at a
  first_begins : (x : X) (xs : List X) (a : ℕ) → IsOrdered (x ∷ xs) a → a < POSITIONS → start_of (range x) ≡ a
  first_begins x xs a o lt = begins (o.covered a (omega arith) lt)
    where
      low : a ≤ start_of (range x)
      low = o.low x (contains_head x xs)

      begins : (y : X) × Contains (x ∷ xs) y × HasPosition (range y) a → start_of (range x) ≡ a
      begins (y, c, has) = elim (contains_cases x y xs c) [
        | inl same ↦ (let has' = rw (← same) at has in omega (arith, has'.0, low))
        | inr d ↦ omega (arith, has.0, pairs_head BeginsBefore x xs o.ascends y d, low)
      ]

  -- and the others are such a list from its end on
  rest_ordered : (x : X) (xs : List X) (a : ℕ) → IsOrdered (x ∷ xs) a → IsOrdered xs (stop_of (range x))
  rest_ordered x xs a o = record {
    valid = λ y c. o.valid y (contains_tail x y xs c);
    ascends = pairs_tail BeginsBefore x xs o.ascends;
    low = λ y c. elim (cases_lt (start_of (range y)) (stop_of (range x))) [
      | inl lt ↦ absurd (overlap y c lt)
      | inr ge ↦ ge
    ];
    covered = λ p ge lt. later p ge (o.covered p (omega (arith, ge, low, width_positive (range x).depth)) lt);
    once = λ p y z c d. o.once p y z (contains_tail x y xs c) (contains_tail x z xs d);
  }
    where
      low : a ≤ start_of (range x)
      low = o.low x (contains_head x xs)

      overlap : (y : X) → Contains xs y → start_of (range y) < stop_of (range x) → ⊥
      overlap y c lt =
          let up = pairs_head BeginsBefore x xs o.ascends y c in
          let same = o.once (start_of (range y)) x y (contains_head x xs) (contains_tail x y xs c)
          (omega (arith, up), lt) (range_has_start (range y)) in
          let up' = rw same at up in
          omega (arith, up')

      later : (p : ℕ) → stop_of (range x) ≤ p → (y : X) × Contains (x ∷ xs) y × HasPosition (range y) p →
          (y : X) × Contains xs y × HasPosition (range y) p
      later p ge (y, c, has) = elim (contains_cases x y xs c) [
        | inl same ↦ absurd (let has' = rw (← same) at has in omega (arith, has'.1, ge))
        | inr d ↦ (y, d, has)
      ]

  ordered_tiles : (xs : List X) (a : ℕ) → a ≤ POSITIONS → IsOrdered xs a → Tiles range a xs POSITIONS
  ordered_tiles [] a le o = elim (cases_lt a POSITIONS) [
    | inl lt ↦ absurd (none (o.covered a (omega arith) lt))
    | inr ge ↦ omega arith
  ]
    where
      none : (x : X) × Contains [] x × HasPosition (range x) a → ⊥
      none (x, c, has) = contains_none x c
  ordered_tiles (x ∷ xs) a le o =
      let valid = o.valid x (contains_head x xs) in
      let ends = range_stop (range x) valid in
      let room : a < POSITIONS = omega (arith, ends, o.low x (contains_head x xs), width_positive (range x).depth) in (
        record { valid = valid; begins = first_begins x xs a o room },
        ordered_tiles xs (stop_of (range x)) ends (rest_ordered x xs a o),
      )

  -- ascending and covering once is tiling
  pub partition_tiles : (xs : List X) → IsPartition range xs → Tiles range 0 xs POSITIONS
  partition_tiles xs h = ordered_tiles xs 0 (omega arith) (record {
    valid = valid;
    ascends = h.ascends;
    low = λ x c. omega arith;
    covered = λ p ge lt. found p lt (h.once (position_of p) (position_below p));
    once = λ p x y c d u v. only p x y c d u v (h.once (position_of p) (position_below p));
  })
    where
      valid : (x : X) → Contains xs x → IsRange (range x)
      valid x c = All-contains (λ (x : X). IsRange (range x)) xs x h.valid c

      found : (p : ℕ) → p < POSITIONS → LiesInOne range xs (position_of p) →
          (x : X) × Contains xs x × HasPosition (range x) p
      found p lt (x, only) =
          let has = range_has (range x) (position_of p) (valid x only.stands) only.covers in
          let has' = rw (position_twice p lt) at has in
          (x, only.stands, has')

      covers : (p : ℕ) (x : X) → Contains xs x → HasPosition (range x) p → Covers (range x) (position_of p)
      covers p x c has =
          let v = valid x c in
          let back = position_twice p (omega (arith, has.1, range_stop (range x) v)) in
          range_covers (range x) (position_of p) v (rw back has)

      only : (p : ℕ) (x y : X) → Contains xs x → Contains xs y → HasPosition (range x) p → HasPosition (range y) p →
          LiesInOne range xs (position_of p) → x ≡ y
      only p x y c d u v (z, o) = o.only x c (covers p x c u) ∙ sym (o.only y d (covers p y d v))

  -- each pseudokey of a tiling lies in exactly one range
  pub tiles_once : (xs : List X) (k : ℕ) → Tiles range 0 xs POSITIONS → LiesInOne range xs k
  tiles_once xs k t = one (tiles_found range xs 0 POSITIONS (position_of k) t (omega arith) (position_below k))
    where
      valid : (x : X) → Contains xs x → IsRange (range x)
      valid x c = (tiles_within range xs 0 POSITIONS x t c).valid

      one : (x : X) × Contains xs x × HasPosition (range x) (position_of k) → LiesInOne range xs k
      one (x, c, has) = (
        x,
        record {
          stands = c;
          covers = range_covers (range x) k (valid x c) has;
          only = λ y d covers. tiles_unique range xs 0 POSITIONS (position_of k) y x t d c
              (range_has (range y) k (valid y d) covers) has;
        },
      )

  -- and ranges that tile ascend
  pub tiles_ascend : (xs : List X) (a b : ℕ) → Tiles range a xs b → AllPairs BeginsBefore xs
  tiles_ascend [] a b t = pairs_none BeginsBefore
  tiles_ascend (x ∷ xs) a b t = AllPairs-cons BeginsBefore x xs above (tiles_ascend xs (stop_of (range x)) b t.1)
    where
      above : All (BeginsBefore x) xs
      above k d within =
          let y = slice_index_or xs k d in
          let w = tiles_within range xs (stop_of (range x)) b y t.1 (All-contains_itself xs k d within) in
          omega (arith, w.from, width_positive (range x).depth)

  -- tiling is ascending and covering once
  pub tiles_partition : (xs : List X) → Tiles range 0 xs POSITIONS → IsPartition range xs
  tiles_partition xs t = record {
    valid = λ k d within.
        (tiles_within range xs 0 POSITIONS (slice_index_or xs k d) t (All-contains_itself xs k d within)).valid;
    ascends = tiles_ascend xs 0 POSITIONS t;
    once = λ k lt. tiles_once xs k t;
  }

  -- the two are the same
  pub partition_is_tiling : (xs : List X) → IsPartition range xs ↔ Tiles range 0 xs POSITIONS
  partition_is_tiling xs = (partition_tiles xs, tiles_partition xs)
