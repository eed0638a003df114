-- A range and the one that differs in its last bit alone.
use Rattle.std.proofs.Common.{ℕ, suc, ◌≡◌, ◌+◌, ◌-◌, ◌%◌, ◌^◌, ◌<◌, ◌≤◌, List, Bool, true, false, arith, refl, sym, ◌∙◌, inl, inr}
use Rattle.std.specs.List.{Contains}
use Rattle.std.proofs.lemmas.Bool.{cases_lt, ltb-true, ltb-false}
use Rattle.std.proofs.lemmas.Nat.{mod_below, pow_pos}
use Rattle.std.proofs.Math.Nat.{two-pow-succ, mod-eq_of_lt, mod-eq-sub-mod}
use Rattle.directory.specs.declared.range.Range.{Range}
use Rattle.directory.specs.Ranges.{IsRange, Covers, AreHalvesOf, is_lower, parent_of, buddy_of, start_of}
use Rattle.directory.specs.Tiles.{Tiles}
use Rattle.directory.proofs.RangeLaws.{range_has, range_has_start, mod_above}
use Rattle.directory.proofs.TileLaws.{tiles_within, tiles_unique}

-- ranges of equal depth and pattern are one
pub same_range : (x y : Range) → x.depth ≡ y.depth → x.pattern ≡ y.pattern → x ≡ y
same_range x y same_depth same_pattern =
    let parts : ◌≡◌ {A = Range} (record { depth = x.depth; pattern = x.pattern }) y =
    rw (same_depth, same_pattern) refl in
    parts

-- patterns are two halves: those whose last bit is 0, and those whose last bit is 1
twice_half : (r : Range) → 1 ≤ r.depth → 2 ^ r.depth ≡ 2 ^ (r.depth - 1) + 2 ^ (r.depth - 1)
twice_half r deep = let depth : suc (r.depth - 1) ≡ r.depth = omega arith in rw depth at (two-pow-succ (r.depth - 1))

-- a range that is not the whole has a parent
pub parent_valid : (r : Range) → IsRange r → 1 ≤ r.depth → IsRange (parent_of r)
parent_valid r h deep = record {
  within = omega (arith, h.within);
  below = mod_below r.pattern (2 ^ (r.depth - 1)) (pow_pos (r.depth - 1));
}

-- a lower half stands before its buddy
pub lower_buddies : (r : Range) → 1 ≤ r.depth → is_lower r ≡ true → AreHalvesOf (parent_of r) r (buddy_of r)
lower_buddies r deep low =
    let depth : suc (r.depth - 1) ≡ r.depth = omega arith in
    let kept : r.pattern % 2 ^ (r.depth - 1) ≡ r.pattern = mod-eq_of_lt (ltb-true _ _ low) in
    record { lower = rw (depth, kept) refl; upper = rw (low, depth, kept) refl }

-- and an upper half behind it
pub upper_buddies : (r : Range) → IsRange r → 1 ≤ r.depth → is_lower r ≡ false →
    AreHalvesOf (parent_of r) (buddy_of r) r
upper_buddies r h deep high =
    let depth : suc (r.depth - 1) ≡ r.depth = omega arith in
    let least : 2 ^ (r.depth - 1) ≤ r.pattern = ltb-false _ _ high in
    let kept : r.pattern % 2 ^ (r.depth - 1) ≡ r.pattern - 2 ^ (r.depth - 1) =
    mod-eq-sub-mod least ∙ mod-eq_of_lt (omega (arith, h.below, twice_half r deep)) in
    let whole : r.pattern % 2 ^ (r.depth - 1) + 2 ^ (r.depth - 1) ≡ r.pattern = omega (arith, kept, least) in
    record { lower = rw (high, depth, kept) refl; upper = rw (depth, whole) refl }

-- the buddy of a range is one
pub buddy_valid : (r : Range) → IsRange r → 1 ≤ r.depth → IsRange (buddy_of r)
buddy_valid r h deep = at_half (is_lower r) refl
  where
    at_half : (low : Bool) → is_lower r ≡ low → IsRange (buddy_of r)
    at_half true low = record { within = h.within; below = rw low (omega (arith, ltb-true _ _ low, twice_half r deep)) }
    at_half false high = record { within = h.within; below = rw high (omega (arith, h.below)) }

-- a pseudokey and the one with a bit turned at or above a depth lie in the same ranges of that depth
pub buddy_agrees : (r x : Range) → IsRange r → 1 ≤ r.depth → x.depth < r.depth → Covers x (buddy_of r).pattern →
    Covers x r.pattern
buddy_agrees r x h deep lt c = at_half (is_lower r) refl
  where
    at_half : (low : Bool) → is_lower r ≡ low → Covers x r.pattern
    at_half true low = let c' = rw low at c in sym (mod_above x.depth (r.depth - 1) r.pattern (omega arith)) ∙ c'
    at_half false high =
        let least : 2 ^ (r.depth - 1) ≤ r.pattern = ltb-false _ _ high in
        let c' = rw high at c in
        let whole : r.pattern - 2 ^ (r.depth - 1) + 2 ^ (r.depth - 1) ≡ r.pattern = omega (arith, least) in
        rw whole at (mod_above x.depth (r.depth - 1) (r.pattern - 2 ^ (r.depth - 1)) (omega arith)) ∙ c'

-- of a tiling, what covers the buddy's pattern is no less deep
pub buddy_depth : {X : Type 0} (range : X → Range) (xs : List X) (a b : ℕ) (x y : X) → Tiles range a xs b →
    Contains xs x →
    Contains xs y → 1 ≤ (range x).depth → Covers (range y) (buddy_of (range x)).pattern →
    (range x).depth ≤ (range y).depth
buddy_depth range xs a b x y t c d deep covers = elim (cases_lt (range y).depth (range x).depth) [
  | inr le ↦ le
  | inl lt ↦ absurd (
      let valid = (tiles_within range xs a b x t c).valid in
      let has = range_has (range y) (range x).pattern (tiles_within range xs a b y t d).valid
      (buddy_agrees (range x) (range y) valid deep lt covers) in
      let same = tiles_unique range xs a b (start_of (range x)) x y t c d (range_has_start (range x)) has in
      let lt' = rw same at lt in omega (arith, lt'))
]

-- and where it is as deep, it is the buddy
pub buddy_is : (r x : Range) → IsRange r → 1 ≤ r.depth → x.depth ≡ r.depth → Covers x (buddy_of r).pattern →
    x ≡ buddy_of r
buddy_is r x h deep same covers =
    let covers' = rw same at covers in
    let kept = mod-eq_of_lt (buddy_valid r h deep).below in
    same_range x (buddy_of r) same (sym covers' ∙ kept)
