-- Ranges as intervals of positions, their halves and their buddies.
use Rattle.std.proofs.Common.{ℕ, ◌≡◌, ◌+◌, ◌-◌, ◌%◌, ◌^◌, ◌<◌, ◌≤◌, ◌↔◌, arith, refl, sym, ◌∙◌, ◌⊎◌, inl, inr}
use Rattle.std.proofs.lemmas.Bool.{cases_lt}
use Rattle.std.proofs.lemmas.Nat.{pow-add}
use Rattle.std.proofs.Math.Pow.{mod-mod-pow}
use Rattle.std.proofs.Math.Nat.{two-pow-succ, add-mul-mod_self_left}
use Rattle.directory.specs.declared.pseudokey.TheConstants.{PSEUDOKEY_BITS, POSITIONS}
use Rattle.directory.specs.declared.range.Range.{Range}
use Rattle.directory.specs.Positions.{position_of, width_of}
use Rattle.directory.specs.Ranges.{IsRange, Covers, HasPosition, start_of, stop_of, lower_half_of, upper_half_of}
use Rattle.directory.specs.Laws.{MeetInTheMiddle}
use Rattle.directory.proofs.ReversalLaws.{reversed_stop, reversed_inside, reversed_in_range, reversed_upper}
use Rattle.directory.proofs.PositionLaws.{width_positive, width_halves}

-- a range ends within the whole
pub range_stop : (r : Range) → IsRange r → stop_of r ≤ POSITIONS
unfolding position_of width_of
range_stop r h = reversed_stop r.depth PSEUDOKEY_BITS r.pattern h.within h.below

-- a pseudokey that the range covers stands in its interval
pub range_has : (r : Range) (k : ℕ) → IsRange r → Covers r k → HasPosition r (position_of k)
unfolding position_of width_of
range_has r k h c = reversed_inside r.depth PSEUDOKEY_BITS r.pattern k h.within h.below c

-- and one that stands in its interval is covered
pub range_covers : (r : Range) (k : ℕ) → IsRange r → HasPosition r (position_of k) → Covers r k
unfolding position_of width_of
range_covers r k h has = reversed_in_range r.depth PSEUDOKEY_BITS r.pattern k h.within h.below has.0 has.1

-- a range is an interval of positions
pub range_is_interval : (r : Range) (k : ℕ) → IsRange r → Covers r k ↔ HasPosition r (position_of k)
range_is_interval r k h = (range_has r k h, range_covers r k h)

-- no range is empty
pub range_has_start : (r : Range) → HasPosition r (start_of r)
range_has_start r = (omega arith, omega (arith, width_positive r.depth))

-- a pseudokey at or behind the start of a range that does not cover it lies behind the range
pub range_passed : (r : Range) (k : ℕ) → IsRange r → start_of r ≤ position_of k → (Covers r k → ⊥) →
    stop_of r ≤ position_of k
range_passed r k h low out = elim (cases_lt (position_of k) (stop_of r)) [
  | inl lt ↦ absurd (out (range_covers r k h (low, lt)))
  | inr le ↦ le
]

-- the upper half begins where the lower one ends
pub upper_half_start : (r : Range) → IsRange r → r.depth < PSEUDOKEY_BITS →
    start_of (upper_half_of r) ≡ stop_of (lower_half_of r)
unfolding position_of width_of
upper_half_start r h shallow = reversed_upper r.depth PSEUDOKEY_BITS r.pattern shallow h.below

-- and ends where the whole does
pub upper_half_stop : (r : Range) → IsRange r → r.depth < PSEUDOKEY_BITS → stop_of (upper_half_of r) ≡ stop_of r
upper_half_stop r h shallow = omega (arith, upper_half_start r h shallow, width_halves r.depth shallow)

-- a half of a range is a range
pub lower_half_valid : (r : Range) → IsRange r → r.depth < PSEUDOKEY_BITS → IsRange (lower_half_of r)
lower_half_valid r h shallow = record { within = omega arith; below = omega (arith, h.below, two-pow-succ r.depth) }

-- and so is the other
pub upper_half_valid : (r : Range) → IsRange r → r.depth < PSEUDOKEY_BITS → IsRange (upper_half_of r)
upper_half_valid r h shallow = record { within = omega arith; below = omega (arith, h.below, two-pow-succ r.depth) }

-- a range whose upper half is one is one, and could be split
pub halved_valid : (r : Range) → IsRange (upper_half_of r) → IsRange r × (r.depth < PSEUDOKEY_BITS)
halved_valid r h =
    let below : r.pattern < 2 ^ r.depth = omega (arith, h.below, two-pow-succ r.depth) in
    (record { within = omega (arith, h.within); below = below }, omega (arith, h.within))

-- a pseudokey of a range lies in one of its halves
pub range_in_half : (r : Range) (k : ℕ) → IsRange r → r.depth < PSEUDOKEY_BITS → Covers r k →
    Covers (lower_half_of r) k ⊎ Covers (upper_half_of r) k
range_in_half r k h shallow c =
    let has = range_has r k h c in
    let middle = upper_half_start r h shallow in
    elim (cases_lt (position_of k) (stop_of (lower_half_of r))) [
      | inl lt ↦ inl (range_covers (lower_half_of r) k (lower_half_valid r h shallow) (has.0, lt))
      | inr ge ↦ inr (range_covers (upper_half_of r) k (upper_half_valid r h shallow)
          (omega (arith, middle, ge), omega (arith, has.1, upper_half_stop r h shallow)))
    ]

-- what a half covers the range covers
pub half_in_range : (r : Range) (k : ℕ) → IsRange r → r.depth < PSEUDOKEY_BITS →
    Covers (lower_half_of r) k ⊎ Covers (upper_half_of r) k → Covers r k
half_in_range r k h shallow (inl c) =
    let has = range_has (lower_half_of r) k (lower_half_valid r h shallow) c in
    range_covers r k h (has.0, omega (arith, has.1, width_halves r.depth shallow))
half_in_range r k h shallow (inr c) =
    let has = range_has (upper_half_of r) k (upper_half_valid r h shallow) c in
    let middle = upper_half_start r h shallow in
    range_covers r k h (omega (arith, has.0, middle), omega (arith, has.1, upper_half_stop r h shallow))

-- and no pseudokey lies in both
pub halves_apart : (r : Range) (k : ℕ) → IsRange r → r.depth < PSEUDOKEY_BITS →
    Covers (lower_half_of r) k → Covers (upper_half_of r) k → ⊥
halves_apart r k h shallow c d =
    let low = range_has (lower_half_of r) k (lower_half_valid r h shallow) c in
    let high = range_has (upper_half_of r) k (upper_half_valid r h shallow) d in
    omega (arith, low.1, high.0, upper_half_start r h shallow)

-- the halves of a range fill its interval
pub halves_meet : (r : Range) → IsRange r → r.depth < PSEUDOKEY_BITS →
    MeetInTheMiddle r (lower_half_of r) (upper_half_of r)
halves_meet r h shallow =
    record { starts = refl; meet = upper_half_start r h shallow; stops = upper_half_stop r h shallow }

-- and cover together what it covers
pub halves_make_up : (r : Range) (k : ℕ) → IsRange r → r.depth < PSEUDOKEY_BITS →
    Covers r k ↔ (Covers (lower_half_of r) k ⊎ Covers (upper_half_of r) k)
halves_make_up r k h shallow = (range_in_half r k h shallow, half_in_range r k h shallow)

-- a bit at or above the depth is no part of a range
pub mod_above : (l d i : ℕ) → l ≤ d → (i + 2 ^ d) % 2 ^ l ≡ i % 2 ^ l
mod_above l d i h =
    let e : d ≡ l + (d - l) = omega arith in
    rw (e, pow-add 2 l (d - l)) (add-mul-mod_self_left i (2 ^ l) (2 ^ (d - l)))

-- so the index 2 ^ d above another lies in the same ranges of depth at most d
pub covers_above : (r : Range) (d i : ℕ) → r.depth ≤ d → Covers r i → Covers r (i + 2 ^ d)
covers_above r d i h c = mod_above r.depth d i h ∙ c

-- bits at or above the depth may be cut off: an index of a directory lies where its pseudokeys do
pub covers_truncated : (r : Range) (d k : ℕ) → r.depth ≤ d → Covers r (k % 2 ^ d) ↔ Covers r k
covers_truncated r d k h =
    let e : d ≡ (d - r.depth) + r.depth = omega arith in
    let same : k % 2 ^ d % 2 ^ r.depth ≡ k % 2 ^ r.depth = rw e (mod-mod-pow k (d - r.depth) r.depth) in
    (λ c. sym same ∙ c, λ c. same ∙ c)
