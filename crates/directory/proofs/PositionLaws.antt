-- The laws of positions and widths, at the bits of a pseudokey. All else is linear arithmetic over these.
use Rattle.std.proofs.Common.{ℕ, suc, ◌≡◌, ◌+◌, ◌-◌, ◌*◌, ◌%◌, ◌^◌, ◌<◌, ◌≤◌, arith, refl, sym, ap, ◌∙◌}
use Rattle.std.specs.Int.{reverse_bits_onto}
use Rattle.std.proofs.lemmas.Nat.{pow_pos, pow-add}
use Rattle.std.proofs.Math.Nat.{two-pow-succ, pow-le-pow_right}
use Rattle.directory.specs.declared.pseudokey.TheConstants.{PSEUDOKEY_BITS, POSITIONS}
use Rattle.directory.specs.Positions.{position_of, width_of}
use Rattle.directory.proofs.ReversalLaws.{reversed_below, reversed_zero, reversed_twice, reversed_onto, reversed_truncated}

-- positions end where pseudokeys do
pub position_below : (k : ℕ) → position_of k < POSITIONS
unfolding position_of
position_below k = reversed_below PSEUDOKEY_BITS k

-- the pseudokey 0 stands first
pub position_zero : position_of 0 ≡ 0
unfolding position_of
position_zero = reversed_zero PSEUDOKEY_BITS

-- each position is that of some pseudokey, and no two pseudokeys have one
pub position_twice : (k : ℕ) → k < POSITIONS → position_of (position_of k) ≡ k
unfolding position_of
position_twice k h = reversed_twice PSEUDOKEY_BITS k h

-- std's reversal is the position
pub position_is : (k : ℕ) → reverse_bits_onto PSEUDOKEY_BITS k 0 ≡ position_of k
unfolding position_of
position_is k = reversed_onto PSEUDOKEY_BITS k 0 ∙ omega arith

-- a truncated pseudokey stands no further right
pub position_truncated : (d k : ℕ) → position_of (k % 2 ^ d) ≤ position_of k
unfolding position_of
position_truncated d k = reversed_truncated PSEUDOKEY_BITS d k

-- no range is without a position
pub width_positive : (l : ℕ) → 0 < width_of l
unfolding width_of
width_positive l = pow_pos (PSEUDOKEY_BITS - l)

-- a half is half as wide
pub width_halves : (l : ℕ) → l < PSEUDOKEY_BITS → width_of l ≡ width_of (suc l) + width_of (suc l)
unfolding width_of
width_halves l h =
    let e : PSEUDOKEY_BITS - l ≡ suc (PSEUDOKEY_BITS - suc l) = omega arith in
    rw e (two-pow-succ (PSEUDOKEY_BITS - suc l))

-- deeper ranges are no wider
pub width_falls : (l m : ℕ) → l ≤ m → width_of m ≤ width_of l
unfolding width_of
width_falls l m h = pow-le-pow_right (omega arith) (omega arith)

-- a range of no bits has all positions
pub width_whole : width_of 0 ≡ POSITIONS
unfolding width_of
width_whole = refl

-- and none has more
pub width_most : (l : ℕ) → width_of l ≤ POSITIONS
width_most l = omega (arith, width_falls 0 l (omega arith), width_whole)

-- as many ranges as there are patterns of a depth make up the whole
pub width_parts : (l : ℕ) → l ≤ PSEUDOKEY_BITS → 2 ^ l * width_of l ≡ POSITIONS
unfolding width_of
width_parts l h =
    let e : PSEUDOKEY_BITS ≡ l + (PSEUDOKEY_BITS - l) = omega arith in
    sym (ap (λ x. 2 ^ x) e ∙ pow-add 2 l (PSEUDOKEY_BITS - l))
