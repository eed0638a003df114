-- Numbers whose bits are reversed, at any number of bits.
use Rattle.std.proofs.Common.{ℕ, zero, suc, ◌≡◌, ◌+◌, ◌-◌, ◌*◌, ◌/◌, ◌%◌, ◌^◌, ◌<◌, ◌≤◌, arith, refl, sym, ◌∙◌, add-one}
use Rattle.std.specs.Int.{reverse_bits_onto}
use Rattle.std.proofs.lemmas.Nat.{mod-pow-add, mul-add-lt, mul-le}
use Rattle.std.proofs.Math.Nat.{two-pow-succ, add-mul, mul-add}
use Rattle.directory.specs.Positions.{bits_reversed}
use Rattle.directory.specs.Ranges.{InRange}

-- a reversed number has no more bits
pub reversed_below : (w k : ℕ) → bits_reversed w k < 2 ^ w
unfolding bits_reversed
reversed_below zero k = omega arith
reversed_below (suc w) k =
    let high = mul-add-lt (k % 2) (2 ^ w) (bits_reversed w (k / 2)) 2 (omega arith) (reversed_below w (k / 2)) in
    omega (arith, high, two-pow-succ w)

-- the reverse of no bit set has none
pub reversed_zero : (w : ℕ) → bits_reversed w 0 ≡ 0
unfolding bits_reversed
reversed_zero zero = refl
reversed_zero (suc w) = omega (arith, reversed_zero w)

-- the lowest bit becomes the highest
pub reversed_step : (w k : ℕ) → bits_reversed (suc w) k ≡ (k % 2) * 2 ^ w + bits_reversed w (k / 2)
unfolding bits_reversed
reversed_step w k = refl

-- std moves the bits one by one behind those of a
pub reversed_onto : (w k a : ℕ) → reverse_bits_onto w k a ≡ a * 2 ^ w + bits_reversed w k
unfolding reverse_bits_onto bits_reversed
reversed_onto zero k a = omega arith
reversed_onto (suc w) k a =
    let shifted = add-mul (a * 2) (k % 2) (2 ^ w) in
    let twice : a * 2 * 2 ^ w ≡ a * 2 ^ suc w = rw (two-pow-succ w, mul-add a (2 ^ w) (2 ^ w)) (double a (2 ^ w)) in
    reversed_onto w (k / 2) (a * 2 + k % 2) ∙ omega (arith, shifted, twice)
  where
    double : (a v : ℕ) → a * 2 * v ≡ a * v + a * v
    double a v = let e : a * 2 ≡ a + a = omega arith in rw e (add-mul a a v)

-- the lowest bit stands apart from the others
pub mod_split : (l k : ℕ) → k % 2 ^ suc l ≡ (k / 2 % 2 ^ l) * 2 + k % 2
mod_split l k = rw (add-one l) at (mod-pow-add k l 1)

-- fewer bits stand no further right
pub reversed_truncated : (w d k : ℕ) → bits_reversed w (k % 2 ^ d) ≤ bits_reversed w k
unfolding bits_reversed
reversed_truncated zero d k = omega arith
reversed_truncated (suc w) zero k = let e : k % 2 ^ zero ≡ 0 = omega arith in rw e (omega (arith, reversed_zero w))
reversed_truncated (suc w) (suc d) k =
    let low : k % 2 ^ suc d % 2 ≡ k % 2 = omega (arith, mod_split d k) in
    let high : k % 2 ^ suc d / 2 ≡ k / 2 % 2 ^ d = omega (arith, mod_split d k) in
    rw (low, high) (omega (arith, reversed_truncated w d (k / 2)))

-- two numbers of equal lowest bit
same_bit : (b c v x y d : ℕ) → b ≡ c → x ≤ y → y < x + d → (c * v + x ≤ b * v + y) × (b * v + y < c * v + x + d)
same_bit b c v x y d e f g = rw e (omega arith, omega arith)

-- places that differ by less than a part are in one part
other_bit : (b c v x y d : ℕ) → b < 2 → c < 2 → x + d ≤ v → y < v → c * v + x ≤ b * v + y →
    b * v + y < c * v + x + d → b ≡ c
other_bit zero zero v x y d p q r s t u = refl
other_bit zero (suc zero) v x y d p q r s t u = omega arith
other_bit (suc zero) zero v x y d p q r s t u = omega arith
other_bit (suc zero) (suc zero) v x y d p q r s t u = refl
other_bit (suc (suc b)) c v x y d p q r s t u = omega arith
other_bit b (suc (suc c)) v x y d p q r s t u = omega arith

-- the positions of a range end within the whole
pub reversed_stop : (l w p : ℕ) → l ≤ w → p < 2 ^ l → bits_reversed w p + 2 ^ (w - l) ≤ 2 ^ w
unfolding bits_reversed
reversed_stop zero w p h q =
    let e : p ≡ 0 = omega arith in
    let f : w - zero ≡ w = omega arith in
    rw (e, f, reversed_zero w) (omega arith)
reversed_stop (suc l) zero p h q = omega arith
reversed_stop (suc l) (suc w) p h q =
    let e : suc w - suc l ≡ w - l = omega arith in
    let rest : bits_reversed w (p / 2) + 2 ^ (w - l) ≤ 2 ^ w =
    reversed_stop l w (p / 2) (omega arith) (omega (arith, two-pow-succ l)) in
    rw e (omega (arith, rest, mul-le (p % 2) (2 ^ w) 1 (2 ^ w) (omega arith) (omega arith), two-pow-succ w))

-- a number of a range stands in its interval
pub reversed_inside : (l w p k : ℕ) → l ≤ w → p < 2 ^ l → InRange l p k →
    (bits_reversed w p ≤ bits_reversed w k) × (bits_reversed w k < bits_reversed w p + 2 ^ (w - l))
unfolding bits_reversed
reversed_inside zero w p k h q i =
    let e : p ≡ 0 = omega arith in
    let f : w - zero ≡ w = omega arith in
    rw (e, f, reversed_zero w) (omega arith, omega (arith, reversed_below w k))
reversed_inside (suc l) zero p k h q i = (omega arith, omega arith)
reversed_inside (suc l) (suc w) p k h q i =
    let e : suc w - suc l ≡ w - l = omega arith in
    let parts : (k / 2 % 2 ^ l) * 2 + k % 2 ≡ p = sym (mod_split l k) ∙ i in
    let rest = reversed_inside l w (p / 2) (k / 2) (omega arith) (omega (arith, two-pow-succ l)) (omega arith) in
    rw e (same_bit (k % 2) (p % 2) (2 ^ w) _ _ _ (omega arith) rest.0 rest.1)

-- and what stands in the interval is a number of the range
pub reversed_in_range : (l w p k : ℕ) → l ≤ w → p < 2 ^ l → bits_reversed w p ≤ bits_reversed w k →
    bits_reversed w k < bits_reversed w p + 2 ^ (w - l) → InRange l p k
unfolding bits_reversed
reversed_in_range zero w p k h q i j = omega arith
reversed_in_range (suc l) zero p k h q i j = omega arith
reversed_in_range (suc l) (suc w) p k h q i j =
    let e : suc w - suc l ≡ w - l = omega arith in
    let below : p / 2 < 2 ^ l = omega (arith, two-pow-succ l) in
    let j' = rw e at j in
    let b : k % 2 ≡ p % 2 =
    other_bit (k % 2) (p % 2) (2 ^ w) (bits_reversed w (p / 2)) (bits_reversed w (k / 2)) (2 ^ (w - l))
    (omega arith) (omega arith) (reversed_stop l w (p / 2) (omega arith) below) (reversed_below w (k / 2)) i j' in
    let i'' = rw b at i in
    let j'' = rw b at j' in
    let rest : k / 2 % 2 ^ l ≡ p / 2 =
    reversed_in_range l w (p / 2) (k / 2) (omega arith) below (omega arith) (omega arith) in
    omega (arith, mod_split l k)

-- the upper half of a range begins in the middle of its interval
pub reversed_upper : (l w p : ℕ) → l < w → p < 2 ^ l →
    bits_reversed w (p + 2 ^ l) ≡ bits_reversed w p + 2 ^ (w - suc l)
unfolding bits_reversed
reversed_upper zero (suc w) p h q =
    let e : p ≡ 0 = omega arith in
    let f : suc w - suc zero ≡ w = omega arith in
    rw (e, f) (omega (arith, reversed_zero w))
reversed_upper (suc l) (suc w) p h q =
    let e : suc w - suc (suc l) ≡ w - suc l = omega arith in
    let f : (p + 2 ^ suc l) / 2 ≡ p / 2 + 2 ^ l = omega (arith, two-pow-succ l) in
    let g : (p + 2 ^ suc l) % 2 ≡ p % 2 = omega (arith, two-pow-succ l) in
    let rest = reversed_upper l w (p / 2) (omega arith) (omega (arith, two-pow-succ l)) in
    rw (e, f, g) (omega (arith, rest))
reversed_upper l zero p h q = omega arith

high_alone : (b r : ℕ) → b < 2 → r < 1 → bits_reversed 1 (b * 1 + r) ≡ 2 * bits_reversed 0 r + b
unfolding bits_reversed
high_alone b r h g = omega arith

-- the highest bit becomes the lowest
pub reversed_high : (w b r : ℕ) → b < 2 → r < 2 ^ w → bits_reversed (suc w) (b * 2 ^ w + r) ≡ 2 * bits_reversed w r + b
reversed_high zero b r h g = high_alone b r h g
reversed_high (suc w) b r h g = steps b h (reversed_high w b (r / 2) h (omega (arith, two-pow-succ w)))
  where
    twice : (r % 2) * 2 ^ suc w ≡ (r % 2) * 2 ^ w + (r % 2) * 2 ^ w
    twice = rw (two-pow-succ w) (mul-add (r % 2) (2 ^ w) (2 ^ w))

    steps : (b : ℕ) → b < 2 → bits_reversed (suc w) (b * 2 ^ w + r / 2) ≡ 2 * bits_reversed w (r / 2) + b →
        bits_reversed (suc (suc w)) (b * 2 ^ suc w + r) ≡ 2 * bits_reversed (suc w) r + b
    steps zero h rest =
        let low : (zero * 2 ^ suc w + r) % 2 ≡ r % 2 = omega (arith, two-pow-succ w) in
        let high : (zero * 2 ^ suc w + r) / 2 ≡ zero * 2 ^ w + r / 2 = omega (arith, two-pow-succ w) in
        rw (reversed_step (suc w) (zero * 2 ^ suc w + r), low, high, rest, reversed_step w r) (omega (arith, twice))
    steps (suc zero) h rest =
        let low : (1 * 2 ^ suc w + r) % 2 ≡ r % 2 = omega (arith, two-pow-succ w) in
        let high : (1 * 2 ^ suc w + r) / 2 ≡ 1 * 2 ^ w + r / 2 = omega (arith, two-pow-succ w) in
        rw (reversed_step (suc w) (1 * 2 ^ suc w + r), low, high, rest, reversed_step w r) (omega (arith, twice))
    steps (suc (suc b)) h rest = omega arith

-- bits reversed twice stand as they stood
pub reversed_twice : (w x : ℕ) → x < 2 ^ w → bits_reversed w (bits_reversed w x) ≡ x
reversed_twice zero x h = omega (arith, reversed_below 0 (bits_reversed 0 x))
reversed_twice (suc w) x h =
    let high = reversed_high w (x % 2) (bits_reversed w (x / 2)) (omega arith) (reversed_below w (x / 2)) in
    rw (reversed_step w x) (high ∙ omega (arith, reversed_twice w (x / 2) (omega (arith, two-pow-succ w))))
