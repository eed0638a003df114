-- The page on which the lower half's entries stand, where the directory doubles.
use Rattle.std.proofs.Common.{◌≡◌, ℕ, ◌+◌, ◌-◌, ◌*◌, ◌/◌, ◌^◌, ◌<◌, ◌≤◌, true, leb, ltb, sym, ap, ◌∙◌, arith, ◌⊎◌, inl, inr}
use Rattle.std.proofs.lemmas.Bool.{cases_lt, leb-true, ltb-true}
use Rattle.std.proofs.lemmas.Nat.{pow-add}
use Rattle.std.proofs.Math.Nat.{add-mul-div_right, div-eq_of_lt, mod-lt, pow-le-pow_right}
use Rattle.directory.specs.Entries.{page_of, slot_of, is_upper}
use Rattle.directory.proofs.EntryLaws.{place_of}
use Rattle.numbers.proofs.Tests.{both_true}

-- a half that fits the first page
within_first : (first slot half : ℕ) → slot < 512 → 2 * half ≤ 512 → half ≤ 512 * first + slot
    → 512 * first + slot < 2 * half → (512 * first + slot - half) / 512 ≡ (512 * first - half) / 512
within_first first slot half low fits from to =
    let below : 512 * first + slot - half < 512 = omega (arith, fits, to) in
    let none : 512 * first - half < 512 = omega (arith, fits, to) in
    div-eq_of_lt below ∙ sym (div-eq_of_lt none)

-- a half of whole pages
of_pages : (first slot pages : ℕ) → slot < 512 → 512 * pages ≤ 512 * first + slot
    → (512 * first + slot - 512 * pages) / 512 ≡ (512 * first - 512 * pages) / 512
of_pages first slot pages low from =
    let below : pages ≤ first = omega (arith, low, from) in
    let one : 512 * first + slot - 512 * pages ≡ slot + (first - pages) * 512 = omega (arith, below) in
    let other : 512 * first - 512 * pages ≡ 0 + (first - pages) * 512 = omega (arith, below) in
    let some : 0 < 512 = omega arith in
    ap (λ (k : ℕ). k / 512) one ∙ add-mul-div_right slot (first - pages) some
    ∙ ap (λ (k : ℕ). k + (first - pages)) (div-eq_of_lt low)
    ∙ sym (ap (λ (k : ℕ). k / 512) other ∙ add-mul-div_right 0 (first - pages) some)

half_back : (first slot depth : ℕ) → slot < 512 → 2 ^ depth ≤ 512 * first + slot → 512 * first + slot < 2 * 2 ^ depth
    → (512 * first + slot - 2 ^ depth) / 512 ≡ (512 * first - 2 ^ depth) / 512
half_back first slot depth low from to = by (cases_lt depth 9)
  where
    by : (depth < 9) ⊎ (9 ≤ depth) → (512 * first + slot - 2 ^ depth) / 512 ≡ (512 * first - 2 ^ depth) / 512
    by (inl few) =
        let shallow : depth ≤ 8 = omega (arith, few) in
        let le : 2 ^ depth ≤ 2 ^ 8 = pow-le-pow_right (omega arith) shallow in
        within_first first slot (2 ^ depth) low (omega (arith, le)) from to
    by (inr many) =
        let split : 9 + (depth - 9) ≡ depth = omega (arith, many) in
        let half : 2 ^ depth ≡ 512 * 2 ^ (depth - 9) = ap (λ (k : ℕ). 2 ^ k) (sym split) ∙ pow-add 2 9 (depth - 9) in
        (λ t. (512 * first + slot - half t) / 512)
        ∙ of_pages first slot (2 ^ (depth - 9)) low (omega (arith, half, from))
        ∙ (λ t. (512 * first - sym half t) / 512)

pub lower_half : (i page depth : ℕ) → page_of i ≡ page → is_upper depth i ≡ true
    → page_of (i - 2 ^ depth) ≡ page_of (512 * (page - 1) - 2 ^ depth)
lower_half i page depth on upper =
    let place = place_of i page on in
    let both = both_true (leb (2 ^ depth) i) (ltb i (2 * 2 ^ depth)) upper in
    let from : 2 ^ depth ≤ i = leb-true _ _ both.0 in
    let to : i < 2 * 2 ^ depth = ltb-true _ _ both.1 in
    let low : slot_of i < 512 = mod-lt i (omega arith) in
    ap (λ (k : ℕ). page_of (k - 2 ^ depth)) (sym place)
    ∙ ap (λ (k : ℕ). 1 + k)
    (half_back (page - 1) (slot_of i) depth low (omega (arith, place, from)) (omega (arith, place, to)))
