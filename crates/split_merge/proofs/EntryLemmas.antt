-- Entries of a range: their distances, and the pages of the directory on which they stand.
use Rattle.std.proofs.Common.{◌≡◌, sym, ap, ◌∙◌, ℕ, suc, ◌+◌, ◌*◌, ◌/◌, ◌%◌, ◌^◌, ◌-◌, ◌<◌, ◌≤◌, nat_lt, true, arith, inl, inr}
use Rattle.std.proofs.lemmas.Bool.{cases_Bool, cases_lt, ltb-true}
use Rattle.std.proofs.lemmas.Nat.{le-div, mod_below, pow-add}
use Rattle.std.proofs.Math.Nat.{div-add-mod, div-mul-le_self, mul-le-mul_left, mul-suc, mod-le, two-pow-succ, mod-eq_of_lt}
use Rattle.std.proofs.Math.Pow.{pow_mono}
use Rattle.directory.proofs.RangeLaws.{covers_above, upper_half_valid}
use Rattle.split_merge.specs.MergeWords.{Range, Covers, IsRange, upper_half_of, page_of, Joint}
use Rattle.split_merge.specs.Places.{IsJoint, entry_behind, first_entry}

-- of two numbers that leave the same, one that is less than a whole turn ahead is not ahead
not_ahead : (m i e : ℕ) → i % m ≡ e % m → i < e + m → i ≤ e
not_ahead m i e same below = elim (cases_lt (e / m) (i / m)) [
  | inr low ↦ omega (arith, div-add-mod i m, div-add-mod e m, same, mul-le-mul_left m low)
  | inl high ↦ absurd (let far : m * suc (e / m) ≤ m * (i / m) = mul-le-mul_left m high in
      omega (arith, div-add-mod i m, div-add-mod e m, same, below, far, mul-suc m (e / m)))
]

pub page_mono : (i e : ℕ) → i ≤ e → page_of i ≤ page_of e
page_mono i e less =
    let whole : i / 512 * 512 ≤ e = omega (arith, div-mul-le_self i 512, less) in
    let below : i / 512 ≤ e / 512 = le-div (i / 512) e 512 (omega arith) whole in
    omega (arith, below)

-- a page holds 512 entries
pub page_steps : (e : ℕ) → page_of (e + 512) ≡ suc (page_of e)
page_steps e = omega (
  arith,
  div-add-mod e 512,
  mod_below e 512 (omega arith),
  div-add-mod (e + 512) 512,
  mod_below (e + 512) 512 (omega arith),
)

-- the pages of a directory of a depth
pub page_within : (i depth : ℕ) → depth ≤ 17 → i < 2 ^ depth → page_of i < 257
page_within i depth shallow below =
    let most : 2 ^ depth ≤ 2 ^ 17 = pow_mono {i = depth} {j = 17} shallow in
    let few : i < 131072 = omega (arith, below, most) in
    omega (arith, few, div-add-mod i 512)

module _ (j : Joint) (h : IsJoint j) where
  abbrev upper : Range
  upper = upper_half_of j.whole

  pub upper_valid : IsRange upper
  upper_valid = upper_half_valid j.whole h.whole h.shallow

  width : 2 ^ upper.depth ≡ 2 * 2 ^ j.whole.depth
  width = let is : 2 ^ suc j.whole.depth ≡ 2 * 2 ^ j.whole.depth = omega (arith, two-pow-succ j.whole.depth) in is

  -- the first entry is of the range, and none stands before it
  pub first_covered : Covers upper (first_entry j)
  first_covered = mod_same upper.pattern (2 ^ upper.depth) upper_valid.below
    where
      mod_same : (n m : ℕ) → n < m → n % m ≡ n
      mod_same n m less = mod-eq_of_lt less

  pub first_is_first : (i : ℕ) → Covers upper i → page_of (first_entry j) ≤ page_of i
  first_is_first i covers = page_mono (first_entry j) i (omega (arith, covers, mod-le i (2 ^ upper.depth)))

  module _ (e : ℕ) (covered : Covers upper e) where
    -- the next one is of the range too
    pub behind_covered : Covers upper (entry_behind j e)
    behind_covered = elim (cases_Bool (nat_lt (2 * 2 ^ j.whole.depth) 512)) [
      | inl short ↦ rw short (covers_above upper 9 e (few short) covered)
      | inr long ↦ rw (long, ← width) (covers_above upper upper.depth e (omega arith) covered)
    ]
      where
        few : nat_lt (2 * 2 ^ j.whole.depth) 512 ≡ true → upper.depth ≤ 9
        few short = elim (cases_lt 9 upper.depth) [
          | inr low ↦ low
          | inl high ↦ absurd (let most : 2 ^ 10 ≤ 2 ^ upper.depth = pow_mono {i = 10} {j = upper.depth} high in
              let less = ltb-true (2 * 2 ^ j.whole.depth) 512 short in
              omega (arith, most, less, width))
        ]

    -- between the two no page has any
    pub none_between : (i : ℕ) → Covers upper i → page_of i < page_of (entry_behind j e) → page_of i < suc (page_of e)
    none_between i covers before = elim (cases_Bool (nat_lt (2 * 2 ^ j.whole.depth) 512)) [
      | inl short ↦ (let before' = rw short at before in omega (arith, before', page_steps e))
      | inr long ↦ (let before' = rw long at before in
          elim (cases_lt i (e + 2 * 2 ^ j.whole.depth)) [
            | inl below ↦ omega (
              arith,
              page_mono i e (not_ahead (2 ^ upper.depth) i e (covers ∙ sym covered)
                  (omega (arith, below, width))),
            )
            | inr far ↦ absurd (omega (arith, before', page_mono (e + 2 * 2 ^ j.whole.depth) i far))
          ])
    ]

    -- and behind the last one none
    pub none_behind : (i depth : ℕ) → Covers upper i → i < 2 ^ depth → 2 ^ depth ≤ entry_behind j e →
        page_of i < suc (page_of e)
    none_behind i depth covers low past = elim (cases_Bool (nat_lt (2 * 2 ^ j.whole.depth) 512)) [
      | inl short ↦ (let past' = rw short at past in on_page depth (omega (arith, past')) low)
      | inr long ↦ (let past' = rw long at past in
          omega (
            arith,
            page_mono i e (not_ahead (2 ^ upper.depth) i e (covers ∙ sym covered)
                (omega (arith, low, past', width))),
          ))
    ]
      where
        on_page : (d : ℕ) → 2 ^ d ≤ e + 512 → i < 2 ^ d → page_of i < suc (page_of e)
        on_page d past low = elim (cases_lt d 9) [
          | inl small ↦ (let most : 2 ^ suc d ≤ 2 ^ 9 = pow_mono {i = suc d} {j = 9} small in
              omega (arith, low, most, two-pow-succ d, div-add-mod i 512))
          | inr large ↦ (let is : 2 ^ d ≡ 512 * 2 ^ (d - 9) = split d large in
              omega (
                arith,
                rw is at past,
                rw is at low,
                div-add-mod i 512,
                div-add-mod e 512,
                mod_below e 512 (omega arith),
              ))
        ]
          where
            split : (d : ℕ) → 9 ≤ d → 2 ^ d ≡ 512 * 2 ^ (d - 9)
            split d large =
                let e : d ≡ 9 + (d - 9) = omega arith in
                ap (λ (x : ℕ). 2 ^ x) e ∙ pow-add 2 9 (d - 9)
