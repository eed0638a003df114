-- Who holds a name once a seat's bit was set or cleared, and which seat that is.
use Rattle.std.proofs.Common.{arith, ◌≡◌, ◌≢◌, ℕ, zero, suc, ◌*◌, ◌-◌, ◌/◌, ◌%◌, ◌^◌, ◌<◌, ◌≤◌, bit_and, bit_or, w64}
use Rattle.std.proofs.Common.{Bool, true, false, nat_eq, if◌then◌else◌, Option, Some, None, refl, sym, ap, ◌∙◌, inl, inr}
use Rattle.std.specs.Int.{bit_at, bit_not, trailing_zeros}
use Rattle.std.proofs.lemmas.Bool.{cases_Bool, cases_lt, cases_eq, eq-eqb, ne_eqb, eqb-false, both_ways}
use Rattle.std.proofs.Math.Numerals.{sub-one}
use Rattle.std.proofs.lemmas.Nat.{and_le_l}
use Rattle.std.proofs.lemmas.Nat.Bits.{bit_at_and, bit_at_above, bit_at_clear_same, bit_at_clear_other, bit_at_set_same, bit_at_set_other, bit_at-zero, bit_at-trailing_zeros, bit_at_lowest, bit_at-suc}
use Rattle.std.proofs.lemmas.Bool.Decides.{nat_tests}
use Rattle.page_locks.specs.declared.holders.Holders.{Holders}
use Rattle.page_locks.specs.declared.lock.LockKind.{LockKind}
use Rattle.page_locks.specs.declared.lock.LockKind.TheVariants.{Read, Selective, Exclusive}
use Rattle.page_locks.specs.Holding.{nobody, is_nobody, kind_at, reads, ChangesSeat}

-- a word with one of its bits cleared
module _ (n k : ℕ) (small : n < 2 ^ 64) (within : k < 64) where
  abbrev cleared : ℕ
  cleared = bit_and n (bit_not w64 (1 * 2 ^ k % 2 ^ 64))

  pub bit_at-cleared : bit_at cleared k ≡ 0
  bit_at-cleared = bit_at_clear_same w64 n k within

  pub bit_at-cleared_other : (i : ℕ) → i ≢ k → bit_at cleared i ≡ bit_at n i
  bit_at-cleared_other i apart = elim (cases_lt i 64) [
    | inl below ↦ bit_at_clear_other w64 n k within i below apart
    | inr above ↦
        let none : bit_at n i ≡ 0 = bit_at_above n 64 i small above in
        omega (arith, bit_at_and n (bit_not w64 (1 * 2 ^ k % 2 ^ 64)) i, none)
  ]

  -- where no bit is left, no other was set
  pub nobody_else : cleared ≡ 0 → (place : ℕ) → place ≢ k → bit_at n place ≡ 0
  nobody_else none place apart =
      sym (bit_at-cleared_other place apart) ∙ ap (λ (x : ℕ). bit_at x place) none ∙ bit_at-zero place

  -- the lowest bit that is left is another, and was set
  pub first_else : cleared ≢ 0 → (trailing_zeros w64 cleared ≢ k) × (bit_at n (trailing_zeros w64 cleared) ≡ 1)
  first_else some =
      let fits : cleared < 2 ^ 64 = omega (arith, and_le_l n (bit_not w64 (1 * 2 ^ k % 2 ^ 64)), small) in
      let first = bit_at-trailing_zeros w64 cleared (omega (arith, some)) fits in
      let another : trailing_zeros w64 cleared ≢ k =
      λ same. let e = ap (bit_at cleared) same in omega (arith, e, first.1, bit_at-cleared)
      in
      (another, sym (bit_at-cleared_other (trailing_zeros w64 cleared) another) ∙ first.1)

-- what is held at a number that is a seat's
abbrev kind_by : Bool → Bool → Bool → Option LockKind
kind_by exclusive selective reads =
    if exclusive then Some Exclusive else if selective then Some Selective else if reads then Some Read else None

kind_at-seat : (h : Holders) (seat : ℕ) → seat ≢ 0 →
    kind_at h seat ≡ kind_by (nat_eq h.exclusive seat) (nat_eq h.selective seat) (reads h seat)
kind_at-seat h seat some = rw (ne_eqb seat 0 some) refl

kind_at-zero : (h : Holders) (seat : ℕ) → seat ≡ 0 → kind_at h seat ≡ None
kind_at-zero h seat none = rw (eq-eqb seat 0 none) refl

-- a seat holds the name in one kind by both, where it stands in both as it does
kind_at-alike : (a b : Holders) (seat : ℕ) → (seat ≢ 0 → nat_eq a.exclusive seat ≡ nat_eq b.exclusive seat) →
    (seat ≢ 0 → nat_eq a.selective seat ≡ nat_eq b.selective seat) →
    (seat ≢ 0 → bit_at a.readers (seat - 1) ≡ bit_at b.readers (seat - 1)) → kind_at a seat ≡ kind_at b seat
kind_at-alike a b seat e s r = elim (cases_eq seat 0) [
  | inl none ↦ kind_at-zero a seat none ∙ sym (kind_at-zero b seat none)
  | inr some ↦
      let same_e = e some in
      let same_s = s some in
      let same_r = ap (λ (x : ℕ). nat_eq x 1) (r some) in
      kind_at-seat a seat some ∙ rw (same_e, same_s, same_r) (sym (kind_at-seat b seat some))
]

-- a number that is not the seat's is so for both
but_for-alike : (old new seat other : ℕ) → (old ≡ seat → new ≡ 0) → (old ≢ seat → new ≡ old) → other ≢ seat →
    other ≢ 0 → nat_eq new other ≡ nat_eq old other
but_for-alike old new seat other own others apart some = elim (cases_eq old seat) [
  | inl same ↦
      let gone = own same in
      ne_eqb new other (λ e. some (sym e ∙ gone)) ∙ sym (ne_eqb old other (λ e. apart (sym e ∙ same)))
  | inr not ↦ ap (λ (x : ℕ). nat_eq x other) (others not)
]

by_none : (e s r : Bool) → kind_by e s r ≡ None → (e ≡ false) × (s ≡ false) × (r ≡ false)
by_none true s r none = absurd cc
by_none false true r none = absurd cc
by_none false false true none = absurd cc
by_none false false false none = (refl, refl, refl)

-- a seat in none of the three places does not hold the name
kind_at-none : (h : Holders) (seat : ℕ) → h.exclusive ≢ seat → h.selective ≢ seat →
    bit_at h.readers (seat - 1) ≡ 0 → kind_at h seat ≡ None
kind_at-none h seat e s r = elim (cases_eq seat 0) [
  | inl none ↦ kind_at-zero h seat none
  | inr some ↦
      let not_e = ne_eqb h.exclusive seat e in
      let not_s = ne_eqb h.selective seat s in
      let not_r : reads h seat ≡ false = ap (λ (x : ℕ). nat_eq x 1) r in
      kind_at-seat h seat some ∙ rw (not_e, not_s, not_r) refl
]

-- a seat that does not hold the name stands nowhere
module _ (h : Holders) (seat : ℕ) (some : seat ≢ 0) (none : kind_at h seat ≡ None) where
  nowhere : (nat_eq h.exclusive seat ≡ false) × (nat_eq h.selective seat ≡ false) × (reads h seat ≡ false)
  nowhere =
      by_none (nat_eq h.exclusive seat) (nat_eq h.selective seat) (reads h seat) (sym (kind_at-seat h seat some) ∙ none)

  not_exclusive : h.exclusive ≢ seat
  not_exclusive = eqb-false h.exclusive seat nowhere.0

  not_selective : h.selective ≢ seat
  not_selective = eqb-false h.selective seat nowhere.1

  not_reading : bit_at h.readers (seat - 1) ≢ 1
  not_reading = eqb-false (bit_at h.readers (seat - 1)) 1 nowhere.2

pred-apart : (seat other : ℕ) → 1 ≤ seat → other ≢ seat → other ≢ 0 → other - 1 ≢ seat - 1
pred-apart seat other some apart is same = apart (omega arith)

module _ (h : Holders) (seat : ℕ) (some : 1 ≤ seat) (few : seat ≤ 64) where
  -- a reader more
  abbrev read : Holders
  read = record h { readers = bit_or h.readers (1 * 2 ^ (seat - 1) % 2 ^ 64) }

  pub ChangesSeat-read : kind_at h seat ≡ None → ChangesSeat seat (Some Read) h read
  ChangesSeat-read fresh =
      let is : seat ≢ 0 = omega arith in
      let within : seat - 1 < 64 = omega arith in
      let at = nowhere h seat is fresh in
      let not_e = at.0 in
      let not_s = at.1 in
      let now : reads read seat ≡ true = ap (λ (x : ℕ). nat_eq x 1) (bit_at_set_same w64 h.readers (seat - 1) within) in
      record {
        own = kind_at-seat read seat is ∙ rw (not_e, not_s, now) refl;
        others = λ other apart. kind_at-alike read h other (λ _. refl) (λ _. refl)
            (λ here. bit_at_set_other w64 h.readers (seat - 1) within (other - 1)
            (pred-apart seat other some apart here));
      }

  -- a seat less
  pub ChangesSeat-without : (readers selective exclusive : ℕ) → h.readers < 2 ^ 64 →
      readers ≡ bit_and h.readers (bit_not w64 (1 * 2 ^ (seat - 1) % 2 ^ 64)) →
      (h.selective ≡ seat → selective ≡ 0) → (h.selective ≢ seat → selective ≡ h.selective) →
      (h.exclusive ≡ seat → exclusive ≡ 0) → (h.exclusive ≢ seat → exclusive ≡ h.exclusive) →
      ChangesSeat seat None h (record { readers = readers; selective = selective; exclusive = exclusive })
  ChangesSeat-without readers selective exclusive small cleared_is s_own s_others e_own e_others =
      let left : Holders = record { readers = readers; selective = selective; exclusive = exclusive } in
      let within : seat - 1 < 64 = omega arith in
      record {
        own = kind_at-none left seat (gone h.exclusive exclusive e_own e_others)
            (gone h.selective selective s_own s_others)
            (ap (λ (x : ℕ). bit_at x (seat - 1)) cleared_is ∙ bit_at-cleared h.readers (seat - 1) small within);
        others = λ other apart. kind_at-alike left h other
            (but_for-alike h.exclusive exclusive seat other e_own e_others apart)
            (but_for-alike h.selective selective seat other s_own s_others apart)
            (λ here. ap (λ (x : ℕ). bit_at x (other - 1)) cleared_is ∙
            bit_at-cleared_other h.readers (seat - 1) small within (other - 1)
            (pred-apart seat other some apart here));
      }
    where
      gone : (old new : ℕ) → (old ≡ seat → new ≡ 0) → (old ≢ seat → new ≡ old) → new ≢ seat
      gone old new own others e = elim (cases_eq old seat) [
        | inl same ↦ omega (arith, own same)
        | inr not ↦ not (sym (others not) ∙ e)
      ]

-- a number that is not 0 has a bit
some_bit : (fuel n : ℕ) → n ≤ fuel → n ≢ 0 → (place : ℕ) × (bit_at n place ≡ 1)
some_bit zero n few some = absurd (some (omega arith))
some_bit (suc fuel) n few some = elim (cases_eq (n % 2) 1) [
  | inl odd ↦ (0, bit_at_lowest n ∙ odd)
  | inr even ↦
      let rest = some_bit fuel (n / 2) (omega arith) (omega arith) in
      (suc rest.0, bit_at-suc n rest.0 ∙ rest.1)
]

-- nobody is there exactly where all three places are empty
is_nobody-parts : (h : Holders) → is_nobody h ≡ true → (h.readers ≡ 0) × (h.selective ≡ 0) × (h.exclusive ≡ 0)
is_nobody-parts h none = grind (arith, nat_tests, none)

is_nobody-from : (h : Holders) → h.readers ≡ 0 → h.selective ≡ 0 → h.exclusive ≡ 0 → is_nobody h ≡ true
is_nobody-from h r s e = rw (eq-eqb h.readers 0 r, eq-eqb h.selective 0 s, eq-eqb h.exclusive 0 e) refl

holders_alike : (a b : Holders) → a.readers ≡ b.readers → a.selective ≡ b.selective → a.exclusive ≡ b.exclusive → a ≡ b
holders_alike a b r s e =
    let made : ℕ → ℕ → ℕ → Holders = λ x y z. record { readers = x; selective = y; exclusive = z } in
    ap (λ (x : ℕ). made x a.selective a.exclusive) r ∙ ap (λ (y : ℕ). made b.readers y a.exclusive) s ∙
    ap (made b.readers b.selective) e

pub nobody-is : (h : Holders) → is_nobody h ≡ true → h ≡ nobody
nobody-is h none =
    let parts = is_nobody-parts h none in
    holders_alike h nobody parts.0 parts.1 parts.2

-- where somebody holds the name, a seat does
pub held_by : (h : Holders) → is_nobody h ≡ false → (seat : ℕ) × (kind_at h seat ≢ None)
held_by h some = elim (cases_eq h.exclusive 0) [
  | inr e ↦ (h.exclusive, λ none. not_exclusive h h.exclusive e none refl)
  | inl no_e ↦ elim (cases_eq h.selective 0) [
    | inr s ↦ (h.selective, λ none. not_selective h h.selective s none refl)
    | inl no_s ↦ elim (cases_eq h.readers 0) [
      | inr r ↦
          let bit = some_bit h.readers h.readers (omega arith) r in
          let at : bit_at h.readers (suc bit.0 - 1) ≡ 1 = ap (bit_at h.readers) (sub-one (suc bit.0)) ∙ bit.1 in
          (suc bit.0, λ none. not_reading h (suc bit.0) (omega arith) none at)
      | inl no_r ↦ absurd (both_ways (is_nobody h) some (is_nobody-from h no_r no_s no_e))
    ]
  ]
]

-- nobody holds what nobody holds
pub kind_at-nobody : (h : Holders) (seat : ℕ) → is_nobody h ≡ true → kind_at h seat ≡ None
kind_at-nobody h seat none = elim (cases_eq seat 0) [
  | inl no_seat ↦ kind_at-zero h seat no_seat
  | inr some ↦
      let parts = is_nobody-parts h none in
      kind_at-none h seat (λ e. some (sym e ∙ parts.2)) (λ s. some (sym s ∙ parts.1))
      (ap (λ (x : ℕ). bit_at x (seat - 1)) parts.0 ∙ bit_at-zero (seat - 1))
]

-- what a seat holds is not nobody's
pub held-somebody : (h : Holders) (seat : ℕ) (kind : LockKind) → kind_at h seat ≡ Some kind → is_nobody h ≡ false
held-somebody h seat kind held = elim (cases_Bool (is_nobody h)) [
  | inl none ↦
      let clash : ◌≡◌ {A = Option LockKind} None (Some kind) = sym (kind_at-nobody h seat none) ∙ held in
      absurd cc
  | inr some ↦ some
]
