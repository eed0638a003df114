-- What stands beside an element of a list, when another goes; and what searches find then.
use Rattle.queue_model.proofs.ListLemmas.{find-None, position_None}
use Rattle.std.proofs.lemmas.Bool.{cases_lt}
use Rattle.std.proofs.Common.{subst, inl, inr, ◌⊎◌, Bool, List, None, Option, Some, [], ap, arith, cond, false, get_or, length, refl, suc, sym, true, zero, ℕ, ◌-◌, ◌<◌, ◌∙◌, ◌∷◌, ◌≡◌, ◌≤◌}
use Rattle.std.proofs.lemmas.List.Edits.{length-remove}
use Rattle.std.proofs.lemmas.List.Quantifiers.{all_pairs_remove}
use Rattle.std.proofs.lemmas.List.Sums.{position_or_len_is}
use Rattle.std.proofs.lemmas.Option.{get_or_from_slice_get, same_Some, slice_get_within}
use Rattle.std.specs.List.{AllPairs, Contains, filter, find, position_or_len, remove}
use Rattle.std.specs.Prelude.{slice_get, ◌≢◌}
use Rattle.type_chains.specs.Neighbours.{before, before_place, behind, first_of, last_of}

-- ---- places of a list without one

-- below the place that goes the elements stay
pub get_below : {X : Type 0} (xs : List X) (i k : ℕ) → k < i → slice_get (remove xs i) k ≡ slice_get xs k
get_below [] zero k below = refl
get_below [] (suc i) k below = refl
get_below (x ∷ xs) zero k below = absurd (omega (arith, below))
get_below (x ∷ xs) (suc i) zero below = refl
get_below (x ∷ xs) (suc i) (suc k) below = get_below xs i k (omega (arith, below))

-- from there on each moves down by one
pub get_above : {X : Type 0} (xs : List X) (i k : ℕ) → i ≤ k → slice_get (remove xs i) k ≡ slice_get xs (suc k)
get_above [] zero k above = refl
get_above [] (suc i) k above = refl
get_above (x ∷ xs) zero k above = refl
get_above (x ∷ xs) (suc i) zero above = absurd (omega (arith, above))
get_above (x ∷ xs) (suc i) (suc k) above = get_above xs i k (omega (arith, above))

pub before_below : {X : Type 0} (xs : List X) (i k : ℕ) → k ≤ i → before_place (remove xs i) k ≡ before_place xs k
before_below xs i zero below = refl
before_below xs i (suc j) below = get_below xs i j (omega (arith, below))

-- ---- what stands beside an element that stands at a place, where a test tells it from those before it

-- each two elements are told apart by their tests
abbrev pub AreToldApart : {X : Type 0} → (X → X → Bool) → List X → Type 0
AreToldApart {X} is xs = AllPairs (λ (a b : X). (is b a ≡ false) × (is a b ≡ false)) xs

pub first_at : {X : Type 0} (is : X → X → Bool) (xs : List X) (k : ℕ) (x : X) → AreToldApart is xs →
    is x x ≡ true → slice_get xs k ≡ Some x → position_or_len (is x) xs ≡ k
first_at is xs k x apart self at =
    let within = slice_get_within xs k x at in
    let it : get_or xs k x ≡ x = get_or_from_slice_get xs k x x at in
    position_or_len_is (is x) xs k x (omega (arith, within))
    (λ j below. let two = (apart j k x below within).0 in rw it at two)
    (λ inside. rw it self)

module _ {X : Type 0} (is : X → X → Bool) (xs : List X) (i : ℕ) (x : X) (apart : AreToldApart is xs)
    (its_own : (y : X) → is y y ≡ true) (at_i : slice_get xs i ≡ Some x) where
  abbrev left : List X
  left = remove xs i

  left_apart : AreToldApart is left
  left_apart = all_pairs_remove (λ (a b : X). (is b a ≡ false) × (is a b ≡ false)) xs i
      (slice_get_within xs i x at_i) apart

  -- what stands beside the one that goes
  pub before_it : before (is x) xs ≡ before_place xs i
  before_it = ap (before_place xs) (first_at is xs i x apart (its_own x) at_i)

  pub behind_it : behind (is x) xs ≡ slice_get xs (suc i)
  behind_it = ap (λ (k : ℕ). slice_get xs (suc k)) (first_at is xs i x apart (its_own x) at_i)

  -- those of an element at another place
  module _ (k : ℕ) (y : X) (at_k : slice_get xs k ≡ Some y) where
    was_at : position_or_len (is y) xs ≡ k
    was_at = first_at is xs k y apart (its_own y) at_k

    below_at : k < i → position_or_len (is y) left ≡ k
    below_at sooner = first_at is left k y left_apart (its_own y) (get_below xs i k sooner ∙ at_k)

    above_at : (j : ℕ) → suc j ≡ k → i ≤ j → position_or_len (is y) left ≡ j
    above_at j same later =
        first_at is left j y left_apart (its_own y) (get_above xs i j later ∙ ap (slice_get xs) same ∙ at_k)

    below_same : k < i → before (is y) left ≡ before (is y) xs
    below_same less = ap (before_place left) (below_at less) ∙ before_below xs i k (omega (arith, less))
        ∙ sym (ap (before_place xs) was_at)

    -- what stands before it stays but where that is the one that goes
    pub before_other : k ≢ i → k ≢ suc i → before (is y) left ≡ before (is y) xs
    before_other here next = by k refl
      where
        above : (j : ℕ) → i < j → before_place left j ≡ before_place xs (suc j)
        above zero less = absurd (omega (arith, less))
        above (suc n) less = get_above xs i n (omega (arith, less))

        by : (n : ℕ) → n ≡ k → before (is y) left ≡ before (is y) xs
        by zero same = below_same (omega (arith, same, here))
        by (suc j) same = elim (cases_lt (suc j) i) [
          | inl less ↦ below_same (omega (arith, same, less))
          | inr more ↦ ap (before_place left) (above_at j same (omega (arith, more, same, here)))
              ∙ above j (omega (arith, more, same, here, next)) ∙ ap (before_place xs) (same ∙ sym was_at)
        ]

    -- so does what stands behind it
    pub behind_other : k ≢ i → suc k ≢ i → behind (is y) left ≡ behind (is y) xs
    behind_other here previous = by k refl
      where
        below : k < i → behind (is y) left ≡ behind (is y) xs
        below less = ap (λ (j : ℕ). slice_get left (suc j)) (below_at less)
            ∙ get_below xs i (suc k) (omega (arith, less, previous))
            ∙ sym (ap (λ (j : ℕ). slice_get xs (suc j)) was_at)

        by : (n : ℕ) → n ≡ k → behind (is y) left ≡ behind (is y) xs
        by zero same = below (omega (arith, same, here))
        by (suc j) same = elim (cases_lt (suc j) i) [
          | inl less ↦ below (omega (arith, same, less))
          | inr more ↦ ap (λ (n : ℕ). slice_get left (suc n)) (above_at j same (omega (arith, more, same, here)))
              ∙ get_above xs i (suc j) (omega (arith, more, same, here))
              ∙ ap (λ (n : ℕ). slice_get xs (suc n)) (same ∙ sym was_at)
        ]

    -- the one before it is followed by the one behind it, which follows the one before it
    pub behind_previous : suc k ≡ i → behind (is y) left ≡ behind (is x) xs
    behind_previous here = ap (λ (j : ℕ). slice_get left (suc j)) (below_at (omega (arith, here)))
        ∙ get_above xs i (suc k) (omega (arith, here))
        ∙ ap (λ (j : ℕ). slice_get xs (suc j)) here
        ∙ sym behind_it

    pub before_next : k ≡ suc i → before (is y) left ≡ before (is x) xs
    before_next here = ap (before_place left) (above_at i (sym here) (omega arith))
        ∙ before_below xs i i (omega arith) ∙ sym before_it

-- another place is next to one, or far from it
pub beside : (i k : ℕ) → k ≢ i → (suc k ≡ i) ⊎ (k ≡ suc i) ⊎ ((k ≢ suc i) × (suc k ≢ i))
beside i k other = elim (cases_lt (suc k) i) [
  | inl sooner ↦ inr (inr (omega (arith, sooner), omega (arith, sooner)))
  | inr near ↦ elim (cases_lt k i) [
    | inl below ↦ inl (omega (arith, near, below))
    | inr above ↦ elim (cases_lt (suc i) k) [
      | inl later ↦ inr (inr (omega (arith, later), omega (arith, later)))
      | inr next ↦ inr (inl (omega (arith, above, next, other)))
    ]
  ]
]

-- what stands around a place is related where each two elements are
pub around : {X : Type 0} (R : X → X → Type 0) (xs : List X) → AllPairs R xs → (i : ℕ) (p n : X) →
    before_place xs i ≡ Some p → slice_get xs (suc i) ≡ Some n → R p n
around R xs pairs zero p n sooner later = absurd cc
around {X} R xs pairs (suc k) p n sooner later =
    let within = slice_get_within xs (suc (suc k)) n later in
    let one = get_or_from_slice_get xs k p p sooner in
    let two = get_or_from_slice_get xs (suc (suc k)) n p later in
    subst (R p) two
    (subst (λ (y : X). R y (get_or xs (suc (suc k)) p)) one (pairs k (suc (suc k)) p (omega arith) within))

pub stands_before : {X : Type 0} (xs : List X) (i : ℕ) (p : X) → before_place xs i ≡ Some p → Contains xs p
stands_before xs zero p is = absurd cc
stands_before xs (suc k) p is = (k, slice_get_within xs k p is, get_or_from_slice_get xs k p p is)

-- ---- both ends

pub first_left : {X : Type 0} (xs : List X) (i : ℕ) → 0 < i → first_of (remove xs i) ≡ first_of xs
first_left xs i above = get_below xs i 0 above

pub first_after : {X : Type 0} (xs : List X) → first_of (remove xs 0) ≡ slice_get xs 1
first_after xs = get_above xs 0 0 (omega arith)

pub last_left : {X : Type 0} (xs : List X) (i : ℕ) → suc i < length xs → last_of (remove xs i) ≡ last_of xs
last_left xs i within =
    let fewer = length-remove xs i (omega (arith, within)) in
    let place : length (remove xs i) - 1 ≡ length xs - 2 = omega (arith, fewer) in
    let next : suc (length xs - 2) ≡ length xs - 1 = omega (arith, within) in
    ap (slice_get (remove xs i)) place ∙ get_above xs i (length xs - 2) (omega (arith, within)) ∙ ap (slice_get xs) next

pub last_before : {X : Type 0} (xs : List X) (i : ℕ) → i < length xs → suc i ≡ length xs →
    last_of (remove xs i) ≡ before_place xs i
last_before [] i within end = absurd (omega (arith, within))
last_before (x ∷ []) zero within end = refl
last_before (x ∷ y ∷ ys) zero within end = absurd (omega (arith, end))
last_before (x ∷ xs) (suc i) within end =
    let fewer = length-remove (x ∷ xs) (suc i) within in
    let place : length (remove (x ∷ xs) (suc i)) - 1 ≡ i = omega (arith, fewer, end) in
    ap (slice_get (remove (x ∷ xs) (suc i))) place ∙ get_below (x ∷ xs) (suc i) i (omega arith)

-- ---- searches

-- an element that is passed over may go
pub find_without : {X : Type 0} (test : X → Bool) (xs : List X) (i : ℕ) (x : X) → slice_get xs i ≡ Some x →
    test x ≡ false → find test (remove xs i) ≡ find test xs
find_without test [] zero x at over = refl
find_without test [] (suc i) x at over = refl
find_without test (y ∷ ys) zero x at over =
    let same : y ≡ x = same_Some y x at in
    let passed : test y ≡ false = ap test same ∙ over in
    rw passed refl
find_without {X} test (y ∷ ys) (suc i) x at over =
    ap (λ (rest : Option X). cond (test y) (Some y) rest) (find_without test ys i x at over)

-- likewise in a filter
pub filter_without : {X : Type 0} (test : X → Bool) (xs : List X) (i : ℕ) (x : X) → slice_get xs i ≡ Some x →
    test x ≡ false → filter test (remove xs i) ≡ filter test xs
filter_without test [] zero x at over = refl
filter_without test [] (suc i) x at over = refl
filter_without test (y ∷ ys) zero x at over =
    let same : y ≡ x = same_Some y x at in
    let passed : test y ≡ false = ap test same ∙ over in
    rw passed refl
filter_without {X} test (y ∷ ys) (suc i) x at over =
    ap (λ (rest : List X). cond (test y) (y ∷ rest) rest) (filter_without test ys i x at over)

-- the first that passes is the head of a filter
pub filter_first : {X : Type 0} (test : X → Bool) (xs : List X) (i : ℕ) (x : X) → slice_get xs i ≡ Some x →
    test x ≡ true → ((k : ℕ) (d : X) → k < i → test (get_or xs k d) ≡ false) →
    filter test xs ≡ x ∷ filter test (remove xs i)
filter_first test [] zero x at passes none = absurd cc
filter_first test [] (suc i) x at passes none = absurd cc
filter_first {X} test (y ∷ ys) zero x at passes none =
    let same : y ≡ x = same_Some y x at in
    let kept : test y ≡ true = ap test same ∙ passes in
    rw kept (ap (λ (z : X). z ∷ filter test ys) same)
filter_first test (y ∷ ys) (suc i) x at passes none =
    let over : test y ≡ false = none zero y (omega arith) in
    rw over (filter_first test ys i x at passes (λ k d below. none (suc k) d (omega (arith, below))))

-- where no element but the one that goes passes, none is found
pub find_none_left : {X : Type 0} (test : X → Bool) (xs : List X) (i : ℕ) → i < length xs →
    ((k : ℕ) (d : X) → k < length xs → k ≢ i → test (get_or xs k d) ≡ false) → find test (remove xs i) ≡ None
find_none_left test [] i within none = absurd (omega (arith, within))
find_none_left test (y ∷ ys) zero within none =
    find-None test ys (position_None test ys
    (λ k d inside. none (suc k) d (omega (arith, inside)) (omega arith)))
find_none_left test (y ∷ ys) (suc i) within none =
    let over : test y ≡ false = none zero y (omega arith) (omega arith) in
    rw over (find_none_left test ys i (omega (arith, within))
    (λ k d inside other. none (suc k) d (omega (arith, inside)) (omega (arith, other))))
