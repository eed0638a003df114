-- The locks of one seat after a grant, a release and a conversion.
use Rattle.std.proofs.Common.{arith, ◌≡◌, ◌≢◌, ◌⊎◌, ℕ, zero, suc, ◌<◌, Bool, true, false, not, nat_lt, if◌then◌else◌}
use Rattle.std.proofs.Common.{List, [], ◌∷◌, ◌++◌, length, get_or, Option, Some, None, refl, sym, ap, ◌∙◌, inl, inr, true≢false}
use Rattle.std.specs.List.{position, position_or_len, remove}
use Rattle.std.specs.Option.{option_map}
use Rattle.std.proofs.lemmas.Bool.{cases_Bool, ltb-false, not-true}
use Rattle.std.proofs.lemmas.List.{get_or-map, length-map}
use Rattle.std.proofs.lemmas.List.Kept.{AllPairs-filter}
use Rattle.std.proofs.lemmas.List.Quantifiers.{all_pairs_push, position-Some}
use Rattle.std.proofs.lemmas.List.Sums.{prefix_len_passes}
use Rattle.page_locks.specs.declared.lock.Lock.{Lock}
use Rattle.page_locks.specs.declared.lock.LockKind.{LockKind}
use Rattle.page_locks.specs.declared.lock.LockKind.TheVariants.{Read}
use Rattle.page_locks.specs.declared.lock.LockName.{LockName}
use Rattle.page_locks.specs.Locks.{is_same, is_on, in_kind, lock_of, kind_of, without, converted, HasNoNameTwice}
use Rattle.page_locks.proofs.NameLemmas.{is_same-itself, is_same-true, is_same-false}

-- the names of two locks differ
abbrev AreApart : Lock → Lock → Type 0
AreApart a b = a.name ≢ b.name

-- the first kind that there is
abbrev pub first_kind : Option LockKind → Option LockKind → Option LockKind
first_kind (Some k) other = Some k
first_kind None other = other

pub kind_of-append : (xs ys : List Lock) (n : LockName) →
    kind_of (xs ++ ys) n ≡ first_kind (kind_of xs n) (kind_of ys n)
kind_of-append [] ys n = refl
kind_of-append (x ∷ xs) ys n = elim (cases_Bool (is_on n x)) [
  | inl on ↦ rw on refl
  | inr off ↦ rw off (kind_of-append xs ys n)
]

-- a lock before those that have been compared
same_before : (n : LockName) (x : Lock) (xs ys : List Lock) → kind_of xs n ≡ kind_of ys n →
    kind_of (x ∷ xs) n ≡ kind_of (x ∷ ys) n
same_before n x xs ys same = ap (λ (o : Option LockKind). if is_on n x then Some x.kind else o) same

-- a lock on a name is on no other
only_on : (name n : LockName) (x : Lock) → name ≢ n → is_on name x ≡ true → is_on n x ≡ false
only_on name n x other on = is_same-false x.name n (λ e. other (sym (is_same-true x.name name on) ∙ e))

-- where a name is not held, the first lock is not on it, nor is a later one
passed : (b : Bool) (k : LockKind) (o : Option LockKind) → (if b then Some k else o) ≡ None → (b ≡ false) × (o ≡ None)
passed true k o e = absurd cc
passed false k o e = (refl, e)

pub not_on : (xs : List Lock) (n : LockName) → kind_of xs n ≡ None →
    (k : ℕ) (d : Lock) → k < length xs → (get_or xs k d).name ≢ n
not_on [] n free k d within same = absurd (omega (arith, within))
not_on (x ∷ xs) n free zero d within same =
    let on : is_on n x ≡ true = ap (λ (m : LockName). is_same m n) same ∙ is_same-itself n in
    true≢false (sym on ∙ (passed (is_on n x) x.kind (kind_of xs n) free).0)
not_on (x ∷ xs) n free (suc k) d within same =
    not_on xs n (passed (is_on n x) x.kind (kind_of xs n) free).1 k d (omega (arith, within)) same

module _ (name : LockName) where
  -- a release takes the name away
  pub kind_of-without : (xs : List Lock) → kind_of (without xs name) name ≡ None
  kind_of-without [] = refl
  kind_of-without (x ∷ xs) = elim (cases_Bool (is_on name x)) [
    | inl on ↦ rw on (kind_of-without xs)
    | inr off ↦ rw off (rw off (kind_of-without xs))
  ]

  -- and leaves every other as it is held
  pub kind_of-without_other : (xs : List Lock) (n : LockName) → name ≢ n → kind_of (without xs name) n ≡ kind_of xs n
  kind_of-without_other [] n other = refl
  kind_of-without_other (x ∷ xs) n other = elim (cases_Bool (is_on name x)) [
    | inl on ↦ rw (on, only_on name n x other on) (kind_of-without_other xs n other)
    | inr off ↦ rw off (same_before n x (without xs name) xs (kind_of-without_other xs n other))
  ]

  -- what is held after a release was held before it
  pub kind_of-without_was : (xs : List Lock) (n : LockName) (k : LockKind) →
      kind_of (without xs name) n ≡ Some k → kind_of xs n ≡ Some k
  kind_of-without_was xs n k held = elim (cases_Bool (is_same name n)) [
    | inl e ↦
        let gone : kind_of (without xs name) n ≡ None =
        ap (kind_of (without xs name)) (sym (is_same-true name n e)) ∙ kind_of-without xs
        in
        absurd cc
    | inr e ↦
        let other : name ≢ n = λ same. true≢false (sym (ap (is_same name) (sym same) ∙ is_same-itself name) ∙ e) in
        sym (kind_of-without_other xs n other) ∙ held
  ]

  pub HasNoNameTwice-without : (xs : List Lock) → HasNoNameTwice xs → HasNoNameTwice (without xs name)
  HasNoNameTwice-without xs once = AllPairs-filter AreApart (λ lock. not (is_on name lock)) xs once

  module _ (kind : LockKind) where
    -- a name held after a grant was held before, or is the one granted
    pub kind_of-push : (xs : List Lock) (n : LockName) (k : LockKind) →
        kind_of (xs ++ lock_of name kind ∷ []) n ≡ Some k → (kind_of xs n ≡ Some k) ⊎ ((name ≡ n) × (kind ≡ k))
    kind_of-push xs n k held =
        either (kind_of xs n) (is_same name n) refl (sym (kind_of-append xs (lock_of name kind ∷ []) n) ∙ held)
      where
        either : (o : Option LockKind) (b : Bool) → is_same name n ≡ b →
            first_kind o (if b then Some kind else None) ≡ Some k → (o ≡ Some k) ⊎ ((name ≡ n) × (kind ≡ k))
        either (Some old) b is e = inl e
        either None true is e = inr (is_same-true name n is, cc)
        either None false is e = absurd cc

    pub HasNoNameTwice-push : (xs : List Lock) → HasNoNameTwice xs → kind_of xs name ≡ None →
        HasNoNameTwice (xs ++ lock_of name kind ∷ [])
    HasNoNameTwice-push xs once free = all_pairs_push AreApart xs (lock_of name kind) once (not_on xs name free)

    -- a conversion gives the name its new kind, where it is held
    pub kind_of-converted : (xs : List Lock) →
        kind_of (converted xs name kind) name ≡ option_map (λ _. kind) (kind_of xs name)
    kind_of-converted [] = refl
    kind_of-converted (x ∷ xs) = elim (cases_Bool (is_on name x)) [
      | inl on ↦ rw on (rw on refl)
      | inr off ↦ rw off (rw off (kind_of-converted xs))
    ]

    -- and leaves every other as it is held
    pub kind_of-converted_other : (xs : List Lock) (n : LockName) → name ≢ n →
        kind_of (converted xs name kind) n ≡ kind_of xs n
    kind_of-converted_other [] n other = refl
    kind_of-converted_other (x ∷ xs) n other = elim (cases_Bool (is_on name x)) [
      | inl on ↦ rw on (rw (only_on name n x other on) (kind_of-converted_other xs n other))
      | inr off ↦ rw off (same_before n x (converted xs name kind) xs (kind_of-converted_other xs n other))
    ]

    -- a name held after a conversion was held as it is, or is the one converted
    pub kind_of-converted_was : (xs : List Lock) (n : LockName) (k : LockKind) →
        kind_of (converted xs name kind) n ≡ Some k → (kind_of xs n ≡ Some k) ⊎ ((name ≡ n) × (kind ≡ k))
    kind_of-converted_was xs n k held = elim (cases_Bool (is_same name n)) [
      | inl e ↦
          let same = is_same-true name n e in
          let there = sym (kind_of-converted xs) ∙ ap (kind_of (converted xs name kind)) same ∙ held in
          inr (same, new_kind (kind_of xs name) there)
      | inr e ↦
          let other : name ≢ n = λ same. true≢false (sym (ap (is_same name) (sym same) ∙ is_same-itself name) ∙ e) in
          inl (sym (kind_of-converted_other xs n other) ∙ held)
    ]
      where
        new_kind : (o : Option LockKind) → option_map (λ _. kind) o ≡ Some k → kind ≡ k
        new_kind None e = absurd cc
        new_kind (Some old) e = cc

    -- a conversion leaves each name
    in_kind-name : (x : Lock) → (in_kind name kind x).name ≡ x.name
    in_kind-name x = elim (cases_Bool (is_on name x)) [ inl on ↦ rw on refl | inr off ↦ rw off refl ]

    pub HasNoNameTwice-converted : (xs : List Lock) → HasNoNameTwice xs → HasNoNameTwice (converted xs name kind)
    HasNoNameTwice-converted xs once i j d below within same =
        let inside : j < length xs = omega (arith, length-map xs (in_kind name kind)) in
        let name_at : (k : ℕ) → k < length xs → (get_or (converted xs name kind) k d).name ≡ (get_or xs k d).name =
        λ k lt.
        ap (λ (x : Lock). x.name) (get_or-map (in_kind name kind) xs k d d lt) ∙ in_kind-name (get_or xs k d)
        in
        once i j d below inside (sym (name_at i (omega arith)) ∙ same ∙ name_at j inside)

-- where no lock is on the name, all stay
without-none : (xs : List Lock) (name : LockName) →
    ((k : ℕ) (d : Lock) → k < length xs → is_on name (get_or xs k d) ≡ false) → without xs name ≡ xs
without-none [] name none = refl
without-none (x ∷ xs) name none =
    let off : is_on name x ≡ false = none 0 x (omega arith) in
    rw off (ap (λ (rest : List Lock). x ∷ rest) (without-none xs name (λ k d lt. none (suc k) d (omega (arith, lt)))))

-- the one lock on a name is taken out
without-at : (xs : List Lock) (name : LockName) (i : ℕ) → i < length xs → HasNoNameTwice xs →
    ((d : Lock) → is_on name (get_or xs i d) ≡ true) → remove xs i ≡ without xs name
without-at [] name i lt once on = absurd (omega (arith, lt))
without-at (x ∷ xs) name zero lt once on =
    let here : is_on name x ≡ true = on x in
    rw here (sym (without-none xs name (λ k d k_lt.
    is_same-false (get_or xs k d).name name (λ same.
    once 0 (suc k) d (omega arith) (omega (arith, k_lt)) (is_same-true x.name name here ∙ sym same)))))
without-at (x ∷ xs) name (suc i) lt once on =
    let off : is_on name x ≡ false =
    is_same-false x.name name (λ same.
    once 0 (suc i) x (omega arith) lt (same ∙ sym (is_same-true (get_or xs i x).name name (on x))))
    in
    rw off (ap (λ (rest : List Lock). x ∷ rest)
    (without-at xs name i (omega (arith, lt))
    (λ a b d below b_lt. once (suc a) (suc b) d (omega (arith, below)) (omega (arith, b_lt))) on))

pub without-first : (xs : List Lock) (name : LockName) (i : ℕ) → HasNoNameTwice xs →
    position (is_on name) xs ≡ Some i → remove xs i ≡ without xs name
without-first xs name i once at =
    let first = λ (d : Lock). position-Some (is_on name) xs i d at in
    let none : Lock = lock_of name Read in
    without-at xs name i (first none).0 once (λ d. (first d).1)

-- where no lock is found none is on the name
not_found : (b : Bool) (i : ℕ) → (if b then Some i else None) ≡ None → b ≡ false
not_found true i e = absurd cc
not_found false i e = refl

pub without-absent : (xs : List Lock) (name : LockName) → position (is_on name) xs ≡ None → without xs name ≡ xs
without-absent xs name none =
    let first = position_or_len (is_on name) xs in
    let past = ltb-false first (length xs) (not_found (nat_lt first (length xs)) first none) in
    without-none xs name (λ k d lt.
    not-true (is_on name (get_or xs k d))
    (prefix_len_passes (λ (x : Lock). not (is_on name x)) xs k d (omega (arith, lt, past))))
