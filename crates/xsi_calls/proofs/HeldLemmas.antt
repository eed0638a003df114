-- Lists of names and of records, and what is asked all.
use Rattle.std.proofs.Common.{◌≡◌, refl, sym, ℕ, zero, suc, Bool, true, false, not, ◌&&◌, ◌||◌, List, [], ◌∷◌, Option, Some, None, IsSome, if◌then◌else◌, arith}
use Rattle.std.proofs.lemmas.Bool.{true≢false}
use Rattle.std.specs.List.{Contains}
use Rattle.std.specs.Option.{is_some}
use Rattle.std.specs.Prelude.{slice_get}
use Rattle.page_locks.proofs.NameLemmas.{is_same-true}
use Rattle.page_locks.specs.Locks.{is_on}
use Rattle.xsi_calls.specs.UndecidedWords.{Lock, LockName, kind_of, names_in}

-- a name that is held is among those that are held
pub is_among : (locks : List Lock) (name : LockName) → IsSome (kind_of locks name) → Contains (names_in locks) name
is_among [] name held = absurd cc
is_among (l ∷ ls) name held = by (is_on name l) refl held (is_among ls name)
  where
    by : (b : Bool) → is_on name l ≡ b → IsSome (if b then Some l.kind else kind_of ls name) →
        (IsSome (kind_of ls name) → Contains (names_in ls) name) → Contains (names_in (l ∷ ls)) name
    by true is some behind = (0, omega arith, is_same-true l.name name is)
    by false other some behind =
        let (k, within, at) = behind some in (suc k, omega (arith, within), at)

pub none_by : {X : Type 0} (o : Option X) → ((x : X) → o ≡ Some x → ⊥) → o ≡ None
none_by None never = refl
none_by (Some x) never = absurd (never x refl)

pub some_of : {X : Type 0} (o : Option X) → is_some o ≡ true → (x : X) × (o ≡ Some x)
some_of None some = absurd (true≢false (sym some))
some_of (Some x) some = (x, refl)

pub no_first : {X : Type 0} (xs : List X) → is_some (slice_get xs 0) ≡ false → xs ≡ []
no_first [] none = refl
no_first (x ∷ xs) none = absurd (true≢false none)

pub past_end : {X : Type 0} (xs : List X) (place : ℕ) → slice_get xs place ≡ None → slice_get xs (suc place) ≡ None
past_end [] place none = refl
past_end (x ∷ xs) zero none = absurd cc
past_end (x ∷ xs) (suc place) none = past_end xs place none

-- ---- tests

pub both_are : (a b : Bool) → (not a && b) ≡ true → (a ≡ false) × (b ≡ true)
both_are true b is = absurd (true≢false (sym is))
both_are false b is = (refl, is)

pub neither_is : (a b : Bool) → (a || b) ≡ false → (a ≡ false) × (b ≡ false)
neither_is true b is = absurd (true≢false is)
neither_is false b is = (refl, is)
