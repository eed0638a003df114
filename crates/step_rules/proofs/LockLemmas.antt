-- What seats hold through a change of one name, in the words of steps.
use Rattle.std.proofs.Common.{◌≡◌, ◌≢◌, ◌⊎◌, ℕ, Option, Some, None, IsSome, List, true, refl, sym, ap, ◌∙◌, subst, inl, inr}
use Rattle.std.proofs.lemmas.Bool.{cases_eq, cases_Bool, true≢false}
use Rattle.page_locks.specs.declared.lock.Lock.{Lock}
use Rattle.page_locks.specs.declared.lock.LockKind.{LockKind}
use Rattle.page_locks.specs.declared.lock.LockKind.TheVariants.{Selective, Exclusive}
use Rattle.page_locks.specs.declared.lock.LockName.{LockName}
use Rattle.page_locks.specs.Locks.{is_same, kind_of}
use Rattle.page_locks.specs.Table.{Table, IsSeat, held, with_lock, without_lock, with_kind}
use Rattle.page_locks.specs.Writers.{may_write, IsWriter, ChangesOnly}
use Rattle.page_locks.proofs.NameLemmas.{is_same-itself, is_same-true}
use Rattle.page_locks.proofs.ChangeLemmas.{held-convert, held-release, ChangesOnly-grant, ChangesOnly-release, ChangesOnly-convert}
use Rattle.page_locks.proofs.WriterLemmas.{held-kept}
use Rattle.step_rules.specs.World.{IsHeld}

-- two names are one or they differ
pub names_eq : (a b : LockName) → (a ≡ b) ⊎ (a ≢ b)
names_eq a b = elim (cases_Bool (is_same a b)) [
  | inl e ↦ inl (is_same-true a b e)
  | inr e ↦ inr (λ same. true≢false (sym (rw (sym same) (is_same-itself a)) ∙ e))
]

pub none_is_not_some : {o : Option LockKind} → o ≡ None → IsSome o → ⊥
none_is_not_some {o} none some = true≢false (sym (subst IsSome none some))

-- who may write a name holds it
held_of_writer : (o : Option LockKind) → may_write o ≡ true → IsSome o
held_of_writer None w = absurd cc
held_of_writer (Some k) w = refl

pub IsHeld-writer : (t : Table) (seat : ℕ) (name : LockName) → IsWriter t seat name → IsHeld t seat name
IsHeld-writer t seat name w = held_of_writer (held t seat name) w

pub IsHeld-some : (t : Table) (seat : ℕ) (name : LockName) (kind : LockKind) → held t seat name ≡ Some kind →
    IsHeld t seat name
IsHeld-some t seat name kind is = subst IsSome (sym is) refl

pub IsWriter-exclusive : (t : Table) (seat : ℕ) (name : LockName) → held t seat name ≡ Some Exclusive →
    IsWriter t seat name
IsWriter-exclusive t seat name is = ap may_write is

-- what is held of a name alike
pub IsHeld-same : (s t : Table) (i : ℕ) (name : LockName) → held t i name ≡ held s i name → IsHeld s i name →
    IsHeld t i name
IsHeld-same s t i name same there = subst IsSome (sym same) there

pub IsWriter-same : (s t : Table) (i : ℕ) (name : LockName) → held t i name ≡ held s i name → IsWriter s i name →
    IsWriter t i name
IsWriter-same s t i name same there = ap may_write same ∙ there

module _ (t : Table) (seat : ℕ) (is : IsSeat t seat) (name : LockName) where
  -- a grant takes nothing from anybody
  pub held-granted : (kind : LockKind) (i : ℕ) (n : LockName) → held t seat name ≡ None → IsHeld t i n →
      held (with_lock t seat name kind) i n ≡ held t i n
  held-granted kind i n fresh there = elim (names_eq name n) [
    | inr other ↦ held-kept seat name t (with_lock t seat name kind) changes i n other
    | inl same ↦ elim (cases_eq i seat) [
      | inr apart ↦ ap (λ (row : List Lock). kind_of row n) (changes.rows i apart)
      | inl own ↦ absurd (none_is_not_some fresh
          (subst (λ (m : LockName). IsHeld t seat m) (sym same) (subst (λ (x : ℕ). IsHeld t x n) own there)))
    ]
  ]
    where
      changes : ChangesOnly seat name t (with_lock t seat name kind)
      changes = ChangesOnly-grant t seat is name kind

  -- what is held after a release was held before
  pub held-unreleased : (i : ℕ) (n : LockName) → IsHeld (without_lock t seat name) i n →
      held (without_lock t seat name) i n ≡ held t i n
  held-unreleased i n there = elim (names_eq name n) [
    | inr other ↦ held-kept seat name t (without_lock t seat name) changes i n other
    | inl same ↦ elim (cases_eq i seat) [
      | inr apart ↦ ap (λ (row : List Lock). kind_of row n) (changes.rows i apart)
      | inl own ↦ absurd (none_is_not_some (held-release t seat is name)
          (subst (λ (m : LockName). IsHeld (without_lock t seat name) seat m) (sym same)
          (subst (λ (x : ℕ). IsHeld (without_lock t seat name) x n) own there)))
    ]
  ]
    where
      changes : ChangesOnly seat name t (without_lock t seat name)
      changes = ChangesOnly-release t seat is name

  -- another seat keeps what it held, and this one each other name
  pub held-released : (i : ℕ) (n : LockName) → (i ≡ seat → name ≢ n) →
      held (without_lock t seat name) i n ≡ held t i n
  held-released i n other = elim (cases_eq i seat) [
    | inl own ↦ held-kept seat name t (without_lock t seat name) changes i n (other own)
    | inr apart ↦ ap (λ (row : List Lock). kind_of row n) (changes.rows i apart)
  ]
    where
      changes : ChangesOnly seat name t (without_lock t seat name)
      changes = ChangesOnly-release t seat is name

-- a writer of the directory stays one where its lock becomes exclusive, and nothing else changes
pub IsWriter-converted : (t : Table) (seat : ℕ) (is : IsSeat t seat) (name : LockName) (i : ℕ) (n : LockName) →
    held t seat name ≡ Some Selective → IsWriter t i n → IsWriter (with_kind t seat name Exclusive) i n
IsWriter-converted t seat is name i n had there = elim (names_eq name n) [
  | inr other ↦ ap may_write (held-kept seat name t (with_kind t seat name Exclusive) changes i n other) ∙ there
  | inl same ↦ elim (cases_eq i seat) [
    | inr apart ↦ ap (λ (row : List Lock). may_write (kind_of row n)) (changes.rows i apart) ∙ there
    | inl own ↦
        ap (λ (x : ℕ). may_write (held (with_kind t seat name Exclusive) x n)) own
        ∙ ap (λ (m : LockName). may_write (held (with_kind t seat name Exclusive) seat m)) (sym same)
        ∙ ap may_write (held-convert t seat is name Exclusive Selective had)
  ]
]
  where
    changes : ChangesOnly seat name t (with_kind t seat name Exclusive)
    changes = ChangesOnly-convert t seat is name Exclusive
