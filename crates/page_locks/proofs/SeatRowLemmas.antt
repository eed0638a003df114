-- A seat's row as code reads and writes it.
use Rattle.std.proofs.Common.{arith, ◌≡◌, ℕ, zero, suc, ◌-◌, List, [], ◌∷◌, ◌++◌, get_or, set}
use Rattle.std.proofs.Common.{Option, Some, None, IsSome, refl, ap, ◌∙◌}
use Rattle.std.proofs.Math.Numerals.{sub-one}
use Rattle.std.proofs.lemmas.List.{get_or_default}
use Rattle.page_locks.specs.declared.lock.Lock.{Lock}
use Rattle.page_locks.specs.declared.lock.LockKind.{LockKind}
use Rattle.page_locks.specs.declared.lock.LockName.{LockName}
use Rattle.page_locks.specs.Locks.{lock_of, without, converted}
use Rattle.page_locks.specs.Table.{Table, IsSeat, row_of, with_row, with_lock, without_lock, with_kind}

module _ (t : Table) (seat : ℕ) (is : IsSeat t seat) (row new : List Lock) (read : row ≡ get_or t (seat - 1) row) where
  pub row_is : row ≡ row_of t seat
  row_is = at seat is read
    where
      at : (s : ℕ) → IsSeat t s → row ≡ get_or t (s - 1) row → row ≡ row_of t s
      at zero is_s read_s = absurd (omega (arith, is_s.0))
      at (suc place) is_s read_s =
          read_s ∙ ap (λ (k : ℕ). get_or t k row) (sub-one (suc place)) ∙
          get_or_default t place row [] (omega (arith, is_s.1))

  written : set t (seat - 1) new ≡ with_row t seat new
  written = at seat is
    where
      at : (s : ℕ) → IsSeat t s → set t (s - 1) new ≡ with_row t s new
      at zero is_s = absurd (omega (arith, is_s.0))
      at (suc place) is_s = ap (λ (k : ℕ). set t k new) (sub-one (suc place))

  pub row-granted : (name : LockName) (kind : LockKind) → new ≡ row ++ lock_of name kind ∷ [] →
      set t (seat - 1) new ≡ with_lock t seat name kind
  row-granted name kind new_is =
      written ∙
      ap (with_row t seat) (new_is ∙ ap (λ (locks : List Lock). locks ++ lock_of name kind ∷ []) row_is)

  pub row-released : (name : LockName) → new ≡ without row name → set t (seat - 1) new ≡ without_lock t seat name
  row-released name new_is =
      written ∙ ap (with_row t seat) (new_is ∙ ap (λ (locks : List Lock). without locks name) row_is)

  pub row-converted : (name : LockName) (kind : LockKind) → new ≡ converted row name kind →
      set t (seat - 1) new ≡ with_kind t seat name kind
  row-converted name kind new_is =
      written ∙ ap (with_row t seat) (new_is ∙ ap (λ (locks : List Lock). converted locks name kind) row_is)

pub some_kind : (o : Option LockKind) → IsSome o → (kind : LockKind) × (o ≡ Some kind)
some_kind None is = absurd cc
some_kind (Some kind) is = (kind, refl)
