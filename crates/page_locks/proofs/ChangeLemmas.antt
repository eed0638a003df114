-- What a grant, a release and a conversion leave as it was, and what the seat holds after them.
use Rattle.std.proofs.Common.{arith, ◌≡◌, ℕ, zero, suc, List, [], ◌∷◌, ◌++◌, length, Option, Some, None}
use Rattle.std.proofs.Common.{refl, ap, ◌∙◌}
use Rattle.std.proofs.lemmas.List.{length-set, set-get_or, set-set}
use Rattle.page_locks.specs.declared.lock.Lock.{Lock}
use Rattle.page_locks.specs.declared.lock.LockKind.{LockKind}
use Rattle.page_locks.specs.declared.lock.LockName.{LockName}
use Rattle.page_locks.specs.Locks.{kind_of, lock_of, without, converted}
use Rattle.page_locks.specs.Table.{Table, IsSeat, row_of, with_row, with_lock, without_lock, with_kind, held}
use Rattle.page_locks.specs.Writers.{ChangesOnly}
use Rattle.page_locks.proofs.NameLemmas.{is_same-itself, is_same-false}
use Rattle.page_locks.proofs.RowLemmas.{first_kind, kind_of-append, kind_of-without, kind_of-without_other}
use Rattle.page_locks.proofs.RowLemmas.{kind_of-converted, kind_of-converted_other}
use Rattle.page_locks.proofs.TableLemmas.{row_of-same, row_of-other}

-- the number of seats stays
pub length-with_row : (t : Table) (seat : ℕ) (locks : List Lock) → length (with_row t seat locks) ≡ length t
length-with_row t zero locks = refl
length-with_row t (suc place) locks = length-set t place locks

-- a row put back leaves the table as it was
pub with_row-own : (t : Table) (seat : ℕ) → with_row t seat (row_of t seat) ≡ t
with_row-own t zero = refl
with_row-own t (suc place) = set-get_or t place []

-- of two changes of one row the later one stands
pub with_row-twice : (t : Table) (seat : ℕ) (first last : List Lock) →
    with_row (with_row t seat first) seat last ≡ with_row t seat last
with_row-twice t zero first last = refl
with_row-twice t (suc place) first last = set-set t place first last

-- what the seat holds is told by its new row
pub held-same : (t : Table) (seat : ℕ) (locks : List Lock) (name : LockName) → IsSeat t seat →
    held (with_row t seat locks) seat name ≡ kind_of locks name
held-same t seat locks name is = ap (λ (row : List Lock). kind_of row name) (row_of-same t seat locks is)

-- a seat stays a seat
pub IsSeat-with_row : (t : Table) (seat other : ℕ) (locks : List Lock) → IsSeat t other →
    IsSeat (with_row t seat locks) other
IsSeat-with_row t seat other locks is = (is.0, omega (arith, is.1, length-with_row t seat locks))

-- one name granted and another given back, as one change of the row
pub without_lock-with_lock : (t : Table) (seat : ℕ) (name : LockName) (kind : LockKind) (given : LockName) →
    IsSeat t seat →
    without_lock (with_lock t seat name kind) seat given ≡
    with_row t seat (without (row_of t seat ++ lock_of name kind ∷ []) given)
without_lock-with_lock t seat name kind given is =
    let locks = row_of t seat ++ lock_of name kind ∷ [] in
    rw (row_of-same t seat locks is) (with_row-twice t seat locks (without locks given))

first_of : (o : Option LockKind) → first_kind o None ≡ o
first_of None = refl
first_of (Some k) = refl

module _ (t : Table) (seat : ℕ) (is : IsSeat t seat) (name : LockName) where
  -- a grant adds the name, and no other
  abbrev granted : LockKind → List Lock
  granted kind = row_of t seat ++ lock_of name kind ∷ []

  added : (kind : LockKind) (n : LockName) →
      held (with_lock t seat name kind) seat n ≡ first_kind (held t seat n) (kind_of (lock_of name kind ∷ []) n)
  added kind n = held-same t seat (granted kind) n is ∙ kind_of-append (row_of t seat) (lock_of name kind ∷ []) n

  pub held-grant : (kind : LockKind) → held t seat name ≡ None → held (with_lock t seat name kind) seat name ≡ Some kind
  held-grant kind fresh = added kind name ∙ rw (fresh, is_same-itself name) refl

  pub ChangesOnly-grant : (kind : LockKind) → ChangesOnly seat name t (with_lock t seat name kind)
  ChangesOnly-grant kind = record {
    rows = λ other apart. row_of-other t seat other (granted kind) apart;
    names = λ n apart. added kind n ∙ rw (is_same-false name n apart) (first_of (held t seat n));
  }

  -- a release takes it away
  abbrev rest : List Lock
  rest = without (row_of t seat) name

  pub held-release : held (without_lock t seat name) seat name ≡ None
  held-release = held-same t seat rest name is ∙ kind_of-without name (row_of t seat)

  pub ChangesOnly-release : ChangesOnly seat name t (without_lock t seat name)
  ChangesOnly-release = record {
    rows = λ other apart. row_of-other t seat other rest apart;
    names = λ n apart. held-same t seat rest n is ∙ kind_of-without_other name (row_of t seat) n apart;
  }

  -- a conversion changes its kind
  abbrev turned : LockKind → List Lock
  turned kind = converted (row_of t seat) name kind

  pub held-convert : (kind old : LockKind) → held t seat name ≡ Some old →
      held (with_kind t seat name kind) seat name ≡ Some kind
  held-convert kind old had =
      held-same t seat (turned kind) name is ∙ kind_of-converted name kind (row_of t seat) ∙ rw had refl

  pub ChangesOnly-convert : (kind : LockKind) → ChangesOnly seat name t (with_kind t seat name kind)
  ChangesOnly-convert kind = record {
    rows = λ other apart. row_of-other t seat other (turned kind) apart;
    names = λ n apart.
        held-same t seat (turned kind) n is ∙ kind_of-converted_other name kind (row_of t seat) n apart;
  }
