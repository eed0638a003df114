-- The table once a row of it has changed: it stays lawful.
use Rattle.std.proofs.Common.{arith, ◌≡◌, ◌≢◌, ◌⊎◌, ℕ, zero, suc, ◌<◌, ◌≤◌, true, List, [], ◌∷◌, ◌++◌, length, Some, None}
use Rattle.std.proofs.Common.{refl, sym, ap, ◌∙◌, inl, inr, get_or-set_same, get_or-set_other, replicate, not}
use Rattle.std.specs.List.{All}
use Rattle.std.proofs.lemmas.Bool.{cases_eq, cases_lt}
use Rattle.std.proofs.lemmas.List.{length-set, get_or_past, length_push, length-map, length-replicate}
use Rattle.std.proofs.lemmas.List.Elements.{All-set, All-replicate}
use Rattle.std.proofs.lemmas.List.Sums.{length-filter, count_by-le-length}
use Rattle.page_locks.specs.declared.lock.Lock.{Lock}
use Rattle.page_locks.specs.declared.lock.LockKind.{LockKind}
use Rattle.page_locks.specs.declared.lock.LockName.{LockName}
use Rattle.page_locks.specs.declared.lock_table.TheConstants.{MAX_SEATS}
use Rattle.page_locks.specs.declared.row.TheConstants.{MAX_LOCKS}
use Rattle.page_locks.specs.Locks.{compatible, is_on, in_kind, lock_of, kind_of, without, converted, HasNoNameTwice}
use Rattle.page_locks.specs.Table.{Table, IsSeat, row_of, with_row, with_lock, without_lock, with_kind, held}
use Rattle.page_locks.specs.Table.{IsLawful, IsFree}
use Rattle.page_locks.proofs.NameLemmas.{compatible-comm, not_against}
use Rattle.page_locks.proofs.RowLemmas.{kind_of-push, kind_of-without_was, kind_of-converted_was}
use Rattle.page_locks.proofs.RowLemmas.{HasNoNameTwice-push, HasNoNameTwice-without, HasNoNameTwice-converted}

-- the seat has the new row
pub row_of-same : (t : Table) (seat : ℕ) (locks : List Lock) → IsSeat t seat →
    row_of (with_row t seat locks) seat ≡ locks
row_of-same t zero locks is = absurd (omega (arith, is.0))
row_of-same t (suc place) locks is = get_or-set_same t place locks [] (omega (arith, is.1))

-- every other seat has its old one
pub row_of-other : (t : Table) (seat other : ℕ) (locks : List Lock) → other ≢ seat →
    row_of (with_row t seat locks) other ≡ row_of t other
row_of-other t zero other locks apart = refl
row_of-other t (suc place) zero locks apart = refl
row_of-other t (suc place) (suc other) locks apart = get_or-set_other t place other locks [] (λ e. apart (ap suc e))

-- and so holds what it held
pub held-other : (t : Table) (seat other : ℕ) (locks : List Lock) (name : LockName) → other ≢ seat →
    held (with_row t seat locks) other name ≡ held t other name
held-other t seat other locks name apart =
    ap (λ (row : List Lock). kind_of row name) (row_of-other t seat other locks apart)

-- what a seat would hold by these locks goes with what every other seat holds
abbrev pub GoWithOthers : Table → ℕ → List Lock → Type 0
GoWithOthers t seat locks =
    (other : ℕ) (name : LockName) (k l : LockKind) → other ≢ seat →
    kind_of locks name ≡ Some k → held t other name ≡ Some l → compatible k l ≡ true

-- what a seat of the new row and another hold goes together
with_other : (t : Table) (seat i j : ℕ) (locks : List Lock) (name : LockName) (k l : LockKind) → IsSeat t seat →
    GoWithOthers t seat locks → i ≡ seat → j ≢ seat → held (with_row t seat locks) i name ≡ Some k →
    held (with_row t seat locks) j name ≡ Some l → compatible k l ≡ true
with_other t seat i j locks name k l is go i_is j_not mine theirs =
    let now : held (with_row t seat locks) seat name ≡ kind_of locks name =
    ap (λ (row : List Lock). kind_of row name) (row_of-same t seat locks is)
    in
    go j name k l j_not (sym now ∙ ap (λ (x : ℕ). held (with_row t seat locks) x name) (sym i_is) ∙ mine)
    (sym (held-other t seat j locks name j_not) ∙ theirs)

pub IsLawful-with_row : (t : Table) (seat : ℕ) (locks : List Lock) → IsLawful t → IsSeat t seat →
    length locks ≤ MAX_LOCKS → HasNoNameTwice locks → GoWithOthers t seat locks → IsLawful (with_row t seat locks)
IsLawful-with_row t zero locks lawful is short once go = lawful
IsLawful-with_row t (suc place) locks lawful is short once go = record {
  some_seat = omega (arith, length-set t place locks, lawful.some_seat);
  few_seats = omega (arith, length-set t place locks, lawful.few_seats);
  short_rows = All-set (λ (row : List Lock). length row ≤ MAX_LOCKS) t place locks short lawful.short_rows;
  names_once = All-set HasNoNameTwice t place locks once lawful.names_once;
  pairs = λ i j name k l apart mine theirs. elim (cases_eq i (suc place)) [
    | inl i_is ↦ with_other t (suc place) i j locks name k l is go i_is (λ e. apart (i_is ∙ sym e)) mine theirs
    | inr i_not ↦ elim (cases_eq j (suc place)) [
      | inl j_is ↦ compatible-comm k l ∙ with_other t (suc place) j i locks name l k is go j_is i_not theirs mine
      | inr j_not ↦
          lawful.pairs i j name k l apart (sym (held-other t (suc place) i locks name i_not) ∙ mine)
          (sym (held-other t (suc place) j locks name j_not) ∙ theirs)
    ]
  ];
}

-- what is true of each row, and of an empty one, is true of the locks of any seat
row_of-All : (P : List Lock → Type 0) (t : Table) (seat : ℕ) → All P t → P [] → P (row_of t seat)
row_of-All P t zero each none = none
row_of-All P t (suc place) each none = elim (cases_lt place (length t)) [
  | inl within ↦ each place [] within
  | inr past ↦ rw (get_or_past t place [] past) none
]

none_twice : HasNoNameTwice []
none_twice i j d below within same = absurd (omega (arith, within))

module _ (t : Table) (seat : ℕ) (lawful : IsLawful t) where
  pub short_row : length (row_of t seat) ≤ MAX_LOCKS
  short_row = row_of-All (λ (row : List Lock). length row ≤ MAX_LOCKS) t seat lawful.short_rows (omega arith)

  pub names_once : HasNoNameTwice (row_of t seat)
  names_once = row_of-All HasNoNameTwice t seat lawful.names_once none_twice

  -- a seat that holds what it held, and a name that it was free to hold in this kind
  GoWithOthers-new : (locks : List Lock) (name : LockName) (kind : LockKind) → IsFree t seat name kind →
      ((n : LockName) (k : LockKind) → kind_of locks n ≡ Some k →
      (held t seat n ≡ Some k) ⊎ ((name ≡ n) × (kind ≡ k))) →
      GoWithOthers t seat locks
  GoWithOthers-new locks name kind free from other n k l apart mine theirs = elim (from n k mine) [
    | inl old ↦ lawful.pairs seat other n k l (λ e. apart (sym e)) old theirs
    | inr new ↦
        let there : held t other name ≡ Some l = ap (held t other) new.0 ∙ theirs in
        let clear : compatible kind l ≡ true = not_against kind l (held t other name) (free other apart) there in
        ap (λ (x : LockKind). compatible x l) (sym new.1) ∙ clear
  ]

  module _ (is : IsSeat t seat) (name : LockName) where
    pub IsLawful-grant : (kind : LockKind) → length (row_of t seat) < MAX_LOCKS → held t seat name ≡ None →
        IsFree t seat name kind → IsLawful (with_lock t seat name kind)
    IsLawful-grant kind room fresh free =
        let locks = row_of t seat ++ lock_of name kind ∷ [] in
        IsLawful-with_row t seat locks lawful is (omega (arith, length_push (row_of t seat) (lock_of name kind), room))
        (HasNoNameTwice-push name kind (row_of t seat) names_once fresh)
        (GoWithOthers-new locks name kind free (kind_of-push name kind (row_of t seat)))

    pub IsLawful-convert : (kind : LockKind) → IsFree t seat name kind → IsLawful (with_kind t seat name kind)
    IsLawful-convert kind free =
        let locks = converted (row_of t seat) name kind in
        IsLawful-with_row t seat locks lawful is
        (omega (arith, length-map (row_of t seat) (in_kind name kind), short_row))
        (HasNoNameTwice-converted name kind (row_of t seat) names_once)
        (GoWithOthers-new locks name kind free (kind_of-converted_was name kind (row_of t seat)))

    pub IsLawful-release : IsLawful (without_lock t seat name)
    IsLawful-release =
        let stays = λ (lock : Lock). not (is_on name lock) in
        IsLawful-with_row t seat (without (row_of t seat) name) lawful is
        (omega (arith, length-filter stays (row_of t seat), count_by-le-length stays (row_of t seat), short_row))
        (HasNoNameTwice-without name (row_of t seat) names_once)
        (λ other n k l apart mine theirs.
        lawful.pairs seat other n k l (λ e. apart (sym e)) (kind_of-without_was name (row_of t seat) n k mine) theirs)

-- where nobody holds a lock each row is empty
pub row_of-empty : (seats seat : ℕ) → row_of (replicate seats []) seat ≡ []
row_of-empty seats zero = refl
row_of-empty zero (suc place) = refl
row_of-empty (suc seats) (suc zero) = refl
row_of-empty (suc seats) (suc (suc place)) = row_of-empty seats (suc place)

pub IsLawful-empty : (seats : ℕ) → 1 ≤ seats → seats ≤ MAX_SEATS → IsLawful (replicate seats [])
IsLawful-empty seats some few = record {
  some_seat = omega (arith, length-replicate {A = List Lock} seats [], some);
  few_seats = omega (arith, length-replicate {A = List Lock} seats [], few);
  short_rows = All-replicate (λ (row : List Lock). length row ≤ MAX_LOCKS) seats [] (omega arith);
  names_once = All-replicate HasNoNameTwice seats [] none_twice;
  pairs = λ i j name k l apart mine theirs.
      let nothing : held (replicate seats []) i name ≡ None =
      ap (λ (row : List Lock). kind_of row name) (row_of-empty seats i)
      in
      absurd cc;
}
