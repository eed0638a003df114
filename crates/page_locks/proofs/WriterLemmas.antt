-- What a seat that holds a name knows of what the others hold of it.
use Rattle.std.proofs.Common.{◌≡◌, ◌≢◌, ℕ, true, false, List, [], Option, Some, None, refl, sym, ap, ◌∙◌, inl, inr}
use Rattle.std.proofs.lemmas.Bool.{cases_eq, cases_Bool, true≢false}
use Rattle.page_locks.specs.declared.lock.Lock.{Lock}
use Rattle.page_locks.specs.declared.lock.LockKind.{LockKind}
use Rattle.page_locks.specs.declared.lock.LockKind.TheVariants.{Read, Selective, Exclusive}
use Rattle.page_locks.specs.declared.lock.LockName.{LockName}
use Rattle.page_locks.specs.Locks.{compatible, is_against, is_same, kind_of}
use Rattle.page_locks.specs.Table.{Table, IsSeat, row_of, with_lock, with_kind, held, IsPairwiseCompatible, IsOpposed, IsFree}
use Rattle.page_locks.specs.Writers.{may_write, HasNoWriter, HasOneWriter, ChangesOnly}
use Rattle.page_locks.proofs.NameLemmas.{is_same-itself, is_same-true}
use Rattle.page_locks.proofs.ChangeLemmas.{ChangesOnly-grant, ChangesOnly-convert, held-convert}

-- what two seats hold of one name
abbrev GoTogether : Option LockKind → Option LockKind → Type 0
GoTogether mine theirs = (k l : LockKind) → mine ≡ Some k → theirs ≡ Some l → compatible k l ≡ true

two_writers : (mine theirs : Option LockKind) → GoTogether mine theirs →
    may_write mine ≡ true → may_write theirs ≡ true → ⊥
two_writers None theirs go w v = absurd cc
two_writers (Some Read) theirs go w v = absurd cc
two_writers (Some Selective) None go w v = absurd cc
two_writers (Some Selective) (Some Read) go w v = absurd cc
two_writers (Some Selective) (Some Selective) go w v = true≢false (sym (go Selective Selective refl refl))
two_writers (Some Selective) (Some Exclusive) go w v = true≢false (sym (go Selective Exclusive refl refl))
two_writers (Some Exclusive) None go w v = absurd cc
two_writers (Some Exclusive) (Some l) go w v = true≢false (sym (go Exclusive l refl refl) ∙ exclusive_with l)
  where
    exclusive_with : (l : LockKind) → compatible Exclusive l ≡ false
    exclusive_with Read = refl
    exclusive_with Selective = refl
    exclusive_with Exclusive = refl

-- at most one seat may write
pub one_writer : (t : Table) (name : LockName) → IsPairwiseCompatible t → HasOneWriter t name
one_writer t name pairs i j w v = elim (cases_eq i j) [
  | inl same ↦ same
  | inr apart ↦ absurd (two_writers (held t i name) (held t j name) (λ k l. pairs i j name k l apart) w v)
]

-- beside an exclusive holder no other seat holds the name
nothing_beside : (theirs : Option LockKind) → GoTogether (Some Exclusive) theirs → theirs ≡ None
nothing_beside None go = refl
nothing_beside (Some Read) go = absurd (true≢false (sym (go Exclusive Read refl refl)))
nothing_beside (Some Selective) go = absurd (true≢false (sym (go Exclusive Selective refl refl)))
nothing_beside (Some Exclusive) go = absurd (true≢false (sym (go Exclusive Exclusive refl refl)))

-- beside a selective one the others read, at most
read_beside : (theirs : Option LockKind) (l : LockKind) → GoTogether (Some Selective) theirs →
    theirs ≡ Some l → l ≡ Read
read_beside None l go is = absurd cc
read_beside (Some Read) l go is = cc
read_beside (Some Selective) l go is = absurd (true≢false (sym (go Selective Selective refl refl)))
read_beside (Some Exclusive) l go is = absurd (true≢false (sym (go Selective Exclusive refl refl)))

module _ (t : Table) (pairs : IsPairwiseCompatible t) (seat other : ℕ) (name : LockName) (apart : other ≢ seat) where
  together : (k : LockKind) → held t seat name ≡ Some k → GoTogether (Some k) (held t other name)
  together k mine k' l is theirs = pairs seat other name k' l (λ e. apart (sym e)) (mine ∙ is) theirs

  pub exclusive_alone : held t seat name ≡ Some Exclusive → held t other name ≡ None
  exclusive_alone mine = nothing_beside (held t other name) (together Exclusive mine)

  pub beside_selective : (l : LockKind) → held t seat name ≡ Some Selective → held t other name ≡ Some l → l ≡ Read
  beside_selective l mine theirs = read_beside (held t other name) l (together Selective mine) theirs

-- a seat that nobody opposes is free to hold the name
pub IsFree-unopposed : (t : Table) (seat : ℕ) (name : LockName) (kind : LockKind) →
    (IsOpposed t seat name kind → ⊥) → IsFree t seat name kind
IsFree-unopposed t seat name kind nobody other apart = elim (cases_Bool (is_against kind (held t other name))) [
  | inl against ↦ absurd (nobody (other, record { another = apart; against = against }))
  | inr free ↦ free
]

-- who is free to write is the first to write
quiet_beside : (kind : LockKind) (theirs : Option LockKind) → may_write (Some kind) ≡ true →
    is_against kind theirs ≡ false → may_write theirs ≡ false
quiet_beside kind None w free = refl
quiet_beside kind (Some Read) w free = refl
quiet_beside Read (Some Selective) w free = absurd cc
quiet_beside Selective (Some Selective) w free = absurd cc
quiet_beside Exclusive (Some Selective) w free = absurd cc
quiet_beside Read (Some Exclusive) w free = absurd cc
quiet_beside Selective (Some Exclusive) w free = absurd cc
quiet_beside Exclusive (Some Exclusive) w free = absurd cc

pub HasNoWriter-free : (t : Table) (seat : ℕ) (name : LockName) (kind : LockKind) → may_write (Some kind) ≡ true →
    may_write (held t seat name) ≡ false → IsFree t seat name kind → HasNoWriter t name
HasNoWriter-free t seat name kind w none free i = elim (cases_eq i seat) [
  | inl same ↦ ap (λ (x : ℕ). may_write (held t x name)) same ∙ none
  | inr apart ↦ quiet_beside kind (held t i name) w (free i apart)
]

-- who is free to hold the name exclusively is alone with it
alone : (theirs : Option LockKind) → is_against Exclusive theirs ≡ false → theirs ≡ None
alone None free = refl
alone (Some Read) free = absurd cc
alone (Some Selective) free = absurd cc
alone (Some Exclusive) free = absurd cc

-- a change at one name makes no writer of another, and takes none away
module _ (seat : ℕ) (name : LockName) (old new : Table) (changes : ChangesOnly seat name old new) where
  pub held-kept : (i : ℕ) (n : LockName) → name ≢ n → held new i n ≡ held old i n
  held-kept i n other = elim (cases_eq i seat) [
    | inl same ↦
        ap (λ (x : ℕ). held new x n) same ∙ changes.names n other ∙ ap (λ (x : ℕ). held old x n) (sym same)
    | inr apart ↦ ap (λ (row : List Lock). kind_of row n) (changes.rows i apart)
  ]

  pub HasNoWriter-before : (n : LockName) → name ≢ n → HasNoWriter new n → HasNoWriter old n
  HasNoWriter-before n other none i = ap may_write (sym (held-kept i n other)) ∙ none i

module _ (t : Table) (seat : ℕ) (is : IsSeat t seat) (name : LockName) where
  -- a grant takes no writer away
  pub HasNoWriter-before_grant : (kind : LockKind) (n : LockName) → held t seat name ≡ None →
      HasNoWriter (with_lock t seat name kind) n → HasNoWriter t n
  HasNoWriter-before_grant kind n fresh none = elim (cases_Bool (is_same name n)) [
    | inl e ↦ at_name (is_same-true name n e)
    | inr e ↦
        HasNoWriter-before seat name t (with_lock t seat name kind) (ChangesOnly-grant t seat is name kind) n
        (λ same. true≢false (sym (rw (sym same) (is_same-itself name)) ∙ e)) none
  ]
    where
      at_seat : name ≡ n → may_write (held t seat n) ≡ false
      at_seat same = ap (λ (m : LockName). may_write (held t seat m)) (sym same) ∙ ap may_write fresh

      at_name : name ≡ n → HasNoWriter t n
      at_name same i = elim (cases_eq i seat) [
        | inl at ↦ ap (λ (x : ℕ). may_write (held t x n)) at ∙ at_seat same
        | inr apart ↦
            let row = (ChangesOnly-grant t seat is name kind).rows i apart in
            ap (λ (locks : List Lock). may_write (kind_of locks n)) (sym row) ∙ none i
      ]

  -- nor does a conversion to a kind that may write
  pub HasNoWriter-before_convert : (kind old : LockKind) (n : LockName) → may_write (Some kind) ≡ true →
      held t seat name ≡ Some old → HasNoWriter (with_kind t seat name kind) n → HasNoWriter t n
  HasNoWriter-before_convert kind old n w had none = elim (cases_Bool (is_same name n)) [
    | inl e ↦
        let there = ap (held (with_kind t seat name kind) seat) (sym (is_same-true name n e)) in
        let now : held (with_kind t seat name kind) seat n ≡ Some kind =
        there ∙ held-convert t seat is name kind old had
        in
        absurd (true≢false (sym w ∙ ap may_write (sym now) ∙ none seat))
    | inr e ↦
        HasNoWriter-before seat name t (with_kind t seat name kind) (ChangesOnly-convert t seat is name kind) n
        (λ same. true≢false (sym (rw (sym same) (is_same-itself name)) ∙ e)) none
  ]

-- where nobody holds a lock, nobody writes
pub HasNoWriter-at_rest : (t : Table) (name : LockName) → ((seat : ℕ) → row_of t seat ≡ []) → HasNoWriter t name
HasNoWriter-at_rest t name rest seat = ap (λ (locks : List Lock). may_write (kind_of locks name)) (rest seat)
