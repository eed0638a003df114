-- The row of the one seat, which holds the lock of a record.
use Rattle.std.proofs.Common.{◌≡◌, ◌≢◌, ◌==◌, ℕ, zero, suc, Bool, true, false, List, [], ◌∷◌, if◌then◌else◌, Option, Some, None, IsSome, refl, sym, ap, subst, ◌∙◌, arith}
use Rattle.bucket_page.specs.declared.record_key.RecordKey.{RecordKey}
use Rattle.directory.proofs.MemberLaws.{contains_none}
use Rattle.file_pages.specs.Files.{store_of}
use Rattle.hash_file.specs.Change.{Quiet}
use Rattle.hash_file.specs.Sound.{IsSoundFile}
use Rattle.page_locks.specs.Locks.{is_against, kind_of, lock_of}
use Rattle.page_locks.specs.Table.{IsLawful, IsSeat, Opposes, Table, held, row_of, with_row}
use Rattle.page_locks.specs.Writers.{HasNoWriter, may_write}
use Rattle.page_locks.specs.declared.lock.Lock.{Lock}
use Rattle.page_locks.specs.declared.lock.LockKind.{LockKind}
use Rattle.page_locks.specs.declared.lock.LockKind.TheVariants.{Exclusive}
use Rattle.page_locks.specs.declared.lock.LockName.{LockName}
use Rattle.page_locks.specs.declared.lock.LockName.TheVariants.{Counter, Directory, Key, Page, Queue}
use Rattle.page_locks.proofs.NameLemmas.{is_same-itself}
use Rattle.queue_records.specs.Keys.{guard_of}
use Rattle.queue_records.specs.declared.layout.TheConstants.{COUNTER, KEY}
use Rattle.record_file.specs.AccessWords.{EndsRow, FollowsRow, HasNoFileLock}
use Rattle.stale_search.specs.Steps.{world}
use Rattle.step_rules.specs.Sound.{IsSoundWorld}
use Rattle.step_rules.specs.Turns.{Ask, ForAnswer, ForEntry, ForLock, ForPage, HopFrom, StandsInWay, ToExclusive}
use Rattle.step_rules.specs.World.{IsHeld, World}
use Rattle.lone_access.specs.Alone.{lock_on}

-- ---- the lock

-- it is none of the file's
pub bare_lock : (key : RecordKey) → HasNoFileLock (lock_on key)
bare_lock key = by (key.kind == COUNTER) (key.kind == KEY)
  where
    by : (a b : Bool) →
        HasNoFileLock (lock_of (if a then Counter else if b then Key key.number else Queue key.queue) Exclusive ∷ [])
    by true b = record { directory = refl; pages = λ n. refl }
    by false true = record { directory = refl; pages = λ n. refl }
    by false false = record { directory = refl; pages = λ n. refl }

pub owns_lock : (key : RecordKey) → kind_of (lock_on key) (guard_of key) ≡ Some Exclusive
owns_lock key = ap (λ (b : Bool). if b then Some Exclusive else None) (is_same-itself (guard_of key))

-- ---- the row

module _ (mine : List Lock → List Lock) (key : RecordKey) (locks : Table) (is : locks ≡ mine (lock_on key) ∷ []) where
  pub row_is : row_of locks 1 ≡ mine (lock_on key)
  row_is = ap (λ (t : Table). row_of t 1) is

  pub is_seat : IsSeat locks 1
  is_seat = subst (λ (t : Table). IsSeat t 1) (sym is) (omega arith, omega arith)

  pub ends_row : EndsRow mine 3 (row_of locks 1)
  ends_row = record { before = lock_on key; bare = bare_lock key; room = omega arith; is = row_is }

  pub follows : (next : List Lock → List Lock) (locks' : Table) → FollowsRow 1 mine next locks locks' →
      locks' ≡ next (lock_on key) ∷ []
  follows next locks' step =
      step (lock_on key) (bare_lock key) row_is ∙ ap (λ (t : Table). with_row t 1 (next (lock_on key))) is

-- ---- a table of this row alone

held_there : (row : List Lock) (seat : ℕ) (name : LockName) → kind_of row name ≡ None →
    held (row ∷ []) seat name ≡ None
held_there row zero name none = refl
held_there row (suc zero) name none = none
held_there row (suc (suc n)) name none = refl

module _ (key : RecordKey) (locks : Table) (is : locks ≡ lock_on key ∷ []) where
  held_not : (seat : ℕ) (name : LockName) → kind_of (lock_on key) name ≡ None → held locks seat name ≡ None
  held_not seat name none = ap (λ (t : Table). held t seat name) is ∙ held_there (lock_on key) seat name none

  pub no_writer : HasNoWriter locks Directory
  no_writer seat = ap may_write (held_not seat Directory (bare_lock key).directory)

  not_held : (seat page : ℕ) → IsHeld locks seat (Page page) → ⊥
  not_held seat page holds =
      let none = held_not seat (Page page) ((bare_lock key).pages page) in
      let there : IsSome {T = LockKind} None = subst IsSome none holds in
      absurd cc

  pub quiet_world : (hash : RecordKey → ℕ) (images : List (List ℕ)) → IsSoundFile hash (store_of images) Quiet →
      IsLawful locks → IsSoundWorld hash (world images locks Quiet)
  quiet_world hash images sound lawful = record {
    file = sound;
    lawful = lawful;
    led = λ none. refl;
    guarded = λ page busy reached. absurd (contains_none page busy);
    standing = λ seat page holds. absurd (not_held seat page holds);
  }

-- ---- no other seat stands in the way

opposes_none : (row : List Lock) (other : ℕ) (name : LockName) (kind : LockKind) → other ≢ 1 →
    is_against kind (held (row ∷ []) other name) ≡ true → ⊥
opposes_none row zero name kind another against = absurd cc
opposes_none row (suc zero) name kind another against = another refl
opposes_none row (suc (suc n)) name kind another against = absurd cc

module _ (row : List Lock) (locks : Table) (is : locks ≡ row ∷ []) where
  pub not_opposed : (other : ℕ) (name : LockName) (kind : LockKind) → Opposes locks 1 name kind other → ⊥
  not_opposed other name kind opposes =
      opposes_none row other name kind opposes.another
      (subst (λ (t : Table). is_against kind (held t other name) ≡ true) is opposes.against)

pub not_in_way : (row : List Lock) (w : World) → w.locks ≡ row ∷ [] → (ask : Option Ask) (other : ℕ) →
    StandsInWay ask 1 other w → ⊥
not_in_way row w is None other stands = stands
not_in_way row w is (Some (ForLock name kind)) other stands = not_opposed row w.locks is other name kind stands
not_in_way row w is (Some (ForEntry depth pseudokey)) other stands = stands
not_in_way row w is (Some (ForPage page pseudokey kind)) other stands =
    not_opposed row w.locks is other (Page page) kind stands
not_in_way row w is (Some (ForAnswer page pseudokey)) other stands = stands
not_in_way row w is (Some (HopFrom page pseudokey)) other stands =
    not_opposed row w.locks is other _ stands.kind stands.opposes
not_in_way row w is (Some ToExclusive) other stands = not_opposed row w.locks is other Directory Exclusive stands
