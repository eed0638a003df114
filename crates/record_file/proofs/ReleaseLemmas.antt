-- A page is given back, the last lock on the file.
use Rattle.std.proofs.Common.{◌≡◌, refl, sym, ap, ◌∙◌, ℕ, List, [], ◌∷◌, ◌++◌, Some, eq-eqb}
use Rattle.std.proofs.lemmas.List.Elements.{filter-append}
use Rattle.split_merge.specs.file_pages.declared.fault.FileFault.{FileFault}
use Rattle.page_locks.specs.Writers.{may_write, IsWriter}
use Rattle.step_rules.specs.LockSteps.{Releases}
use Rattle.step_rules.proofs.KindLemmas.{kind_keeps}
use Rattle.step_rules.proofs.LockLemmas.{IsHeld-some}
use Rattle.split_merge.specs.stale_search.Rows.{on_page}
use Rattle.split_merge.proofs.of_stale_search.RowLemmas.{without-none, page_on, directory_not_on}
use Rattle.page_locks.proofs.RowLemmas.{kind_of-append}
use Rattle.record_file.specs.Writers.{Owns}
use Rattle.record_file.specs.Words.{RecordKey, Exclusive, guard_of, PoolState, Table, IsSeat, Lock, LockKind, Page, Directory, Change, row_of, held, kind_of, lock_of, without, without_lock, Moved, Release, World, Known, Turn, world, Sees, Step, HasNoFileLock}

-- the page is not there any more
pub page_gone : (before : List Lock) → HasNoFileLock before → (n : ℕ) (kind : LockKind) →
    without (on_page n kind before) (Page n) ≡ before
page_gone before bare n kind =
    filter-append _ before (lock_of (Page n) kind ∷ []) ∙ rw (eq-eqb n n refl) (end (without before (Page n)))
    ∙ without-none before (Page n) (bare.pages n)
  where
    end : (xs : List Lock) → xs ++ [] ≡ xs
    end [] = refl
    end (x ∷ xs) = ap (λ ys. x ∷ ys) (end xs)

-- a seat that holds no lock on the file but one page
module _ (seat : ℕ) (locks : Table) (n : ℕ) (kind : LockKind) (before : List Lock) (bare : HasNoFileLock before)
    (row : row_of locks seat ≡ on_page n kind before) where
  pub no_directory : IsWriter locks seat Directory → ⊥
  no_directory writes =
      let none = ap (λ (locks : List Lock). kind_of locks Directory) row ∙ directory_not_on before bare n kind in
      let f = ap may_write (sym none) ∙ writes in cc

  pub still_owns : (key : RecordKey) → Owns before key → held locks seat (guard_of key) ≡ Some Exclusive
  still_owns key owns =
      ap (λ (locks : List Lock). kind_of locks (guard_of key)) row
      ∙ kind_of-append before (lock_of (Page n) kind ∷ []) (guard_of key) ∙ rw owns refl

module _ (hash : RecordKey → ℕ) (seat : ℕ) (facts : List Known) (pool : PoolState) (locks : Table)
    (change : Change) (sees : Sees hash seat facts pool locks change) where
  pub gave_page_back : (turn : Turn) (locks' : Table) (n : ℕ) (kind : LockKind) (before : List Lock) →
      HasNoFileLock before → IsSeat locks seat → row_of locks seat ≡ on_page n kind before →
      locks' ≡ without_lock locks seat (Page n) →
      Step {F = FileFault} hash seat turn (Moved Release) [] pool pool locks locks' change
  gave_page_back turn locks' n kind before bare seated row is =
      let old : World = world pool.images locks change in
      let new : World = world pool.images locks' change in
      let had : held locks seat (Page n) ≡ Some kind =
      ap (λ (locks : List Lock). kind_of locks (Page n)) row ∙ page_on before bare n kind in
      let r : Releases seat old new = record {
        seated = seated;
        name = Page n;
        had = IsHeld-some locks seat (Page n) kind had;
        idle = λ page same writes. absurd (no_directory seat locks n kind before bare row writes);
        done = λ same. absurd cc;
        is = ap (λ (t : Table). world pool.images t change) is;
      } in
      record {
        after = change;
        file = sees.file;
        others = kind_keeps Release hash seat old new sees.sound r;
        known = tt;
        does = r;
        led = tt;
      }
