-- The locks of a search, in the row of its seat.
use Rattle.std.proofs.Common.{◌≡◌, ◌≢◌, refl, ap, ◌∙◌, ℕ, ne_eqb, eq-eqb, List, [], ◌∷◌, ◌++◌, Some, None, inl, inr}
use Rattle.std.proofs.lemmas.Bool.{cases_Bool}
use Rattle.std.proofs.lemmas.List.Elements.{filter-append}
use Rattle.step_rules.specs.Words.{Lock, LockKind, Read, LockName, Directory, Page}
use Rattle.stale_search.specs.Words.{is_on, kind_of, lock_of, without}
use Rattle.page_locks.proofs.RowLemmas.{kind_of-append}
use Rattle.stale_search.specs.Rows.{HasNoFileLock, in_directory, on_page}

-- a name that is not held is not there to be given back
pub without-none : (xs : List Lock) (name : LockName) → kind_of xs name ≡ None → without xs name ≡ xs
without-none [] name none = refl
without-none (x ∷ xs) name none = elim (cases_Bool (is_on name x)) [
  | inl on ↦ absurd (let some : Some x.kind ≡ None = rw on at none in cc)
  | inr off ↦ let rest : kind_of xs name ≡ None = rw off at none in rw off
      (ap (λ ys. x ∷ ys) (without-none xs name rest))
]

module _ (before : List Lock) (bare : HasNoFileLock before) where
  pub directory_in : (kind : LockKind) → kind_of (in_directory kind before) Directory ≡ Some kind
  directory_in kind = kind_of-append before (lock_of Directory kind ∷ []) Directory ∙ rw bare.directory refl

  pub page_not_in : (kind : LockKind) (n : ℕ) → kind_of (in_directory kind before) (Page n) ≡ None
  page_not_in kind n = kind_of-append before (lock_of Directory kind ∷ []) (Page n) ∙ rw (bare.pages n) refl

  pub page_on : (n : ℕ) (kind : LockKind) → kind_of (on_page n kind before) (Page n) ≡ Some kind
  page_on n kind = kind_of-append before (lock_of (Page n) kind ∷ []) (Page n) ∙ rw (bare.pages n, eq-eqb n n refl) refl

  pub other_not_on : (n m : ℕ) (kind : LockKind) → n ≢ m → kind_of (on_page n kind before) (Page m) ≡ None
  other_not_on n m kind other = kind_of-append before (lock_of (Page n) kind ∷ []) (Page m) ∙ rw
      (bare.pages m, ne_eqb n m other) refl

  pub directory_not_on : (n : ℕ) (kind : LockKind) → kind_of (on_page n kind before) Directory ≡ None
  directory_not_on n kind = kind_of-append before (lock_of (Page n) kind ∷ []) Directory ∙ rw bare.directory refl

  pub both_held : (n : ℕ) (kind : LockKind) → kind_of (on_page n kind (in_directory Read before)) Directory ≡ Some Read
  both_held n kind = kind_of-append (in_directory Read before) (lock_of (Page n) kind ∷ []) Directory
      ∙ rw (directory_in Read) refl

  -- the directory is given back
  pub released : (n : ℕ) (kind : LockKind) → without (on_page n kind (in_directory Read before)) Directory ≡ on_page n
      kind before
  released n kind =
      filter-append _ (in_directory Read before) (lock_of (Page n) kind ∷ [])
      ∙ ap (λ (xs : List Lock). xs ++ lock_of (Page n) kind ∷ []) (
      filter-append _ before (lock_of Directory Read ∷ []) ∙ end (without before Directory)
      ∙ without-none before Directory bare.directory)
    where
      end : (xs : List Lock) → xs ++ [] ≡ xs
      end [] = refl
      end (x ∷ xs) = ap (λ ys. x ∷ ys) (end xs)

  -- a page is given back for the next one
  pub hopped : (n m : ℕ) (kind : LockKind) → m ≢ n →
      without (on_page m kind (on_page n kind before)) (Page n) ≡ on_page m kind before
  hopped n m kind other =
      filter-append _ (on_page n kind before) (lock_of (Page m) kind ∷ [])
      ∙ rw (ne_eqb m n other) (ap (λ (xs : List Lock). xs ++ lock_of (Page m) kind ∷ []) (
      filter-append _ before (lock_of (Page n) kind ∷ []) ∙ rw (eq-eqb n n refl) (end (without before (Page n)))
      ∙ without-none before (Page n) (bare.pages n)))
    where
      end : (xs : List Lock) → xs ++ [] ≡ xs
      end [] = refl
      end (x ∷ xs) = ap (λ ys. x ∷ ys) (end xs)
