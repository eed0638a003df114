-- A lock at the end of a row.
use Rattle.std.proofs.Common.{◌≡◌, ◌≢◌, refl, sym, ap, ◌∙◌, ℕ, false, ne_eqb, List, [], ◌∷◌, ◌++◌, Option, Some, None, inl, inr}
use Rattle.std.proofs.lemmas.Bool.{cases_Bool}
use Rattle.std.proofs.lemmas.List.Elements.{filter-append}
use Rattle.page_locks.specs.declared.lock.Lock.{Lock}
use Rattle.page_locks.specs.declared.lock.LockKind.{LockKind}
use Rattle.page_locks.specs.declared.lock.LockKind.TheVariants.{Selective, Exclusive}
use Rattle.page_locks.specs.declared.lock.LockName.{LockName}
use Rattle.page_locks.specs.declared.lock.LockName.TheVariants.{Directory, Page}
use Rattle.page_locks.specs.Locks.{is_same, is_on, kind_of, lock_of, without, converted, in_kind}
use Rattle.page_locks.proofs.NameLemmas.{is_same-itself}
use Rattle.page_locks.proofs.RowLemmas.{first_kind, kind_of-append}
use Rattle.stale_search.specs.Rows.{HasNoFileLock, in_directory, on_page}
use Rattle.stale_search.proofs.RowLemmas.{without-none}

end : (xs : List Lock) → xs ++ [] ≡ xs
end [] = refl
end (x ∷ xs) = ap (λ ys. x ∷ ys) (end xs)

-- no kind behind a kind or none
no_more : (o : Option LockKind) → first_kind o None ≡ o
no_more None = refl
no_more (Some k) = refl

-- what is held before a lock on another name
pub held_before : (xs : List Lock) (name n : LockName) (kind : LockKind) → is_same name n ≡ false →
    kind_of (xs ++ lock_of name kind ∷ []) n ≡ kind_of xs n
held_before xs name n kind other =
    kind_of-append xs (lock_of name kind ∷ []) n ∙ rw other (no_more (kind_of xs n))

-- a lock that is the only one on its name
pub held_last : (xs : List Lock) (name : LockName) (kind : LockKind) → kind_of xs name ≡ None →
    kind_of (xs ++ lock_of name kind ∷ []) name ≡ Some kind
held_last xs name kind none =
    kind_of-append xs (lock_of name kind ∷ []) name ∙ rw (none, is_same-itself name) refl

-- it is given back
pub without_last : (xs : List Lock) (name : LockName) (kind : LockKind) → kind_of xs name ≡ None →
    without (xs ++ lock_of name kind ∷ []) name ≡ xs
without_last xs name kind none =
    filter-append _ xs (lock_of name kind ∷ [])
    ∙ rw (is_same-itself name) (end (without xs name) ∙ without-none xs name none)

module _ (before : List Lock) (bare : HasNoFileLock before) where
  pub directory_held : (kind : LockKind) → kind_of (in_directory kind before) Directory ≡ Some kind
  directory_held kind = held_last before Directory kind bare.directory

  pub no_page_held : (kind : LockKind) (n : ℕ) → kind_of (in_directory kind before) (Page n) ≡ None
  no_page_held kind n = held_before before Directory (Page n) kind refl ∙ bare.pages n

  module _ (kind lock : LockKind) (page : ℕ) where
    pub directory_beside : kind_of (on_page page lock (in_directory kind before)) Directory ≡ Some kind
    directory_beside = held_before (in_directory kind before) (Page page) Directory lock refl ∙ directory_held kind

    pub page_held : kind_of (on_page page lock (in_directory kind before)) (Page page) ≡ Some lock
    page_held = held_last (in_directory kind before) (Page page) lock (no_page_held kind page)

    pub no_other_held : (n : ℕ) → page ≢ n → kind_of (on_page page lock (in_directory kind before)) (Page n) ≡ None
    no_other_held n other =
        held_before (in_directory kind before) (Page page) (Page n) lock (ne_eqb page n other) ∙ no_page_held kind n

  module _ (left right : ℕ) (apart : left ≢ right) where
    abbrev both : List Lock
    both = on_page right Selective (on_page left Selective (in_directory Selective before))

    pub directory_with_both : kind_of both Directory ≡ Some Selective
    directory_with_both =
        held_before (on_page left Selective (in_directory Selective before)) (Page right) Directory Selective refl
        ∙ directory_beside Selective Selective left

    pub left_held : kind_of both (Page left) ≡ Some Selective
    left_held =
        held_before (on_page left Selective (in_directory Selective before)) (Page right) (Page left) Selective
        (ne_eqb right left (λ e. apart (sym e)))
        ∙ page_held Selective Selective left

    pub right_held : kind_of both (Page right) ≡ Some Selective
    right_held = held_last (on_page left Selective (in_directory Selective before)) (Page right) Selective
        (no_other_held Selective Selective left right apart)

-- the directory's lock becomes exclusive
converted_none : (xs : List Lock) (name : LockName) (kind : LockKind) → kind_of xs name ≡ None →
    converted xs name kind ≡ xs
converted_none [] name kind none = refl
converted_none (x ∷ xs) name kind none = elim (cases_Bool (is_on name x)) [
  | inl on ↦ absurd (let some : Some x.kind ≡ None = rw on at none in cc)
  | inr off ↦ let rest : kind_of xs name ≡ None = rw off at none in rw off
      (ap (λ ys. x ∷ ys) (converted_none xs name kind rest))
]

converted_append : (xs ys : List Lock) (name : LockName) (kind : LockKind) →
    converted (xs ++ ys) name kind ≡ converted xs name kind ++ converted ys name kind
converted_append [] ys name kind = refl
converted_append (x ∷ xs) ys name kind = ap (λ zs. in_kind name kind x ∷ zs) (converted_append xs ys name kind)

pub converted_last : (before : List Lock) → HasNoFileLock before →
    converted (in_directory Selective before) Directory Exclusive ≡ in_directory Exclusive before
converted_last before bare =
    converted_append before (lock_of Directory Selective ∷ []) Directory Exclusive
    ∙ ap (λ (xs : List Lock). xs ++ lock_of Directory Exclusive ∷ [])
    (converted_none before Directory Exclusive bare.directory)
