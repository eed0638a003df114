-- The locks of a split, in the row of its seat, and what it holds once the bucket is given back.
use Rattle.std.proofs.Common.{◌≡◌, refl, ap, ◌∙◌, ℕ, List, [], ◌∷◌, ◌++◌, Some, None, eq-eqb}
use Rattle.std.proofs.lemmas.List.Elements.{filter-append}
use Rattle.page_locks.specs.Locks.{kind_of, without}
use Rattle.page_locks.proofs.RowLemmas.{kind_of-append}
use Rattle.stale_search.specs.Searches.{HasNoFileLock}
use Rattle.stale_search.proofs.RowLemmas.{without-none}
use Rattle.split_merge.specs.Words.{Lock, Selective, Directory, Page, lock_of}
use Rattle.split_merge.specs.Splits.{in_directory, on_bucket}

end : (xs : List Lock) → xs ++ [] ≡ xs
end [] = refl
end (x ∷ xs) = ap (λ ys. x ∷ ys) (end xs)

module _ (before : List Lock) (bare : HasNoFileLock before) where
  pub directory_in : kind_of (in_directory before) Directory ≡ Some Selective
  directory_in = kind_of-append before (lock_of Directory Selective ∷ []) Directory ∙ rw bare.directory refl

  page_not_in : (n : ℕ) → kind_of (in_directory before) (Page n) ≡ None
  page_not_in n = kind_of-append before (lock_of Directory Selective ∷ []) (Page n) ∙ rw (bare.pages n) refl

  pub bucket_on : (page : ℕ) → kind_of (on_bucket page before) (Page page) ≡ Some Selective
  bucket_on page =
      kind_of-append (in_directory before) (lock_of (Page page) Selective ∷ []) (Page page)
      ∙ rw (page_not_in page, eq-eqb page page refl) refl

  -- the bucket is given back
  pub bucket_off : (page : ℕ) → without (on_bucket page before) (Page page) ≡ in_directory before
  bucket_off page =
      filter-append _ (in_directory before) (lock_of (Page page) Selective ∷ [])
      ∙ rw (eq-eqb page page refl) (end (without (in_directory before) (Page page)))
      ∙ without-none (in_directory before) (Page page) (page_not_in page)
