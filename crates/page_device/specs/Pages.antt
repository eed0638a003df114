-- Lists of pages.
use Rattle.std.specs.Prelude.{ℕ, zero, suc, List, [], ◌∷◌, ◌++◌}

-- the pages at the first n places
abbrev pub first_pages : ℕ → (ℕ → List ℕ) → List (List ℕ)
first_pages zero page_at = []
first_pages (suc n) page_at = first_pages n page_at ++ page_at n ∷ []
