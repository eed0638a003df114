-- Pages that are read one by one.
use Rattle.std.proofs.Common.{◌≡◌, ◌∙◌, sym, ap, ℕ, ◌+◌, ◌<◌, List, [], ◌∷◌, ◌++◌, length, take, get_or, Some, slice_get}
use Rattle.std.proofs.lemmas.List.{take_more}
use Rattle.std.proofs.lemmas.Option.{slice_get-get_or}

abbrev pub Pages : Type 0
Pages = List (List ℕ)

-- the page that is read
page_at : (content : Pages) (n : ℕ) (page d : List ℕ) → n < length content → slice_get content n ≡ Some page →
    page ≡ get_or content n d
page_at content n page d below is = let there = slice_get-get_or content n d below in cc

-- one page more was read
pub read-more : (content : Pages) (n : ℕ) (page : List ℕ) → n < length content → slice_get content n ≡ Some page →
    take (n + 1) content ≡ take n content ++ page ∷ []
read-more content n page below is =
    take_more content n page below
    ∙ ap (λ (p : List ℕ). take n content ++ p ∷ []) (sym (page_at content n page page below is))
