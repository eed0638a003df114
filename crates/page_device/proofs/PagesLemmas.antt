-- The pages at the first n places, one by one.
use Rattle.std.proofs.Common.{◌≡◌, ◌≢◌, refl, ◌∙◌, sym, ap, subst, ℕ, zero, suc, ◌<◌, ◌≤◌, List, [], ◌∷◌, ◌++◌}
use Rattle.std.proofs.Common.{length, arith, ◌⊎◌, inl, inr, Some, None, slice_get, slice_set}
use Rattle.std.proofs.Math.ListN.{get_or}
use Rattle.std.proofs.lemmas.Bool.{cases_eq, cases_lt}
use Rattle.std.proofs.lemmas.List.{same_lists, get_or_append_left, get_or-set_same, get_or-set_other, length_push}
use Rattle.std.proofs.lemmas.List.{length-set}
use Rattle.std.proofs.Math.Seq.{get_or-append_seam}
use Rattle.std.proofs.lemmas.Option.{slice_get-get_or, slice_get_past}
use Rattle.page_device.specs.Device.{DiffersAtMostAt}
use Rattle.page_device.specs.Pages.{first_pages}

pub first_pages_length : (n : ℕ) (f : ℕ → List ℕ) → length (first_pages n f) ≡ n
first_pages_length zero f = refl
first_pages_length (suc n) f = let longer = length_push (first_pages n f)
    (f n) in let size = first_pages_length n f in omega arith

pub first_pages_at : (n k : ℕ) (f : ℕ → List ℕ) (d : List ℕ) → k < n → get_or (first_pages n f) k d ≡ f k
first_pages_at zero k f d within = absurd (omega arith)
first_pages_at (suc n) k f d within = at (cases_eq k n) (λ below. first_pages_at n k f d below)
  where
    shown : List (List ℕ)
    shown = first_pages n f

    size : length shown ≡ n
    size = first_pages_length n f

    at : (k ≡ n) ⊎ (k ≡ n → ⊥) → (k < n → get_or shown k d ≡ f k) → get_or (shown ++ f n ∷ []) k d ≡ f k
    at (inl last) before =
        ap (λ i. get_or (shown ++ f n ∷ []) i d) (last ∙ sym size) ∙ get_or-append_seam shown (f n) [] d
        ∙ ap f (sym last)
    at (inr earlier) before =
        let below : k < n = omega arith in
        get_or_append_left shown (f n ∷ []) d k (subst (λ m. k < m) (sym size) below) ∙ before below

pub first_pages_get : (n k : ℕ) (f : ℕ → List ℕ) → k < n → slice_get (first_pages n f) k ≡ Some (f k)
first_pages_get n k f within =
    slice_get-get_or (first_pages n f) k [] (subst (λ m. k < m) (sym (first_pages_length n f)) within)
    ∙ ap Some (first_pages_at n k f [] within)

-- pages that are the same at the first n places
pub first_pages_same : (n : ℕ) (f g : ℕ → List ℕ) → ((k : ℕ) → k < n → g k ≡ f k) → first_pages n g ≡ first_pages n f
first_pages_same zero f g same = refl
first_pages_same (suc n) f g same =
    ap (λ xs. xs ++ g n ∷ []) (first_pages_same n f g (λ k within. same k (omega arith)))
    ∙ ap (λ x. first_pages n f ++ x ∷ []) (same n (omega arith))

-- pages of which one became another
pub first_pages_set : (n p : ℕ) (f g : ℕ → List ℕ) (page : List ℕ) → p < n → g p ≡ page → ((k : ℕ) → k ≢ p → g k ≡ f k)
    → first_pages n g ≡ slice_set (first_pages n f) p page
first_pages_set n p f g page within is_page others =
    same_lists (first_pages n g) (slice_set (first_pages n f) p page)
    (first_pages_length n g ∙ sym (length-set (first_pages n f) p page ∙ first_pages_length n f))
    (λ k d inside. at k d (subst (λ m. k < m) (first_pages_length n g) inside) (cases_eq k p))
  where
    old : List (List ℕ)
    old = first_pages n f

    at : (k : ℕ) (d : List ℕ) → k < n → (k ≡ p) ⊎ (k ≡ p → ⊥)
        → get_or (first_pages n g) k d ≡ get_or (slice_set old p page) k d
    at k d inside (inl same) =
        first_pages_at n k g d inside ∙ ap g same ∙ is_page
        ∙ sym (get_or-set_same old p page d (subst (λ m. p < m) (sym (first_pages_length n f)) within))
        ∙ ap (λ i. get_or (slice_set old p page) i d) (sym same)
    at k d inside (inr other) =
        first_pages_at n k g d inside ∙ others k other ∙ sym (first_pages_at n k f d inside)
        ∙ sym (get_or-set_other old p k page d other)

-- pages of which one may have become any other
pub first_pages_differ : (n p : ℕ) (f g : ℕ → List ℕ) → ((k : ℕ) → k ≢ p → g k ≡ f k)
    → DiffersAtMostAt p (first_pages n f) (first_pages n g)
first_pages_differ n p f g others = record {
  as_many = first_pages_length n g ∙ sym (first_pages_length n f);
  others = λ k other. at k (others k other) (cases_lt k n);
}
  where
    past : (k : ℕ) (h : ℕ → List ℕ) → n ≤ k → slice_get (first_pages n h) k ≡ None
    past k h outside = let size = first_pages_length n h in slice_get_past (first_pages n h) k (omega arith)

    at : (k : ℕ) → g k ≡ f k → (k < n) ⊎ (n ≤ k) → slice_get (first_pages n g) k ≡ slice_get (first_pages n f) k
    at k same (inl inside) = first_pages_get n k g inside ∙ ap Some same ∙ sym (first_pages_get n k f inside)
    at k same (inr outside) = past k g outside ∙ sym (past k f outside)
