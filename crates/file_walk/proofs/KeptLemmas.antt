-- Entries are kept behind those that are kept already, up to the most.
use Rattle.std.proofs.Common.{ℕ, zero, suc, ◌≡◌, ◌+◌, ◌<◌, ◌≤◌, min, List, [], ◌∷◌, ◌++◌, length, take, drop, get_or, refl, sym, ap, subst, ◌∙◌, append_assoc, length-append}
use Rattle.std.proofs.lemmas.List.{take-append-drop, take_all, take_more, length-take}
use Rattle.std.proofs.Math.Seq.{take-append_seam}

-- what is taken of a list that is as long already
prefix_taken : (most : ℕ) (xs ys : List ℕ) → length xs ≡ most → take most (xs ++ ys) ≡ xs
prefix_taken most xs ys long = ap (λ n. take n (xs ++ ys)) (sym long) ∙ take-append_seam xs ys

module _ (most : ℕ) (old es : List ℕ) (items : List ℕ) where
  -- the most are kept before the page is at its end
  pub kept_full : (k : ℕ) → items ≡ old ++ take k es → length items ≡ most → items ≡ take most (old ++ es)
  kept_full k kept long =
      let parts : old ++ es ≡ items ++ drop k es =
      ap (λ xs. old ++ xs) (sym (take-append-drop k es)) ∙ sym (append_assoc old (take k es) (drop k es))
      ∙ ap (λ xs. xs ++ drop k es) (sym kept) in
      sym (ap (take most) parts ∙ prefix_taken most items (drop k es) long)

  -- the page is at its end
  pub kept_all : (k : ℕ) → items ≡ old ++ take k es → length es ≤ k → length items ≤ most
      → items ≡ take most (old ++ es)
  kept_all k kept ended room =
      let whole : items ≡ old ++ es = kept ∙ ap (λ xs. old ++ xs) (take_all k es ended) in
      whole ∙ sym (take_all most (old ++ es) (subst (λ xs. length xs ≤ most) whole room))

  -- one entry more
  pub kept_more : (k : ℕ) → k < length es → items ≡ old ++ take k es →
      items ++ get_or es k 0 ∷ [] ≡ old ++ take (k + 1) es
  kept_more k within kept =
      ap (λ xs. xs ++ get_or es k 0 ∷ []) kept ∙ append_assoc old (take k es) (get_or es k 0 ∷ [])
      ∙ ap (λ xs. old ++ xs) (sym (take_more es k 0 within))

-- what is taken of a list of which a part was taken before
pub taken_again : (most : ℕ) (xs ys : List ℕ) → take most (take most xs ++ ys) ≡ take most (xs ++ ys)
taken_again zero xs ys = refl
taken_again (suc most) [] ys = refl
taken_again (suc most) (x ∷ xs) ys = ap (λ zs. x ∷ zs) (taken_again most xs ys)

pub taken_length : (most : ℕ) (xs ys : List ℕ) → length (take most (xs ++ ys)) ≡ min most (length xs + length ys)
taken_length most xs ys = length-take most (xs ++ ys) ∙ ap (min most) (length-append xs ys)
