-- What is made of the element of a number, where one element goes and those next to it change.
use Rattle.std.proofs.Common.{◌≡◌, ℕ, suc, Bool, true, false, List, Option, Some, None, inl, inr, ◌⊎◌, refl, sym, ap, ◌∙◌}
use Rattle.std.proofs.lemmas.Bool.{eqb-true}
use Rattle.std.proofs.lemmas.Bool.Decides.{Decides-eqb}
use Rattle.std.proofs.lemmas.Option.{same_Some, slice_get-get_or}
use Rattle.std.specs.List.{find, remove}
use Rattle.std.specs.Prelude.{option_map, slice_get, ◌==◌, ◌≢◌}
use Rattle.queue_model.proofs.ListLemmas.{find-Some}
use Rattle.type_chains.proofs.Without.{beside, find_without}

module _ {X R : Type 0} (number : X → ℕ) (xs : List X) (i : ℕ) (x : X) (at_i : slice_get xs i ≡ Some x)
    (old new : X → R) where
  abbrev pub made : (X → R) → List X → ℕ → Option R
  made f ys n = option_map f (find (λ (y : X). number y == n) ys)

  -- the same is made, or the number is that of the one that goes, of the one before it or of the one behind it
  abbrev pub IsKept : ℕ → Type 0
  IsKept n = (made old xs n ≡ made new (remove xs i) n)
      ⊎ (number x ≡ n)
      ⊎ ((k : ℕ) × (y : X) × (suc k ≡ i) × (slice_get xs k ≡ Some y) × (number y ≡ n))
      ⊎ ((y : X) × (slice_get xs (suc i) ≡ Some y) × (number y ≡ n))

  pub all_kept : ((k : ℕ) (y : X) → slice_get xs k ≡ Some y → k ≢ i → k ≢ suc i → suc k ≢ i → new y ≡ old y) →
      (n : ℕ) → IsKept n
  all_kept far n = by (number x == n) refl
    where
      same : (o : Option X) → (number x == n) ≡ false → find (λ (y : X). number y == n) xs ≡ o →
          option_map new o ≡ option_map old o → made old xs n ≡ made new (remove xs i) n
      same o over was equal = ap (option_map old) was ∙ sym equal
          ∙ sym (ap (option_map new) (find_without (λ (y : X). number y == n) xs i x at_i over ∙ was))

      among : (o : Option X) → (number x == n) ≡ false → find (λ (y : X). number y == n) xs ≡ o → IsKept n
      among None over was = inl (same None over was refl)
      among (Some y) over was =
          let passes = find-Some (λ (y : X). number y == n) xs y was in
          let is = eqb-true (number y) n passes.0 in
          let (k, within, here) = passes.1 in
          let at = slice_get-get_or xs k y within ∙ ap Some here in
          let other : k ≢ i = λ place.
          let one = same_Some y x (sym at ∙ ap (slice_get xs) place ∙ at_i) in
          let clash : true ≡ false = sym ((Decides-eqb (number x) n).1 (ap number (sym one) ∙ is)) ∙ over in
          absurd cc in
          elim (beside i k other) [
            | inl near ↦ inr (inr (inl (k, y, near, at, is)))
            | inr (inl near) ↦ inr (inr (inr (y, ap (slice_get xs) (sym near) ∙ at, is)))
            | inr (inr apart) ↦ inl (same (Some y) over was (ap Some (far k y at other apart.0 apart.1)))
          ]

      by : (b : Bool) → (number x == n) ≡ b → IsKept n
      by true e = inr (inl (eqb-true (number x) n e))
      by false e = among (find (λ (y : X). number y == n) xs) e refl
