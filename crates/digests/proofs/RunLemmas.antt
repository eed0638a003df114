-- Four pages of more.
use Rattle.std.proofs.Common.{◌≡◌, ◌∙◌, ap, subst, ℕ, ◌+◌, ◌-◌, ◌<◌, ◌≤◌, List, [], length, take, drop, slice_index_or}
use Rattle.std.proofs.Common.{arith, length-drop}
use Rattle.std.proofs.lemmas.List.{get_or-take, get_or-drop, length-take-le}
use Rattle.page_device.specs.Sealed.{IsSealed}
use Rattle.digests.specs.Run.{AreSealed}

pub AreSealed-at : (first from n : ℕ) (pages : List (List ℕ)) → n ≡ 4 → from + 4 ≤ length pages
    → AreSealed (first + from) (take n (drop from pages))
    → (k : ℕ) → from ≤ k → k < from + 4 → IsSealed (first + k) (slice_index_or pages k [])
AreSealed-at first from n pages four fits sealed k low high =
    let i : ℕ = k - from in
    let few : List (List ℕ) = take n (drop from pages) in
    let size : length few ≡ n = length-take-le n (drop from pages) (omega (arith, length-drop from pages)) in
    let inside : i < length few = omega arith in
    let at : from + i ≡ k = omega arith in
    let number : first + from + i ≡ first + k = omega arith in
    let page : slice_index_or few i [] ≡ slice_index_or pages k [] =
    get_or-take n (drop from pages) i [] (omega arith) ∙ get_or-drop from pages i []
    ∙ ap (λ (m : ℕ). slice_index_or pages m []) at in
    subst (λ (m : ℕ). IsSealed m (slice_index_or pages k [])) number
    (subst (λ (p : List ℕ). IsSealed (first + from + i) p) page (sealed i inside))
