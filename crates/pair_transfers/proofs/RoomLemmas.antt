-- Room that has taken memory has what it had.
use Rattle.std.proofs.Common.{arith, ℕ, ◌≡◌, refl, sym, ap, ◌∙◌, true, List, [], ◌∷◌, length, Result, Ok, Err, OnOk, OnErr}
use Rattle.std.specs.Prelude.{◌==◌, slice_index_or}
use Rattle.std.proofs.lemmas.Bool.{eqb-true}

pub has_none : (many : ℕ) (pages : List (List ℕ)) → many ≡ length pages → (many == 0) ≡ true → pages ≡ []
has_none many [] is none = refl
has_none many (page ∷ pages) is none =
    let zero : many ≡ 0 = eqb-true many 0 none in absurd (omega (arith, is, zero))

pub stays : {E : Type 0} (zeros : List ℕ) (old new : List (List ℕ)) (added : Result (Unit {0}) E) → old ≡ [] →
    OnOk added (new ≡ zeros ∷ []) → OnErr added (new ≡ []) → slice_index_or new 0 zeros ≡ slice_index_or old 0 zeros
stays zeros old new (Ok u) none is same =
    ap (λ (ps : List (List ℕ)). slice_index_or ps 0 zeros) is
    ∙ sym (ap (λ (ps : List (List ℕ)). slice_index_or ps 0 zeros) none)
stays zeros old new (Err e) none is same =
    ap (λ (ps : List (List ℕ)). slice_index_or ps 0 zeros) same
    ∙ sym (ap (λ (ps : List (List ℕ)). slice_index_or ps 0 zeros) none)
