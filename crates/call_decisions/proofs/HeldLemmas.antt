-- A name is one of those that are held, or none of them.
use Rattle.std.proofs.Common.{◌≡◌, ◌⊎◌, inl, inr, zero, suc, Bool, true, false, List, [], ◌∷◌, refl, sym, ap, ◌∙◌, arith}
use Rattle.std.specs.List.{Contains}
use Rattle.std.proofs.lemmas.Bool.{true≢false}
use Rattle.page_locks.specs.Locks.{is_same}
use Rattle.page_locks.proofs.NameLemmas.{is_same-itself, is_same-true}
use Rattle.call_decisions.proofs.OwedNames.{LockName}

tail_has : (n name : LockName) (ns : List LockName) → Contains ns name → Contains (n ∷ ns) name
tail_has n name ns (k, within, at) = (suc k, omega (arith, within), at)

none_here : (n name : LockName) (ns : List LockName) → is_same n name ≡ false → (Contains ns name → ⊥) →
    Contains (n ∷ ns) name → ⊥
none_here n name ns other none (zero, within, at) =
    true≢false (sym (is_same-itself name) ∙ ap (λ (m : LockName). is_same m name) (sym at) ∙ other)
none_here n name ns other none (suc k, within, at) = none (k, omega (arith, within), at)

pub has_or_not : (ns : List LockName) (name : LockName) → Contains ns name ⊎ (Contains ns name → ⊥)
has_or_not [] name = inr (λ (k, within, at). omega (arith, within))
has_or_not (n ∷ ns) name = by (is_same n name) refl (has_or_not ns name)
  where
    by : (b : Bool) → is_same n name ≡ b → Contains ns name ⊎ (Contains ns name → ⊥) →
        Contains (n ∷ ns) name ⊎ (Contains (n ∷ ns) name → ⊥)
    by true is rest = inl (0, omega arith, is_same-true n name is)
    by false is (inl has) = inl (tail_has n name ns has)
    by false is (inr none) = inr (none_here n name ns is none)
