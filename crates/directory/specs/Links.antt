-- Items that follow one another by next links, as the pages of a chain do (Ellis 1983).
use Rattle.std.specs.Prelude.{ℕ, zero, suc, ◌≡◌, Bool, List, [], ◌∷◌, if◌then◌else◌}

-- from x on the items follow one another by their next links, and the last one's leads to e
abbrev pub Links : {X : Type 0} → (X → X) → X → List X → X → Type 0
Links next x [] e = x ≡ e
Links next x (y ∷ ys) e = (x ≡ y) × Links next (next y) ys e

-- where so many hops from x lead
abbrev pub after_hops : {X : Type 0} → (X → X) → ℕ → X → X
after_hops next zero x = x
after_hops next (suc hops) x = after_hops next hops (next x)

-- the items met from x on, up to the first that is not live or until the fuel is spent
abbrev pub met_from : {X : Type 0} → (X → Bool) → (X → X) → ℕ → X → List X
met_from live next zero x = []
met_from live next (suc fuel) x = if live x then x ∷ met_from live next fuel (next x) else []
