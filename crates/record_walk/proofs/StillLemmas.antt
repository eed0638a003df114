-- Records that are read one after the other stand as before.
use Rattle.std.proofs.Common.{ℕ, Bool, List, Option, refl, ◌∙◌, arith}
use Rattle.record_walk.specs.Held.{IsStill}
use Rattle.record_walk.specs.Words.{RecordKey}

module _ {F : Type 0} (held : F → RecordKey → Option (List ℕ)) (pages : F → List (List ℕ))
    (honest : F → Bool) (count : F → ℕ) where
  pub still_none : (old : F) → IsStill held pages honest count old old
  still_none old = record { same = refl; kept = refl; honesty = refl; later = omega arith }

  pub still_more : (old now next : F) → IsStill held pages honest count old now →
      IsStill held pages honest count now next → IsStill held pages honest count old next
  still_more old now next h k = record {
    same = k.same ∙ h.same;
    kept = k.kept ∙ h.kept;
    honesty = k.honesty ∙ h.honesty;
    later = let before = h.later in let after = k.later in omega (arith, before, after);
  }
