-- The steps that are left fall.
use Rattle.std.proofs.Common.{◌≡◌, ℕ, suc, ◌+◌, ◌*◌, ◌%◌, ◌^◌, ◌<◌, ◌≤◌, false, arith, inl, inr, eqb, eqb-true, if◌then◌else◌}
use Rattle.std.proofs.lemmas.Bool.{cases_Bool}
use Rattle.step_rules.specs.Words.{Store, range_at, distance, Answers}
use Rattle.numbers.proofs.Tests.{both_true}
use Rattle.file_pages.specs.hash_file.Store.{has_bucket}
use Rattle.step_rules.specs.Falls.{search_left, ToLook, ToHop}
use Rattle.stale_search.specs.Searches.{answers_at}

pub twice_below : (d h : ℕ) → d ≤ h + 1 → 2 * d + 3 < 2 * h + 6
twice_below d h few = omega (arith, few)

answers_not : (s : Store) (n k : ℕ) → (Answers s n k → ⊥) → answers_at s n k ≡ false
answers_not s n k other = elim (cases_Bool (answers_at s n k)) [
  | inl is ↦ absurd (let both = both_true (has_bucket s n) (eqb (k % 2 ^ (range_at s n).depth)
      (range_at s n).pattern) is in
      other (both.0, eqb-true (k % 2 ^ (range_at s n).depth) (range_at s n).pattern both.1))
  | inr is ↦ is
]

pub hop_falls : (s : Store) (n m k : ℕ) → (Answers s n k → ⊥) → distance s n k ≡ suc (distance s m k) →
    search_left s k (ToLook m) < (if answers_at s n k then search_left s k (ToLook n) + 1 else search_left s k
    (ToHop n))
hop_falls s n m k other nearer = rw (answers_not s n k other) (less (distance s m k) (distance s n k) nearer)
  where
    less : (d e : ℕ) → e ≡ suc d → 2 * d + 1 < 2 * e
    less d e is = omega (arith, is)
