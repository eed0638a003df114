-- How runs of calls on a pair follow one another.
use Rattle.std.proofs.Common.{inl, inr, ⊎_elim, ℕ, arith}
use Rattle.safe_device.specs.Left.{Left}
use Rattle.safe_device.specs.Crash.{Keeps, LeavesOnly}

module _ {P : Type 0} (moment : P → ℕ) (left_since : P → ℕ → Left → Type 0) (may_leave : P → Left → Type 0) where
  -- none
  pub started : (old : P) (Q : Left → Type 0) → ((c : Left) → left_since old (moment old) c → may_leave old c) →
      Keeps Q (may_leave old) → LeavesOnly moment left_since old old Q
  started old Q only_now here = record {
    later = omega arith;
    each = λ c left. here c (only_now c left);
    before = λ t c le left. inl left;
  }

module _ {P : Type 0} (moment : P → ℕ) (left_since : P → ℕ → Left → Type 0) where
  -- a run, and then another
  pub joined : (old mid new : P) (Q R S : Left → Type 0) → LeavesOnly moment left_since old mid Q →
      LeavesOnly moment left_since mid new R → ((c : Left) → Q c → S c) → ((c : Left) → R c → S c) →
      LeavesOnly moment left_since old new S
  joined old mid new Q R S one two q r = record {
    later = omega (arith, one.later, two.later);
    each = λ c left. ⊎_elim (λ was. q c (one.each c was)) (r c) (two.before (moment old) c one.later left);
    before = λ t c le left.
        ⊎_elim (λ was. ⊎_elim (λ then. inl then) (λ then. inr (q c then)) (one.before t c le was))
        (λ now. inr (r c now))
        (two.before t c (omega (arith, le, one.later)) left);
  }

  -- what is left has also what follows
  pub weaker : (old new : P) (Q S : Left → Type 0) → LeavesOnly moment left_since old new Q →
      ((c : Left) → Q c → S c) → LeavesOnly moment left_since old new S
  weaker old new Q S run q = record {
    later = run.later;
    each = λ c left. q c (run.each c left);
    before = λ t c le left. ⊎_elim (λ was. inl was) (λ now. inr (q c now)) (run.before t c le left);
  }
