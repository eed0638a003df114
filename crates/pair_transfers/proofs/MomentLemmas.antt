-- What a crash leaves at any moment of a run on a pair.
use Rattle.std.proofs.Common.{arith, ℕ, inl, inr, ⊎_elim}
use Rattle.safe_device.specs.Crash.{Elapses, LeavesOnly}
use Rattle.safe_device.specs.Left.{Left}

module _ {P : Type 0} (moment : P → ℕ) (left_since : P → ℕ → Left → Type 0) (may_leave : P → Left → Type 0) where
  pub started : (old : P) (Q : Left → Type 0) → ((c : Left) → left_since old (moment old) c → may_leave old c) →
      ((c : Left) → may_leave old c → Q c) → LeavesOnly moment left_since old old Q
  started old Q only_now here = record {
    later = omega arith;
    each = λ c left. here c (only_now c left);
    before = λ t c le left. inl left;
  }

  -- one call more
  pub goes_on : (old mid new : P) (Q : Left → Type 0) → LeavesOnly moment left_since old mid Q →
      Elapses moment left_since may_leave mid new → ((c : Left) → may_leave new c → Q c) →
      LeavesOnly moment left_since old new Q
  goes_on old mid new Q so_far time here = record {
    later = omega (arith, so_far.later, time.later);
    each = λ c left. ⊎_elim (so_far.each c) (here c) (time.nothing_else (moment old) c so_far.later left);
    before = λ t c le left.
        ⊎_elim (so_far.before t c le) (λ now. inr (here c now))
        (time.nothing_else t c (omega (arith, le, so_far.later)) left);
  }

  -- no call
  pub stands_still : (old : P) → Elapses moment left_since may_leave old old
  stands_still old = record {
    later = omega arith;
    nothing_else = λ t c le left. inl left;
    keeps = λ t c le left. left;
  }
