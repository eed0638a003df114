-- What a crash leaves of a device that is committed, or abandoned.
use Rattle.std.proofs.Common.{ℕ, ◌≡◌, inl, inr, ⊎_elim, IsTrue, sym, subst, Bool, true}
use Rattle.deferred_sync.specs.Deferred.{Commits, LeavesSince, Start}
use Rattle.safe_device.specs.Device.{DeviceState}
use Rattle.safe_device.specs.Left.{Left, alone}
use Rattle.safe_device.specs.Safe.{IsEither, StandsFor}
use Rattle.deferred_sync.specs.Crash.{IsBeforeOr, LeavesBeforeOrAfter, Pages}

module _ {P : Type 0} (moment : P → ℕ) (left_since : P → ℕ → Left → Type 0) (may_leave : P → Left → Type 0) where
  module _ (start : Start) (left : ℕ → Left → Type 0) where
    abbrev Becomes : (After : Pages → Type 0) → Type 0 → P → Type 0
    Becomes After Done pair = LeavesBeforeOrAfter moment left_since may_leave start.moment left start.pages After Done
        pair

    -- nothing was committed
    pub only_before : (After : Pages → Type 0) (Done : Type 0) (pair : P) →
        LeavesSince moment left_since start.moment left (StandsFor (alone start.pages)) pair → (Done → ⊥) →
        Becomes After Done pair
    only_before After Done pair is never = record {
      any_moment = record {
        later = is.later;
        each = λ c then. inl (is.each c then);
        before = λ t c le then. ⊎_elim (λ was. inl was) (λ now. inr (inl now)) (is.before t c le then);
      };
      done = λ done. absurd (never done);
    }

    -- what was written was committed, or a transfer has failed
    pub before_or_after : (honest : Bool) (After : Pages → Type 0) (Done : Type 0) (old new : DeviceState P)
        (succeeded : Bool) → IsTrue honest →
        Commits honest moment left_since may_leave start left old new succeeded → After old.content →
        (Done → succeeded ≡ true) → Becomes After Done new.pair
    before_or_after honest After Done old new succeeded sure commits file done =
        let is = commits.leaves sure in record {
          any_moment = record {
            later = is.later;
            each = λ c then. turned c (is.each c then);
            before = λ t c le then. ⊎_elim (λ was. inl was) (λ now. inr (turned c now)) (is.before t c le then);
          };
          done = λ well c may. record {
            pages = new.content;
            found = (commits.settled sure (done well)).kept c may;
            is = subst After (sym commits.same) file;
          };
        }
      where
        turned : (c : Left) → IsEither (alone start.pages) (alone old.content) c → IsBeforeOr start.pages After c
        turned c either =
            ⊎_elim (λ was. inl was) (λ now. inr (record { pages = old.content; found = now; is = file })) either
