-- The device of a kernel, from where it began.
use Rattle.std.proofs.Common.{◌≡◌, ◌≤◌, ℕ, Bool, true, false, ◌||◌, IsTrue, List, length, Option, Some, None, refl, sym, ap, ◌∙◌, subst, arith, nat_le, if◌then◌else◌}
use Rattle.std.proofs.lemmas.Bool.Decides.{nat_tests}
use Rattle.page_device.specs.Device.{HasRisen}
use Rattle.buffer_pool.specs.Pool.{PoolState, spared}
use Rattle.interleaving_core.specs.Owing.{is_failure}
use Rattle.interleavings.proofs.RisenLemmas.{risen_within, step_risen}
use Rattle.interleavings.proofs.ToldLemmas.{risen_since}
use Rattle.interleavings.specs.Laws.{StepsRefineAndDo}
use Rattle.interleavings.specs.Refining.{Refines}
use Rattle.interleavings.specs.Words.{IsStep}
use Rattle.workers.specs.Held.{KeepsDevice}
use Rattle.workers.specs.Origins.{Origin}
use Rattle.workers.specs.Words.{IsTurn, KernelState, RecordKey, State, Step}

-- ---- pages that are spared

pub all_spared : (s : PoolState) → length s.stored ≤ s.frames → spared s ≡ Some s.stored
unfolding spared
all_spared s roomy = rw there refl
  where
    there : nat_le (length s.stored) s.frames ≡ true
    there = grind (arith, nat_tests)

pub stored_is : (s : PoolState) (content : List (List ℕ)) → spared s ≡ Some content → s.stored ≡ content
unfolding spared
stored_is s content is = some_of (nat_le (length s.stored) s.frames) s.stored content is
  where
    some_of : (b : Bool) (x y : List (List ℕ))
        → ◌≡◌ {A = Option (List (List ℕ))} (if b then Some x else None) (Some y) → x ≡ y
    some_of true x y same = cc
    some_of false x y same = absurd cc

-- ---- what is done leaves it so

module _ {K : Type 0} (o : Origin) (old new : KernelState K) (was : KeepsDevice o old.pool old.failed) where
  -- no page was read or written
  pub device_same : new.pool ≡ old.pool → new.failed ≡ old.failed → KeepsDevice o new.pool new.failed
  device_same pool failed = record {
    size = ap (λ (p : PoolState). length p.images) pool ∙ was.size;
    pages = λ roomy. ap spared pool ∙ was.pages roomy;
    later = subst (λ (p : PoolState). o.faults ≤ p.faults) (sym pool) was.later;
    cause = λ honest broken.
        subst (λ (p : PoolState). HasRisen o.faults p.faults) (sym pool) (was.cause honest (sym failed ∙ broken));
  }

  -- where a step had failed before, its cause is known
  cause_by : old.pool.faults ≤ new.pool.faults →
      (IsTrue o.honest → old.failed ≡ false → HasRisen old.pool.faults new.pool.faults) → IsTrue o.honest →
      HasRisen o.faults new.pool.faults
  cause_by later first honest = by old.failed refl
    where
      from : o.faults ≤ old.pool.faults
      from = was.later

      by : (b : Bool) → old.failed ≡ b → HasRisen o.faults new.pool.faults
      by true e = risen_within (omega arith) from later (was.cause honest e)
      by false e = risen_since from (first honest e)

  device_after : length new.pool.images ≡ length old.pool.images → spared new.pool ≡ spared old.pool →
      old.pool.faults ≤ new.pool.faults →
      (IsTrue o.honest → old.failed ≡ false → new.failed ≡ true → HasRisen old.pool.faults new.pool.faults) →
      KeepsDevice o new.pool new.failed
  device_after as_many stored later first = record {
    size = as_many ∙ was.size;
    pages = λ roomy. stored ∙ was.pages roomy;
    later = let from = was.later in omega (arith, from, later);
    cause = λ honest broken. cause_by later (λ true_to_it sound. first true_to_it sound broken) honest;
  }

  -- of an honest device a step fails only where a transfer does
  pub device_by_turn : (hash : RecordKey → ℕ) (seat : ℕ) (did : Step) → StepsRefineAndDo K →
      (turn : IsTurn seat did old new) → (IsTrue o.honest → IsStep hash seat did old new) →
      (IsTrue o.honest → (base : State) × Refines hash base old) → KeepsDevice o new.pool new.failed
  device_by_turn hash seat did does turn step led =
      device_after turn.run.rest.pages turn.run.rest.stored turn.run.rest.later
      (λ honest sound broken. let from = led honest in
      step_risen does hash from.0 seat did old new from.1 (step honest) sound
      (sym (turn.failed ∙ ap (λ (b : Bool). b || is_failure did) sound) ∙ broken))
