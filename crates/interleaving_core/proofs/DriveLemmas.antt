-- A seat is driven.
use Rattle.std.proofs.Common.{◌≡◌, refl, sym, ◌∙◌, subst, inl, inr, ℕ, zero, suc, ◌+◌, ◌<◌, true, Option, None, Some, arith}
use Rattle.file_pages.specs.declared.fault.FileFault.{FileFault}
use Rattle.step_rules.specs.declared.kind.Kind.{Kind}
use Rattle.interleaving_core.specs.Words.{IsSeat, RecordKey}
use Rattle.interleaving_core.specs.Driving.{EndsBy, GoesThrough, IsDriven, IsStep, Moves, MovesFrom}
use Rattle.interleaving_core.specs.Kernel.{IsWhole, KernelState}
use Rattle.interleaving_core.specs.Owing.{IsMove, IsRun, answer_told, failed, failure_by, fault_told}
use Rattle.interleaving_core.specs.declared.kernel.TheConstants.{MOST_STEPS}
use Rattle.interleaving_core.specs.declared.step.Step.{Step}
use Rattle.interleaving_core.specs.declared.step.Step.TheVariants as steps
use Rattle.interleaving_core.proofs.KernelLemmas.{its_row}
use Rattle.interleaving_core.proofs.RunLemmas.{runs_on, seat_stays, stays_put}

-- so far each step has moved
pub record HasMoved {K : Type 0} (of : K → RecordKey → ℕ) (seat moves : ℕ) (old now : KernelState K) : Type 0 where
  pub moved : Moves (of old.keys) seat moves old now
  pub run : IsRun seat None old now
  pub seated : IsSeat now.locks seat

pub none_made : {K : Type 0} (of : K → RecordKey → ℕ) (seat : ℕ) (s : KernelState K) → IsWhole s →
    IsSeat s.locks seat → HasMoved of seat 0 s s
none_made of seat s whole is = record { moved = refl; run = stays_put seat s (its_row s whole seat); seated = is }

module _ {K : Type 0} (of : K → RecordKey → ℕ) (seat moves : ℕ) (old now : KernelState K)
    (so_far : HasMoved of seat moves old now) where
  module _ (did : Step) (new : KernelState K) (step : IsStep (of now.keys) seat did now new) where
    -- no step changes the pseudokeys
    at_its_keys : IsStep (of old.keys) seat did now new
    at_its_keys = subst (λ (keys : K). IsStep (of keys) seat did now new) so_far.run.rest.keys step

    pub moves_on : (kind : Kind) → did ≡ steps.Moved kind → HasMoved of seat (moves + 1) old new
    moves_on kind is = subst (λ (n : ℕ). HasMoved of seat n old new) more record {
      moved = record {
        before = now;
        stands = so_far.moved;
        kind = kind;
        step = subst (λ (d : Step). IsStep (of old.keys) seat d now new) is at_its_keys;
      };
      run = subst (λ (d : Step). IsRun seat (answer_told d) old new) is
          (runs_on seat did old now new so_far.run step.turn);
      seated = seat_stays seat (answer_told did) now new step.turn.run so_far.seated;
    }
      where
        more : suc moves ≡ moves + 1
        more = omega arith

    pub rests_at : moves < MOST_STEPS → (IsMove did → ⊥) → IsDriven (of old.keys) seat did old new
    rests_at few rests = record {
      moves = moves;
      before = now;
      moved = so_far.moved;
      ends = inl (record { few = few; step = at_its_keys; rests = rests });
    }

  pub is_spent : (new : KernelState K) → moves ≡ MOST_STEPS →
      new ≡ record now { failed = true; failure = failure_by seat failed None } →
      IsDriven (of old.keys) seat failed old new
  is_spent new most marked = record {
    moves = moves;
    before = now;
    moved = so_far.moved;
    ends = inr (record { most = most; told = refl; marked = marked });
  }

-- so many moves after those, and one more
one_after : {K : Type 0} (of : K → RecordKey → ℕ) (seat moves n : ℕ) (old now : KernelState K) →
    HasMoved of seat moves old now → (new : KernelState K)
    (m : MovesFrom (λ before. Moves (of now.keys) seat n now before) (of now.keys) seat new) →
    HasMoved of seat (moves + n) old m.before → HasMoved of seat (moves + suc n) old new
one_after {K} of seat moves n old now so_far new m before =
    subst (λ (x : ℕ). HasMoved of seat x old new) more
    (moves_on of seat (moves + n) old m.before before (steps.Moved m.kind) new
    (subst (λ (keys : K). IsStep (of keys) seat (steps.Moved m.kind) m.before new)
    (so_far.run.rest.keys ∙ sym before.run.rest.keys) m.step) m.kind refl)
  where
    more : moves + n + 1 ≡ moves + suc n
    more = omega arith

-- so many moves after those
pub moves_after : {K : Type 0} (of : K → RecordKey → ℕ) (seat moves : ℕ) (old now : KernelState K) →
    HasMoved of seat moves old now → (n : ℕ) (new : KernelState K) → Moves (of now.keys) seat n now new →
    HasMoved of seat (moves + n) old new
moves_after {K} of seat moves old now so_far zero new is =
    subst (λ (k : KernelState K). HasMoved of seat (moves + 0) old k) (sym is)
    (subst (λ (n : ℕ). HasMoved of seat n old now) more so_far)
  where
    more : moves ≡ moves + 0
    more = omega arith
moves_after of seat moves old now so_far (suc n) new m =
    one_after of seat moves n old now so_far new m (moves_after of seat moves old now so_far n m.before m.stands)

-- ---- what is made in one go behind those

module _ {K : Type 0} (of : K → RecordKey → ℕ) (seat moves : ℕ) (old now : KernelState K)
    (so_far : HasMoved of seat moves old now) (n : ℕ) (fault : Option FileFault) (new : KernelState K)
    (goes : GoesThrough (of now.keys) seat n fault now new) where
  behind : HasMoved of seat (moves + n) old goes.before
  behind = moves_after of seat moves old now so_far n goes.before goes.moved

  ends_there : (o : Option FileFault) → o ≡ None → EndsBy (of now.keys) seat o goes.before new → new ≡ goes.before
  ends_there None none ends = ends
  ends_there (Some met) none ends = absurd cc

  -- no fault was met
  pub goes_on : fault ≡ None → HasMoved of seat (moves + n) old new
  goes_on none =
      subst (λ (k : KernelState K). HasMoved of seat (moves + n) old k) (sym (ends_there fault none goes.ends)) behind

  module _ (met : FileFault) (is : fault ≡ Some met) where
    last : IsStep (of goes.before.keys) seat (fault_told met) goes.before new
    last = subst (λ (keys : K). IsStep (of keys) seat (fault_told met) goes.before new)
        (so_far.run.rest.keys ∙ sym behind.run.rest.keys)
        (subst (λ (o : Option FileFault). EndsBy (of now.keys) seat o goes.before new) is goes.ends)

    pub runs_there : IsRun seat None old new
    runs_there = runs_on seat (fault_told met) old goes.before new behind.run last.turn

    pub fails_there : moves + n < MOST_STEPS → IsDriven (of old.keys) seat (fault_told met) old new
    fails_there few =
        rests_at of seat (moves + n) old goes.before behind (fault_told met) new last few (λ moves. moves)
