-- A step in which a call begins anew, as two steps of a kernel.
use Rattle.std.proofs.Common.{◌≡◌, refl, sym, ap, ◌∙◌, ℕ, ◌≤◌, Bool, false, ◌||◌, List, [], ◌++◌, Some, append-nil, length}
use Rattle.page_locks.proofs.ChangeLemmas.{length-with_row}
use Rattle.interleaving_core.specs.Active.{ActiveView}
use Rattle.interleaving_core.specs.Kernel.{KernelState, call_at, with_call}
use Rattle.interleaving_core.specs.Owing.{IsTurn, is_failure}
use Rattle.interleaving_core.specs.Searches.{Counts}
use Rattle.interleaving_core.specs.Words.{Entry, PoolState}
use Rattle.interleaving_core.specs.declared.step.Step.{Step}
use Rattle.interleaving_core.specs.declared.step.Step.TheVariants as steps
use Rattle.interleaving_core.proofs.PlaceLemmas.{at_same, with_twice}

-- what a step of a seat does beside its machine, where none has failed before
pub record Goes {K : Type 0} (seat : ℕ) (did : Step) (old new : KernelState K) : Type 0 where
  pub seats : new.seats ≡ with_call old.seats seat (call_at new.seats seat)
  pub as_many : length new.locks ≡ length old.locks
  pub callers : new.callers ≡ old.callers
  pub stopped : new.stopped ≡ old.stopped
  pub failed : new.failed ≡ is_failure did
  pub counts : Counts seat did old new
  pub added : List Entry
  pub journal : new.journal ≡ old.journal ++ added

pub goes_by : {K : Type 0} (seat : ℕ) (did : Step) (old new : KernelState K) → IsTurn seat did old new →
    old.failed ≡ false → Goes seat did old new
goes_by seat did old new turn sound = record {
  seats = turn.run.seats;
  as_many = ap length turn.run.locks ∙ length-with_row old.locks seat _;
  callers = turn.run.rest.callers;
  stopped = turn.run.rest.stopped;
  failed = turn.failed ∙ ap (λ (b : Bool). b || is_failure did) sound;
  counts = turn.counts;
  added = turn.run.added;
  journal = turn.run.journal;
}

-- the kernel once the call has begun anew, and before it makes its first step
abbrev pub between : {K : Type 0} → ℕ → ActiveView → PoolState → KernelState K → KernelState K
between seat again pool old = record old { pool = pool; seats = with_call old.seats seat (Some again) }

module _ {K : Type 0} (seat : ℕ) (again : ActiveView) (pool : PoolState) (old : KernelState K) where
  pub first_goes : 1 ≤ seat → seat ≤ length old.seats → old.failed ≡ false →
      Goes seat steps.Waiting old (between seat again pool old)
  first_goes some within sound = record {
    seats = sym (ap (with_call old.seats seat) (at_same old.seats seat (Some again) some within));
    as_many = refl;
    callers = refl;
    stopped = refl;
    failed = sound;
    counts = refl;
    added = [];
    journal = sym (append-nil old.journal);
  }

  pub last_goes : (did : Step) (new : KernelState K) → Goes seat did old new →
      Goes seat did (between seat again pool old) new
  last_goes did new goes = record {
    seats = goes.seats ∙ sym (with_twice old.seats seat (Some again) (call_at new.seats seat));
    as_many = goes.as_many;
    callers = goes.callers;
    stopped = goes.stopped;
    failed = goes.failed;
    counts = by did goes.counts;
    added = goes.added;
    journal = goes.journal;
  }
    where
      by : (d : Step) → Counts seat d old new → Counts seat d (between seat again pool old) new
      by (steps.Moved kind) counts = counts
      by (steps.Blocked other) counts = counts
      by steps.Waiting counts = counts
      by (steps.Answered answer) counts = counts
      by steps.Idle counts = counts
      by (steps.Fault fault) counts = counts
