-- Nobody has a call, or a lock.
use Rattle.std.proofs.Common.{◌≡◌, ◌∙◌, refl, sym, ap, subst, ◌≤◌, length, arith}
use Rattle.std.proofs.lemmas.Bool.Decides.{nat_tests}
use Rattle.buffer_pool.specs.Pool.{PoolState, opened}
use Rattle.interleaving_core.specs.Kernel.{AreFittingCallers}
use Rattle.interleaving_core.proofs.BeginLemmas.{opened_whole}
use Rattle.interleaving_core.proofs.kernel.Kernel.open.Goals as goal

pub invariant_of-result : goal.invariant_of-result
invariant_of-result g c =
    let frames : c.in-Ok-open.pool.frames ≡ c.args.frames =
    ap (λ (s : PoolState). s.frames) c.in-Ok-open.ensures.ok in
    let least : c.least_frames.result ≤ c.args.frames = grind (arith, nat_tests) in
    let needs = c.least_frames.ensures in
    let made = c.in-Ok-new.ensures in
    opened_whole (length c.args.callers.now) _
    (record { rest = c.in-Ok-open.ensures.rest; frames = omega (arith, frames, least, needs) })
    made.locks made.seats (ap length made.callers) made.fitting made.journal.0 refl made.journal.1 refl made.searches

-- the check has changed no page
pub returns-in-Ok-open-clause-ok : goal.returns-in-Ok-open-clause-ok
returns-in-Ok-open-clause-ok g c =
    let made = c.in-Ok-open.ensures.ok in
    let checked = c.check-device.ensures in
    let synced = sym (ap (λ (s : PoolState). s.synced) made) in
    let faults = sym (ap (λ (s : PoolState). s.faults) made) in
    record {
      keys = refl;
      pool = made ∙ (λ j. opened c.args.frames (checked.same j) (checked.honest j) (synced j) (faults j));
      locks = c.in-Ok-new.ensures.locks;
      callers = c.in-Ok-new.ensures.callers;
      fitting = subst AreFittingCallers c.in-Ok-new.ensures.callers c.in-Ok-new.ensures.fitting;
      seats = c.in-Ok-new.ensures.seats;
      journal = c.in-Ok-new.ensures.journal.0;
      stopped = refl;
      failed = refl;
      failure = refl;
      searches = c.in-Ok-new.ensures.searches;
    }
