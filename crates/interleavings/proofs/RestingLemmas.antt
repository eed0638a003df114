-- A kernel opens at rest, and a call begins on it.
use Rattle.std.proofs.Common.{ℕ, refl, ◌≡◌, ◌≤◌, sym, ap, ◌∙◌, subst, Option, Some, length, arith, Bool, true, false}
use Rattle.std.proofs.lemmas.Option.{none-some}
use Rattle.interleavings.proofs.CloseLemmas.{closes_flushed}
use Rattle.files_at_rest.proofs.OpenedOpenLemmas.{opens_at_rest}
use Rattle.interleavings.specs.ConcurrentLaws.{BeginTogether}
use Rattle.interleaving_core.proofs.BeginLemmas.{idle_at}
use Rattle.interleaving_core.proofs.KernelLemmas.{as_many}
use Rattle.interleaving_core.proofs.PlaceLemmas.{Seats, at_other, at_same}
use Rattle.interleavings.specs.LoneKernelWords.{Call, Caller, HasCall, HaveFewSteps, IsFileAtRest, IsSeat, IsWhole, KernelState, PoolState, RecordKey, State, Table, call_at, store_of, with_call}
use Rattle.interleavings.specs.Lone.{RestsOver, ServesOver}
use Rattle.interleavings.specs.LoneKernelLaws.{BeginsOnAKernel, ClosesAKernel, OpensAKernel, RefusesAtRest, StopsAKernel}
use Rattle.interleavings.proofs.DriveLemmas.{new_so}
use Rattle.interleavings.proofs.LoneCallLemmas.{begins_alone, stops_at_rest}
use Rattle.interleavings.proofs.WaitLemmas.{awake_goes}
use Rattle.interleavings.proofs.WaitingLemmas.{undecided_yet}

-- ---- it is opened

pub at_rest_too : (hash : RecordKey → ℕ) (s : State) → {pool pool' : PoolState} → {locks locks' : Table} →
    pool' ≡ pool → locks' ≡ locks → IsFileAtRest hash s pool locks → IsFileAtRest hash s pool' locks'
at_rest_too hash s {pool} {pool'} {locks} {locks'} same_pool same_locks rest =
    subst (λ (p : PoolState). IsFileAtRest hash s p locks') (sym same_pool)
    (subst (λ (t : Table). IsFileAtRest hash s pool t) (sym same_locks) rest)

pub opens_a_kernel : (K : Type 0) → OpensAKernel K
opens_a_kernel K hash keys content honest callers frames k opened true_to_it s file some few =
    let rest = opens_at_rest hash content s frames (length callers) k.pool.faults honest k.pool.synced file
    true_to_it some few in
    record {
      file = at_rest_too hash s opened.pool opened.locks rest.rest;
      idle = λ seat. ap (λ (x : Seats). call_at x seat) opened.seats ∙ idle_at (length callers) seat;
      sound = opened.failed;
      mark = rest.running ∙ sym opened.stopped;
    }

-- ---- it is closed

pub closes_a_kernel : (K : Type 0) → ClosesAKernel K
closes_a_kernel K hash s content k rests flushed =
    closes_flushed hash s k.pool k.locks content rests.file flushed

-- ---- a call begins

-- a seat has a place in the list
pub within_seats : {K : Type 0} (seat : ℕ) (k : KernelState K) → IsWhole k → IsSeat k.locks seat →
    seat ≤ length k.seats
within_seats seat k whole is = let many = as_many k whole in let last = is.1 in omega (arith, many, last)

module _ (begins : BeginTogether) (few : HaveFewSteps) {K : Type 0} (hash : RecordKey → ℕ) (seat : ℕ) (call : Call)
    (s : State) (old new : KernelState K) (whole : IsWhole old) (rests : RestsOver hash s old)
    (is : IsSeat old.locks seat) (has : HasCall seat call old new) where
  abbrev changed : KernelState K
  changed = record old { seats = with_call old.seats seat (Some has.active); room = new.room }

  serves : ServesOver hash seat has.caller call s changed
  serves = record {
    active = has.active;
    there = at_same old.seats seat (Some has.active) is.0 (within_seats seat old whole is);
    served = begins_alone hash s old.pool old.locks rests.file begins seat has.caller call has.active.machine is
        (whole.fitting seat has.caller has.sits) has.fits has.begun.begins;
    few = few has.active.machine (store_of old.pool.images) has.begun.begins.new;
    waits = λ stays. absurd (awake_goes has.active.wait has.active.machine.call old.journal has.begun.awake stays);
    asleep = λ since some. absurd (none-some since (sym has.begun.awake ∙ some));
    quiet = new_so has.active old.journal has.begun.begins.new;
    decided = λ some. absurd (undecided_yet has.active.machine has.begun.begins.new some);
    others = λ other apart. at_other old.seats seat other (Some has.active) apart ∙ rests.idle other;
    sound = rests.sound;
    mark = rests.mark;
  }

  pub serves_begun : ServesOver hash seat has.caller call s new
  serves_begun = subst (ServesOver hash seat has.caller call s) (sym has.is) serves

pub begins_on_a_kernel : BeginTogether → HaveFewSteps → (K : Type 0) → BeginsOnAKernel K
begins_on_a_kernel begins few K hash seat caller call s old new whole rests is sits has =
    let both : ◌≡◌ {A = Option Caller} (Some has.caller) (Some caller) = sym has.sits ∙ sits in
    let same : has.caller ≡ caller = cc in
    subst (λ (c : Caller). ServesOver hash seat c call s new) same
    (serves_begun begins few hash seat call s old new whole rests is has)

-- ---- it is refused

pub refuses_at_rest : (K : Type 0) → RefusesAtRest K
refuses_at_rest K hash seat call s refusal old new rests refused =
    let still : RestsOver hash s (record old { room = new.room }) = record {
      file = rests.file;
      idle = rests.idle;
      sound = rests.sound;
      mark = rests.mark;
    } in
    subst (RestsOver hash s) (sym refused.same) still

-- ---- it is stopped

pub stops_a_kernel : (K : Type 0) → StopsAKernel K
stops_a_kernel K hash s old new rests stop = by old.stopped refl
  where
    file : IsFileAtRest hash (record s { stopped = true }) old.pool old.locks
    file = stops_at_rest hash s old.pool old.locks rests.file true

    by : (b : Bool) → old.stopped ≡ b → RestsOver hash (record s { stopped = true }) new
    by true is = subst (RestsOver hash (record s { stopped = true })) (sym (stop.again is))
        (record { file = file; idle = rests.idle; sound = rests.sound; mark = sym is })
    by false is = subst (RestsOver hash (record s { stopped = true })) (sym (stop.first is))
        (record { file = file; idle = rests.idle; sound = rests.sound; mark = refl })
