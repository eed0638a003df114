-- What a session keeps at each thing that is done with it, whatever the device gives.
use Rattle.std.proofs.Common.{arith, ℕ, ◌≡◌, ◌≤◌, refl, sym, ap, ◌∙◌, subst, Bool, true, false, List, Option, Some, None, length, nat_le, if◌then◌else◌}
use Rattle.std.proofs.lemmas.Bool.Decides.{nat_tests}
use Rattle.bucket_page.specs.Pseudokeys.{sha_key}
use Rattle.bucket_page.specs.declared.pseudokey.ShaKey.{ShaKey}
use Rattle.page_locks.proofs.ChangeLemmas.{IsSeat-with_row}
use Rattle.page_locks.specs.Table.{Table}
use Rattle.buffer_pool.specs.Pool.{PoolState, spared}
use Rattle.buffer_pool.proofs.SparedLemmas.{stored_kept}
use Rattle.interleaving_core.specs.Owing.{IsRun}
use Rattle.interleaving_core.specs.Renewing.{Withdraws}
use Rattle.interleavings.specs.LoneKernelLaws.{StopsAKernel}
use Rattle.interleavings.specs.LoneKernelWords.{Answer, BeginFault, Call, Caller, HasCall, IsRefused, IsSeat, IsStopped, caller_at}
use Rattle.session.specs.Making.{SessionState, caller_of}
use Rattle.session.specs.Session.{IsSession, KeepsFile, Stops, pages_of, saved_of}

-- a session has failed or has not
pub apart : (k : SessionState) → k.failed ≡ false → k.failed ≡ true → ⊥
apart k sound failed = absurd cc

-- callers, locks and what was saved stay, and no transfer that failed is forgotten
pub record KeepsSeat (old new : SessionState) : Type 0 where
  pub callers : new.callers ≡ old.callers
  pub seat : IsSeat old.locks 1 → IsSeat new.locks 1
  pub stored : spared new.pool ≡ spared old.pool
  pub pages : pages_of new ≡ pages_of old
  pub honest : new.pool.honest ≡ old.pool.honest
  pub later : old.pool.faults ≤ new.pool.faults

pub stays : (k : SessionState) → KeepsSeat k k
stays k = record {
  callers = refl;
  seat = λ is. is;
  stored = refl;
  pages = refl;
  honest = refl;
  later = omega arith;
}

-- the same callers, locks and pages
same_seat : (old new : SessionState) → new.callers ≡ old.callers → new.locks ≡ old.locks → new.pool ≡ old.pool →
    KeepsSeat old new
same_seat old new callers locks pool = record {
  callers = callers;
  seat = λ is. subst (λ (t : Table). IsSeat t 1) (sym locks) is;
  stored = ap (λ (p : PoolState). spared p) pool;
  pages = ap (λ (p : PoolState). length p.images) pool;
  honest = ap (λ (p : PoolState). p.honest) pool;
  later = let same = ap (λ (p : PoolState). p.faults) pool in omega (arith, same);
}

pub keeps_seat_back : (back : Option Call) (old new : SessionState) → Withdraws 1 back old new → KeepsSeat old new
keeps_seat_back None old new left = subst (KeepsSeat old) (sym left.same) (stays old)
keeps_seat_back (Some back) old new went = subst (KeepsSeat old) (sym went.is) (same_seat old _ refl refl refl)

-- ---- it keeps its seat

pub keeps_seat_refused : (call : Call) (refusal : Call × BeginFault) (old new : SessionState) →
    IsRefused 1 call refusal old new → KeepsSeat old new
keeps_seat_refused call refusal old new refused =
    subst (KeepsSeat old) (sym refused.same) (same_seat old _ refl refl refl)

pub keeps_seat_begun : (call : Call) (old new : SessionState) → HasCall 1 call old new → KeepsSeat old new
keeps_seat_begun call old new has = subst (KeepsSeat old) (sym has.is) (same_seat old _ refl refl refl)

pub keeps_seat_run : (answer : Option Answer) (old new : SessionState) → IsRun 1 answer old new → KeepsSeat old new
keeps_seat_run answer old new run = record {
  callers = run.rest.callers;
  seat = λ is. subst (λ (t : Table). IsSeat t 1) (sym run.locks) (IsSeat-with_row old.locks 1 1 _ is);
  stored = run.rest.stored;
  pages = run.rest.pages;
  honest = run.rest.honest;
  later = run.rest.later;
}

pub then_keeps : (a b c : SessionState) → KeepsSeat a b → KeepsSeat b c → KeepsSeat a c
then_keeps a b c first last = record {
  callers = last.callers ∙ first.callers;
  seat = λ is. last.seat (first.seat is);
  stored = last.stored ∙ first.stored;
  pages = last.pages ∙ first.pages;
  honest = last.honest ∙ first.honest;
  later = let begun = first.later in let ended = last.later in omega (arith, begun, ended);
}

pub same_caller : (old new : SessionState) → KeepsSeat old new → caller_of new ≡ caller_of old
same_caller old new keeps = ap (λ (cs : List Caller). caller_at cs 1) keeps.callers

abbrev IsRoomy : PoolState → Type 0
IsRoomy p = length p.stored ≤ p.frames

pub same_saved : (old new : SessionState) → KeepsSeat old new → IsSession old → saved_of new ≡ saved_of old
same_saved old new keeps is = stored_kept old.pool new.pool keeps.stored is.roomy

pub keeps_file : (old new : SessionState) → KeepsSeat old new → IsSession old → KeepsFile old new
keeps_file old new keeps is = record {
  many = keeps.pages;
  saved = same_saved old new keeps is;
  honest = keeps.honest;
  later = keeps.later;
}

roomy_kept : (s t : PoolState) → spared t ≡ spared s → IsRoomy s → IsRoomy t
unfolding spared
roomy_kept s t same roomy =
    let is : nat_le (length t.stored) t.frames ≡ true =
    has_frames (nat_le (length t.stored) t.frames) (same ∙ rw there refl)
    in
    grind (arith, nat_tests)
  where
    there : nat_le (length s.stored) s.frames ≡ true
    there = grind (arith, nat_tests)

    has_frames : (b : Bool) → ◌≡◌ {A = Option (List (List ℕ))} (if b then Some t.stored else None) (Some s.stored) →
        b ≡ true
    has_frames true same = refl
    has_frames false same = absurd cc

pub still_session : (old new : SessionState) → KeepsSeat old new → IsSession old → IsSession new
still_session old new keeps is = record {
  seat = keeps.seat is.seat;
  roomy = roomy_kept old.pool new.pool keeps.stored is.roomy;
}

pub driven_session : (call : Call) (told : Option Answer) (first begun last : SessionState) →
    HasCall 1 call first begun → IsRun 1 told begun last → IsSession first → IsSession last
driven_session call told first begun last has run is =
    still_session first last (then_keeps first begun last (keeps_seat_begun call first begun has)
    (keeps_seat_run told begun last run)) is

pub withdrawn_session : (back : Option Call) (last new : SessionState) → Withdraws 1 back last new → IsSession last →
    IsSession new
withdrawn_session back last new went is = still_session last new (keeps_seat_back back last new went) is

-- ---- it is stopped

stopped_as : (old new : SessionState) → IsStopped old new → (b : Bool) → old.stopped ≡ b →
    (new.callers ≡ old.callers) × (new.locks ≡ old.locks) × (new.pool ≡ old.pool) × (new.failed ≡ old.failed)
stopped_as old new stop true was =
    let same = stop.again was in (
      ap (λ (k : SessionState). k.callers) same,
      ap (λ (k : SessionState). k.locks) same,
      ap (λ (k : SessionState). k.pool) same,
      ap (λ (k : SessionState). k.failed) same,
    )
stopped_as old new stop false was =
    let is = stop.first was in (
      ap (λ (k : SessionState). k.callers) is,
      ap (λ (k : SessionState). k.locks) is,
      ap (λ (k : SessionState). k.pool) is,
      ap (λ (k : SessionState). k.failed) is,
    )

pub keeps_seat_stop : (old new : SessionState) → IsStopped old new → KeepsSeat old new
keeps_seat_stop old new stop =
    let as_was = stopped_as old new stop old.stopped refl in
    same_seat old new as_was.0 as_was.1 as_was.2

pub is_stopped : StopsAKernel ShaKey → (old new : SessionState) → IsStopped old new → Stops old new
is_stopped stops old new stop =
    let as_was = stopped_as old new stop old.stopped refl in
    record {
      stops = λ s holds. stops sha_key s old new holds stop;
      caller = ap (λ (cs : List Caller). caller_at cs 1) as_was.0;
      pool = as_was.2;
      failed = as_was.3;
      stopped = stop;
    }
