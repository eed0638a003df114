-- What is done of a session before a call, and what both come to.
use Rattle.std.proofs.Common.{ℕ, ◌≡◌, ◌≤◌, refl, sym, ap, ◌∙◌, subst, inl, inr, true, List, Option, None, Result, Ok, Err, length, map, option_map}
use Rattle.page_device.specs.Device.{HasRisen}
use Rattle.buffer_pool.specs.Pool.{PoolState}
use Rattle.interleaving_core.proofs.RenewLemmas.{outlast_at}
use Rattle.interleaving_core.specs.Beginning.{Refuses}
use Rattle.interleaving_core.specs.Renewing.{IsRenewed, IsReseated, outlasting}
use Rattle.interleaving_core.specs.Words.{Entry}
use Rattle.interleaving_core.specs.declared.fault.BeginFault.TheVariants as begins
use Rattle.interleavings.specs.LoneKernelWords.{ActiveView, Answer, BeginFault, Call, Caller, State, call_at}
use Rattle.session.specs.Making.{Goes, IsReadied, Makes, MayBeShortened, SessionState, caller_of, unanswered_by}
use Rattle.session.specs.Session.{Becomes, Calls, CallsLent, Holds, MakesLent, StaysFailed}
use Rattle.session.specs.declared.unanswered.Unanswered.{Unanswered}
use Rattle.session.specs.declared.unanswered.Unanswered.TheVariants.{Waits, NoRoom, NoMemory, Failed}
use Rattle.session.proofs.KeepLemmas.{apart}

-- ---- what is done before a call

-- the same pages and locks, which hold what they held
pub record IsBehind (old first : SessionState) : Type 0 where
  pub holds : (s : State) → Holds s old → Holds s first
  pub pool : first.pool ≡ old.pool
  pub locks : first.locks ≡ old.locks
  pub failed : first.failed ≡ old.failed

idle_still : (journal : List Entry) (seats : List (Option ActiveView)) → ((seat : ℕ) → call_at seats seat ≡ None) →
    (seat : ℕ) → call_at (map (option_map (outlasting journal)) seats) seat ≡ None
idle_still journal seats idle seat =
    outlast_at journal seats seat ∙ ap (option_map (outlasting journal)) (idle seat)

-- its journal is let go
renewed : (taken : List Entry) (old new : SessionState) → IsRenewed taken old new → IsBehind old new
renewed taken old new went = subst (IsBehind old) (sym went.is) (record {
  holds = λ s rests. record {
    file = rests.file;
    idle = idle_still old.journal old.seats rests.idle;
    sound = rests.sound;
    mark = rests.mark;
  };
  pool = refl;
  locks = refl;
  failed = refl;
})

-- another caller sits there
reseated : (caller : Caller) (old new : SessionState) → IsReseated 1 caller old new → IsBehind old new
reseated caller old new went = subst (IsBehind old) (sym went.is) (record {
  holds = λ s rests. record {
    file = rests.file;
    idle = idle_still old.journal old.seats rests.idle;
    sound = rests.sound;
    mark = rests.mark;
  };
  pool = refl;
  locks = refl;
  failed = refl;
})

unchanged : (k : SessionState) → IsBehind k k
unchanged k = record { holds = λ s is. is; pool = refl; locks = refl; failed = refl }

pub made_ready : (old first : SessionState) → IsReadied old first → IsBehind old first
made_ready old first (inl (inl same)) = subst (IsBehind old) (sym same) (unchanged old)
made_ready old first (inl (inr went)) = renewed old.journal old first went
made_ready old first (inr (caller, went)) = reseated caller old first went

pub sits_on : (old first : SessionState) → MayBeShortened old first → caller_of first ≡ caller_of old
sits_on old first (inl same) = ap (λ (k : SessionState). caller_of k) same
sits_on old first (inr went) = ap (λ (k : SessionState). caller_of k) went.is

-- ---- behind what was done before it was made

pub from_first : (by : Option Caller) (call : Call) (s : State) (old first new : SessionState) → IsBehind old first →
    (result : Result Answer Unanswered) → Becomes by call s result first new → Becomes by call s result old new
from_first by call s old first new same (Ok answer) becomes = becomes
from_first by call s old first new same (Err Waits) becomes = becomes
from_first by call s old first new same (Err NoRoom) becomes = record {
  caller = becomes.caller;
  sits = becomes.sits;
  first = becomes.first;
  seated = record {
    holds = λ t holds. becomes.seated.holds t (same.holds t holds);
    pool = becomes.seated.pool ∙ same.pool;
    locks = becomes.seated.locks ∙ same.locks;
    sits = becomes.seated.sits;
  };
  begun = becomes.begun;
  begins = becomes.begins;
  lacks = becomes.lacks;
  holds = becomes.holds;
}
from_first by call s old first new same (Err NoMemory) becomes = becomes
from_first by call s old first new same (Err Failed) becomes = record {
  failed = becomes.failed;
  cause = subst (λ (p : PoolState). HasRisen p.faults new.pool.faults) same.pool becomes.cause;
}

-- ---- once it has failed

fails_again : (k : SessionState) → k.failed ≡ true → (fault : BeginFault) → Refuses 1 k fault →
    ◌≡◌ {A = Result Answer Unanswered} (Err (unanswered_by fault)) (Err Failed)
fails_again k was begins.Failed cause = refl
fails_again k was begins.Busy cause = refl
fails_again k was begins.SessionFull cause = absurd (apart k cause.0 was)
fails_again k was begins.NoMemory cause = absurd (apart k cause.0 was)

goes_lost : (call : Call) (result : Result Answer Unanswered) (first new : SessionState) → Goes call result first new →
    StaysFailed result first new
goes_lost call result first new (inl away) was = record {
  told = away.told ∙ fails_again first was away.refusal.1 away.refused.cause;
  failed = ap (λ (k : SessionState). k.failed) away.refused.same ∙ was;
  pool = ap (λ (k : SessionState). k.pool) away.refused.same;
}
goes_lost call result first new (inr driven) was = absurd (apart first driven.begins.may.sound was)

pub stays_lost : (by : Option Caller) (call : Call) (result : Result Answer Unanswered) (old new : SessionState) →
    Makes by call result old new → StaysFailed result old new
stays_lost by call result old new (inl made) was =
    let same = made_ready old made.first made.readied in
    let lost = goes_lost call result made.first new made.goes (same.failed ∙ was) in
    record { told = lost.told; failed = lost.failed; pool = lost.pool ∙ same.pool }
stays_lost by call result old new (inr unmade) was = record {
  told = unmade.told;
  failed = ap (λ (k : SessionState). k.failed) unmade.unseated.same ∙ was;
  pool = ap (λ (k : SessionState). k.pool) unmade.unseated.same;
}

-- ---- what was done before, and the call

module _ (by : Option Caller) (call left : Call) (result : Result Answer Unanswered) (old first new : SessionState)
    (readied : IsReadied old first) (sits : caller_of first ≡ by) (makes : MakesLent call left result first new) where
  same : IsBehind old first
  same = made_ready old first readied

  made : Makes by call result old new
  made = inl (record { first = first; readied = readied; sits = sits; goes = makes.goes })

  pub finished : CallsLent by call left result old new
  finished = record {
    becomes = λ s holds.
        from_first by call s old first new same result
        (subst (λ (c : Option Caller). Becomes c call s result first new) sits
        (makes.becomes s (same.holds s holds)));
    is_left = λ s holds waits. makes.is_left s (same.holds s holds) waits;
    keeps = record {
      many = makes.keeps.many ∙ ap (λ (p : PoolState). length p.images) same.pool;
      saved = makes.keeps.saved ∙ ap (λ (p : PoolState). p.stored) same.pool;
      honest = makes.keeps.honest ∙ ap (λ (p : PoolState). p.honest) same.pool;
      later = subst (λ (p : PoolState). p.faults ≤ new.pool.faults) same.pool makes.keeps.later;
    };
    lost = stays_lost by call result old new made;
    made = made;
  }

pub shortened_calls : (call left : Call) (result : Result Answer Unanswered) (old first new : SessionState) →
    MayBeShortened old first → MakesLent call left result first new → Calls call result old new
shortened_calls call left result old first new shortened makes =
    let its = sits_on old first shortened in
    record {
      left = left;
      calls = finished (caller_of old) call left result old first new (inl shortened) its makes;
      caller = makes.caller ∙ its;
    }
