-- Another caller sits at the seat of a session, and a call is made for it.
use Rattle.std.proofs.Common.{◌≡◌, ◌∙◌, refl, sym, subst, inl, inr, Bool, true, false, Some, Err, arith}
use Rattle.interleaving_core.specs.Renewing.{KeepsCaller, Reseats}
use Rattle.interleavings.specs.LoneKernelWords.{Call, Caller, State}
use Rattle.session.specs.Making.{Makes, MayBeShortened, Seats, SessionState, caller_of}
use Rattle.session.specs.Session.{CallsAs, Holds, IsSession, KeepsFile}
use Rattle.session.specs.declared.unanswered.Unanswered.TheVariants.{Failed}
use Rattle.session.proofs.PageLemmas.{is_between}
use Rattle.session.proofs.BeforeLemmas.{sits_on, stays_lost}

-- ---- it sits there

pub seated : (caller : Caller) (done : Bool) (old new : SessionState) → Reseats 1 caller done old new →
    Seats caller done old new
seated caller true old new went = (inr (caller, went), went.sits)
seated caller false old new kept = kept

-- or sat there before
pub seated_already : (caller : Caller) (old new : SessionState) → caller_of old ≡ Some caller →
    MayBeShortened old new → Seats caller true old new
seated_already caller old new sits same = (inl same, sits_on old new same ∙ sits)

pub seated_session : (caller : Caller) (done : Bool) (old new : SessionState) → Reseats 1 caller done old new →
    IsSession old → IsSession new
seated_session caller true old new went is = subst IsSession (sym went.is) (record { seat = is.seat; roomy = is.roomy })
seated_session caller false old new kept is = subst IsSession (sym kept.same) is

-- ---- nobody sits down

-- so it holds no system
holds_none : (old new : SessionState) → KeepsCaller 1 old new → (s : State) → Holds s old → ⊥
holds_none old new kept s holds = kept.busy (is_between s old holds) (holds.idle 1)

pub unseated_calls : (caller : Caller) (call left : Call) (old new : SessionState) → KeepsCaller 1 old new →
    CallsAs caller call left (Err Failed) old new
unseated_calls caller call left old new kept = record {
  becomes = λ s holds. absurd (holds_none old new kept s holds);
  is_left = λ s holds waits. absurd (holds_none old new kept s holds);
  keeps = subst (KeepsFile old) (sym kept.same) (record {
    many = refl;
    saved = refl;
    honest = refl;
    later = omega arith;
  });
  lost = stays_lost (Some caller) call (Err Failed) old new unmade;
  made = unmade;
}
  where
    unmade : Makes (Some caller) call (Err Failed) old new
    unmade = inr (record { unseated = kept; told = refl })
