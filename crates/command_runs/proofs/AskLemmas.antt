-- What is told of a call that a command makes.
use Rattle.std.proofs.Common.{◌≡◌, ℕ, suc, inl, inr, None, Some, Option, Result, Ok, Err, ◌∙◌, subst, arith}
use Rattle.page_device.specs.Device.{HasRisen}
use Rattle.interleavings.specs.LoneKernelWords.{Answer, Call, Caller, State, outcome}
use Rattle.queue_commands.specs.Asking.{IsAsked}
use Rattle.session.specs.Session.{Becomes, Calls}
use Rattle.session.specs.declared.unanswered.Unanswered.{Unanswered}
use Rattle.session.specs.declared.unanswered.Unanswered.TheVariants.{Waits, NoRoom, NoMemory, Failed}
use Rattle.command_runs.specs.Asking.{Lacks, MayLack, Pages, Stands}
use Rattle.command_runs.specs.declared.asker.Asker.{Asker}

-- a count that rose is not 0
pub risen : (old new : ℕ) → HasRisen old new → new ≡ 0 → ⊥
risen old new (inl more) none = omega (arith, more, none)
risen old new (inr most) none = omega (arith, most, none)

module _ (content : Pages) (c : Caller) (call : Call) (s : State) (old new : Asker) (stands : Stands content c s old)
  where
    becomes : (result : Result Answer Unanswered) → Calls call result old.session new.session →
        Becomes (Some c) call s result old.session new.session
    becomes result calls =
        subst (λ (by : Option Caller). Becomes by call s result old.session new.session) stands.sits
        (calls.calls.becomes s stands.holds)

    -- it is answered
    pub answers_call : (answer : Answer) → Calls call (Ok answer) old.session new.session →
        IsAsked c call s (λ t. Stands content c t new) (Lacks content c call s new) (Some answer)
    answers_call answer calls =
        let is = becomes (Ok answer) calls in (
          is.after,
          is.by_rules,
          record {
            holds = is.holds;
            sits = calls.caller ∙ stands.sits;
            answered = suc stands.answered;
            has = record { old = old.session; stood = stands.has; call = call; answer = answer; calls = calls };
            pages = calls.calls.keeps.many ∙ stands.pages;
            saved = calls.calls.keeps.saved ∙ stands.saved;
          },
        )

    -- or not, and it never waits
    may_lack : (outcome c call s ≡ None → ⊥) → (fault : Unanswered) → Calls call (Err fault) old.session new.session →
        new.session.pool.faults ≡ 0 → MayLack content c fault call s
    may_lack answers Waits calls none = absurd (answers (becomes (Err Waits) calls).0)
    may_lack answers NoRoom calls none = record {
      answered = stands.answered;
      old = old.session;
      has = stands.has;
      holds = stands.holds;
      new = new.session;
      lacks = becomes (Err NoRoom) calls;
    }
    may_lack answers NoMemory calls none = tt
    may_lack answers Failed calls none =
        absurd (risen old.session.pool.faults new.session.pool.faults (becomes (Err Failed) calls).cause none)

    pub lacks_answer : (outcome c call s ≡ None → ⊥) → (fault : Unanswered) →
        Calls call (Err fault) old.session new.session → new.fault ≡ Some fault → Lacks content c call s new
    lacks_answer answers fault calls is =
        record { fault = fault; is = is; cause = may_lack answers fault calls }
