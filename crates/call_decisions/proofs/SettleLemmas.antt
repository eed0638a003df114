-- What a decision means.
use Rattle.std.proofs.Common.{◌≡◌, ℕ, Bool, true, false, List, [], length, refl, ap, ◌∙◌, subst, arith}
use Rattle.std.specs.List.{All, Contains}
use Rattle.call_decisions.specs.Owing.{Sweeps, Writes}
use Rattle.call_decisions.proofs.DecideLemmas.{answers_owe, none_left, sweeps_owe}
use Rattle.call_decisions.proofs.OverlayLemmas.{overlaid_local}
use Rattle.page_locks.specs.declared.lock.LockName.TheVariants as names
use Rattle.queue_model.specs.declared.answer.Answer.TheVariants as answers
use Rattle.queue_model.specs.Rules.{refuse}
use Rattle.queue_model.specs.declared.errno.Errno.TheVariants.{EINTR}
use Rattle.xsi_inquiry.specs.declared.decision.Decision.TheVariants as decisions
use Rattle.xsi_inquiry.specs.Sweeping.{swept}
use Rattle.call_decisions.specs.Words.{Call, CanAllBe, Caller, Decision, IsAnswered, IsPutOff, IsSwept, LockName, Plan, Record, Records, State, Sweep, Verdict, answer_of, inserted, nothing, outcome, record_of, writes_of}
use Rattle.call_decisions.specs.Settling.{IsAnswer, IsRight, IsSweepOf, LeadsOver, Means, settled_by}
use Rattle.call_decisions.specs.Laws.{CanTry, TriesRightly}
use Rattle.call_decisions.proofs.AlikeLemmas.{absent_local, can_local}

none_of : {T : Type 0} (IsSo : T → Type 0) → All IsSo []
none_of IsSo k d within = absurd (omega (arith, within))

module _ (c : Caller) (call : Call) (held : List LockName) (s : State) (p : Plan) where
  -- ---- an answer

  answered : (bytes : List ℕ) (verdict : Verdict) → IsAnswered c call held bytes s verdict p →
      IsAnswer c call held p.trials (answer_of verdict bytes) (Writes (writes_of p)) s
  answered bytes verdict is =
      let owes = answers_owe c call held bytes s verdict p is in
      record {
        after = is.after;
        outcome = is.outcome;
        owes = record {
          leads = λ records alike key under.
              overlaid_local (Writes (writes_of p)) records (inserted p.trials (record_of s)) key (alike key under)
              ∙ owes.leads key;
          can = λ records alike. can_local held (writes_of p) (inserted p.trials (record_of s)) records is.own.writes
              alike is.leads.can;
          in_range = is.leads.in_range;
          own = owes.own;
          rest = owes.rest;
        };
      }

  -- ---- a sweep

  swept_by : (sweep : Sweep) → IsSwept c call held s sweep p → Contains held (names.Queue sweep.id) →
      IsSweepOf c call held s sweep p
  swept_by sweep is holds =
      let owes = sweeps_owe c call held s sweep p is holds in
      let all : Records = swept sweep.id (length is.queue.messages) s in
      record {
        answer = record {
          after = is.after;
          outcome = is.outcome;
          owes = record {
            leads = λ records alike key under.
                overlaid_local (Sweeps sweep.id (writes_of p)) records (record_of s) key (alike key under)
                ∙ owes.leads key;
            can = λ records alike. can_local held (writes_of p) all records is.own.writes
                (λ key under. alike key under ∙ none_left sweep.id s is.queue key is.alive)
                (subst (λ (trials : List Record). CanAllBe (writes_of p) (inserted trials all)) is.no_trials
                is.leads.can);
            in_range = is.leads.in_range;
            own = owes.own;
            rest = owes.rest;
          };
        };
        begins = record { queue = is.queue; alive = is.alive; first = is.first_left };
        no_trials = is.no_trials;
      }

  -- ---- a call that is put off

  nothing_owed : LeadsOver held (record_of s) (Writes []) s s
  nothing_owed = record {
    leads = λ records alike. alike;
    can = λ records alike. tt;
    in_range = none_of _;
    own = λ key is. absurd cc;
    rest = λ key none. refl;
  }

  ends : outcome c call s ≡ refuse EINTR s → p ≡ nothing →
      IsAnswer c call held p.trials (answers.Refused EINTR) (Writes (writes_of p)) s
  ends refused idle = rw idle (record { after = s; outcome = refused; owes = nothing_owed })

  put_off : (bytes : List ℕ) (stopped : Bool) → s.stopped ≡ stopped → IsPutOff c call s p →
      Means c call held bytes s p (settled_by stopped decisions.PutOff)
  put_off bytes true mark is = ends (is.outcome ∙ rw mark refl) is.idle
  put_off bytes false mark is = record { none = is.outcome ∙ rw mark refl; idle = is.idle }

  pub settles : (bytes : List ℕ) (stopped : Bool) (decision : Decision) → s.stopped ≡ stopped →
      IsRight c call held bytes s p decision → Means c call held bytes s p (settled_by stopped decision)
  settles bytes stopped decisions.PutOff mark right = put_off bytes stopped mark right.decides
  settles bytes stopped (decisions.Answers verdict) mark right = answered bytes verdict right.decides
  settles bytes stopped (decisions.Sweeps sweep) mark right = swept_by sweep right.decides right.holds

  -- ---- trials

  tries_none : p.trials ≡ [] → CanTry held s p
  tries_none none = record {
    absent = λ records alike. rw none tt;
    in_range = rw none (none_of _);
    own = rw none (none_of _);
  }

  tries : (bytes : List ℕ) (decision : Decision) → IsRight c call held bytes s p decision → CanTry held s p
  tries bytes decisions.PutOff right = tries_none (ap (λ (q : Plan). q.trials) right.decides.idle)
  tries bytes (decisions.Answers verdict) right = record {
    absent = λ records alike. absent_local held p.trials (record_of s) records right.decides.own.trials alike
        right.decides.leads.absent;
    in_range = right.decides.leads.trials_in_range;
    own = right.decides.own.trials;
  }
  tries bytes (decisions.Sweeps sweep) right = tries_none right.decides.no_trials

pub tries_rightly : TriesRightly
tries_rightly c call held bytes s p decision right = tries c call held s p bytes decision right
