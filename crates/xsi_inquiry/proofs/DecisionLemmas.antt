-- Decisions that write nothing.
use Rattle.std.proofs.Common.{arith}
use Rattle.std.specs.Prelude.{◌≡◌, ℕ, refl, List, Some}
use Rattle.std.proofs.lemmas.List.Elements.{All-nil}
use Rattle.type_chains.specs.page_locks.declared.lock.LockName.{LockName}
use Rattle.queue_model.specs.declared.call.Call.{Call}
use Rattle.queue_model.specs.declared.caller.Caller.{Caller}
use Rattle.queue_model.specs.declared.errno.Errno.{Errno}
use Rattle.queue_model.specs.Rules.{outcome, refuse}
use Rattle.queue_model.specs.State.{State}
use Rattle.xsi_inquiry.specs.declared.decision.Decision.TheVariants.{Answers}
use Rattle.xsi_inquiry.specs.declared.verdict.Verdict.{Verdict}
use Rattle.xsi_inquiry.specs.Deciding.{Decides, answer_of, refuses}
use Rattle.xsi_inquiry.specs.Owning.{IsOrdered, IsUnder}
use Rattle.xsi_inquiry.specs.Writing.{IsSmall, Leads, Records, nothing}

-- a plan that writes nothing leaves the records
pub leads_nowhere : (records : Records) → Leads nothing records records
leads_nowhere records = record {
  absent = tt;
  trials_in_range = All-nil _;
  can = tt;
  in_range = All-nil _;
  leads = λ key. refl;
}

pub under_none : (names : List LockName) → IsUnder names nothing
under_none names = record { trials = All-nil _; writes = All-nil _ }

pub ordered_none : IsOrdered nothing
ordered_none = record { trials = tt; writes = tt }

pub small_none : IsSmall nothing
small_none = record { trials = omega arith; slots = omega arith }

module _ (c : Caller) (call : Call) (names : List LockName) (bytes : List ℕ) (s : State) where
  -- an answer that leaves the system writes nothing
  pub decides_left : (v : Verdict) → outcome c call s ≡ Some (answer_of v bytes, s) →
      Decides c call names bytes s (Answers v) nothing
  decides_left v is = record {
    after = s;
    outcome = is;
    leads = leads_nowhere _;
    own = under_none names;
    idle = λ _. refl;
    ordered = ordered_none;
  }

  -- a refusal by the rules
  pub decides_refused : (e : Errno) → outcome c call s ≡ refuse e s → Decides c call names bytes s (refuses e) nothing
  decides_refused e is = record {
    after = s;
    outcome = is;
    leads = leads_nowhere _;
    own = under_none names;
    idle = λ _. refl;
    ordered = ordered_none;
  }
