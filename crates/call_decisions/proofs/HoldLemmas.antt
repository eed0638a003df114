-- A Remove that sweeps holds the name of its queue.
use Rattle.std.proofs.Common.{◌≡◌, ℕ, List, [], Option, Some, None, Result, Ok, Err, refl, sym, ap, subst, arith}
use Rattle.std.specs.List.{Contains}
use Rattle.page_locks.specs.declared.lock.LockName.TheVariants as names
use Rattle.queue_model.specs.declared.call.Call.TheVariants as calls
use Rattle.call_decisions.specs.declared.any_inquiry.AnyInquiry.{AnyInquiry}
use Rattle.call_decisions.specs.Anything.{caller_of, decided_of, if_of, locked_of, of_remove, plan_of}
use Rattle.call_decisions.specs.InquiryWords.{RemoveInquiry}
use Rattle.xsi_inquiry.specs.declared.decision.Decision.TheVariants as decisions
use Rattle.xsi_inquiry.specs.declared.inquiry.NotASystem.{NotASystem}
use Rattle.xsi_inquiry.specs.Telling.{Gives}
use Rattle.xsi_control.specs.declared.stage.Stage.{Stage}
use Rattle.xsi_control.specs.declared.stage.Stage.TheVariants.{Seeking, Refused, Keyed, Counting, Removing}
use Rattle.xsi_control.specs.Asking.{decided_at, locked_at}
use Rattle.xsi_control.specs.Removing.{names_of}
use Rattle.call_decisions.specs.Words.{Call, Decides, Decision, State, Sweep}
use Rattle.call_decisions.specs.Settling.{IsRight}

pub has_queue : (id : ℕ) (key : Option ℕ) → Contains (names_of id key) (names.Queue id)
has_queue id None = (1, omega arith, refl)
has_queue id (Some key) = (2, omega arith, refl)

-- the queue that is swept
abbrev swept_id : Result Decision NotASystem → ℕ
swept_id (Ok (decisions.Sweeps sweep)) = sweep.id
swept_id decided = 0

stage_holds : (id : ℕ) (stage : Stage) (sweep : Sweep) → decided_at id stage ≡ Ok (decisions.Sweeps sweep) →
    Contains (locked_at id stage) (names.Queue sweep.id)
stage_holds id (Seeking sought) sweep is = absurd cc
stage_holds id (Refused errno) sweep is = absurd cc
stage_holds id (Keyed key) sweep is = absurd cc
stage_holds id (Counting key queue) sweep is = absurd cc
stage_holds id (Removing r) sweep is =
    subst (λ (n : ℕ). Contains (names_of id r.key) (names.Queue n)) (ap swept_id is) (has_queue id r.key)

remove_holds : (id : ℕ) (o : Option RemoveInquiry) (sweep : Sweep) →
    if_of (λ (i : RemoveInquiry). decided_at id i.stage) (Err (record {})) o ≡ Ok (decisions.Sweeps sweep) →
    Contains (if_of (λ (i : RemoveInquiry). locked_at id i.stage) [] o) (names.Queue sweep.id)
remove_holds id None sweep is = absurd cc
remove_holds id (Some i) sweep is = stage_holds id i.stage sweep is

pub sweep_holds : (call : Call) (i : AnyInquiry) (sweep : Sweep) → call ≡ calls.Remove sweep.id →
    decided_of call i ≡ Ok (decisions.Sweeps sweep) → Contains (locked_of call i) (names.Queue sweep.id)
sweep_holds call i sweep is decided =
    subst (λ (x : Call). Contains (locked_of x i) (names.Queue sweep.id)) (sym is)
    (remove_holds sweep.id (of_remove i) sweep
    (subst (λ (x : Call). decided_of x i ≡ Ok (decisions.Sweeps sweep)) is decided))

pub is_right : (call : Call) (i : AnyInquiry) (bytes : List ℕ) (s : State) (decision : Decision) →
    decided_of call i ≡ Ok decision →
    Decides (caller_of i) call (locked_of call i) bytes s decision (plan_of call i) →
    IsRight (caller_of i) call (locked_of call i) bytes s (plan_of call i) decision
is_right call i bytes s decisions.PutOff value decides = record { decides = decides; holds = tt }
is_right call i bytes s (decisions.Answers verdict) value decides = record { decides = decides; holds = tt }
is_right call i bytes s (decisions.Sweeps sweep) value decides = record {
  decides = decides;
  holds = sweep_holds call i sweep decides.is_remove value;
}

pub gives_right : (call : Call) (i : AnyInquiry) (bytes : List ℕ) (s : State) (result : Result Decision NotASystem) →
    result ≡ decided_of call i →
    Gives result (λ (d : Decision). Decides (caller_of i) call (locked_of call i) bytes s d (plan_of call i)) →
    Gives result (IsRight (caller_of i) call (locked_of call i) bytes s (plan_of call i))
gives_right call i bytes s (Ok decision) value decides = is_right call i bytes s decision (sym value) decides
gives_right call i bytes s (Err e) value none = none
