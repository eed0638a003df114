-- A Remove that sweeps changes the file after its sweep.
use Rattle.std.proofs.Common.{◌≡◌, ◌≢◌, sym, ap, subst, ℕ, Bool, true, false, List, Option, Some, None, Ok, Err}
use Rattle.std.proofs.lemmas.Bool.{true≢false}
use Rattle.std.specs.Option.{is_some}
use Rattle.std.specs.Prelude.{slice_get}
use Rattle.call_writes.specs.call_decisions.Anything.{decided_of, if_of, of_remove}
use Rattle.call_writes.specs.call_decisions.InquiryWords.{RemoveInquiry}
use Rattle.call_writes.specs.call_decisions.declared.settled.Settled.TheVariants.{Sweeps}
use Rattle.queue_model.specs.declared.call.Call.TheVariants as calls
use Rattle.xsi_inquiry.specs.declared.decision.Decision.TheVariants as decisions
use Rattle.xsi_control.specs.declared.stage.Stage.{Stage}
use Rattle.xsi_control.specs.declared.stage.Stage.TheVariants.{Seeking, Refused, Keyed, Counting, Removing}
use Rattle.xsi_control.specs.Asking.{decided_at, plan_at}
use Rattle.xsi_calls.specs.UndecidedWords.{AnyInquiry, Call, Decision, IsRight, Plan, State, Sweep, caller_of, locked_of, nothing, plan_of, settled_by}

stage_changes : (id : ℕ) (stage : Stage) (sweep : Sweep) → decided_at id stage ≡ Ok (decisions.Sweeps sweep) →
    plan_at id stage ≢ nothing
stage_changes id (Seeking sought) sweep is = absurd cc
stage_changes id (Refused errno) sweep is = absurd cc
stage_changes id (Keyed key) sweep is = absurd cc
stage_changes id (Counting key queue) sweep is = absurd cc
stage_changes id (Removing r) sweep is = λ none.
    true≢false (ap (λ (p : Plan). is_some (slice_get p.slots 1)) none)

remove_changes : (id : ℕ) (o : Option RemoveInquiry) (sweep : Sweep) →
    if_of (λ (i : RemoveInquiry). decided_at id i.stage) (Err (record {})) o ≡ Ok (decisions.Sweeps sweep) →
    if_of (λ (i : RemoveInquiry). plan_at id i.stage) nothing o ≢ nothing
remove_changes id None sweep is = absurd cc
remove_changes id (Some i) sweep is = stage_changes id i.stage sweep is

sweep_changes : (call : Call) (i : AnyInquiry) (sweep : Sweep) → call ≡ calls.Remove sweep.id →
    decided_of call i ≡ Ok (decisions.Sweeps sweep) → plan_of call i ≢ nothing
sweep_changes call i sweep is decided =
    subst (λ (x : Call). plan_of x i ≢ nothing) (sym is)
    (remove_changes sweep.id (of_remove i) sweep
    (subst (λ (x : Call). decided_of x i ≡ Ok (decisions.Sweeps sweep)) is decided))

put_off : (stopped : Bool) (sweep : Sweep) → settled_by stopped decisions.PutOff ≡ Sweeps sweep → ⊥
put_off true sweep is = cc
put_off false sweep is = cc

-- of a call that is settled by a sweep
pub sweeps_change : (call : Call) (i : AnyInquiry) (bytes : List ℕ) (s : State) (stopped : Bool)
    (decision : Decision) → decided_of call i ≡ Ok decision →
    IsRight (caller_of i) call (locked_of call i) bytes s (plan_of call i) decision → (sweep : Sweep) →
    settled_by stopped decision ≡ Sweeps sweep → plan_of call i ≢ nothing
sweeps_change call i bytes s stopped decisions.PutOff value right sweep is = absurd (put_off stopped sweep is)
sweeps_change call i bytes s stopped (decisions.Answers verdict) value right sweep is = absurd cc
sweeps_change call i bytes s stopped (decisions.Sweeps found) value right sweep is =
    sweep_changes call i found right.decides.is_remove value
