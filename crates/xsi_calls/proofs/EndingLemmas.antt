-- Where nothing is left to do of what a call makes in one go.
use Rattle.std.proofs.Common.{◌≡◌, refl, sym, ap, subst, ℕ, Bool, true, false, IsSome}
use Rattle.call_writes.specs.Views.{IsOver}
use Rattle.call_writes.specs.WriteRuns.{TriesAtOnce}
use Rattle.call_writes.specs.declared.at_once.AtOnce.{AtOnce}
use Rattle.call_writes.specs.declared.at_once.AtOnce.TheVariants.{Made, Left, Over}
use Rattle.call_writes.specs.PaymentStages as stages
use Rattle.call_writes.specs.declared.writes.CallWrites.{CallWrites}
use Rattle.file_pages.specs.declared.fault.FileFault.{FileFault}
use Rattle.xsi_calls.specs.declared.part.Part.{Part}
use Rattle.xsi_calls.specs.declared.part.Part.TheVariants as parts
use Rattle.xsi_calls.specs.declared.phase.Phase.{Phase}
use Rattle.xsi_calls.specs.declared.phase.Phase.TheVariants as phases
use Rattle.xsi_calls.specs.declared.questions.Questions.{Questions}
use Rattle.xsi_calls.specs.declared.trials.TrialsPlace.{TrialsPlace}
use Rattle.xsi_calls.specs.CallSteps.{MakesCall, MakesRelease}
use Rattle.xsi_calls.specs.Ending.{CanDecideNow, HasPaid}
use Rattle.xsi_calls.specs.Machine.{CallView, call_locks, is_paying, is_undecided}
use Rattle.xsi_calls.specs.PaySteps.{StepsPart}
use Rattle.xsi_calls.specs.Parts.{IsOneMachine, IsToPay, asked_with, conclusion_under, payment_under, question_under, tried_under, undecided_with}
use Rattle.xsi_calls.specs.Stages.{Stage, Releasing, stage_at}
use Rattle.xsi_calls.specs.UndecidedWords.{plan_of}
use Rattle.xsi_calls.specs.Words.{AreNames, Call, Caller, CanDecide, Ended, IsPaid, IsReady, IsSeat, PaymentStage, Plan, PoolState, Progress, RecordKey, Table, UndecidedCall, its_plan, row_of}
use Rattle.xsi_calls.proofs.DecideAtOnceLemmas.{writes_rest}
use Rattle.xsi_calls.proofs.GoLemmas.{with_stage}
use Rattle.xsi_calls.proofs.MachineLemmas.{machine}
use Rattle.xsi_calls.proofs.PayLemmas.{released_from}
use Rattle.xsi_calls.proofs.RoomLemmas.{trying_in}

-- a machine tries as one does that it has as a part
pub tries_as : {V W : Type 0} (Ends : V → Type 0) (Ends' : W → Type 0) (Goes Goes' : Type 0) (end : AtOnce) (v v' : V)
    (w w' : W) (pool pool' : PoolState) → (Goes → Goes') → (v' ≡ v → w' ≡ w) → (Ends v → Ends' w) →
    TriesAtOnce Ends Goes end v v' pool pool' → TriesAtOnce Ends' Goes' end w w' pool pool'
tries_as Ends Ends' Goes Goes' Made v v' w w' pool pool' goes same ends tries = goes tries
tries_as Ends Ends' Goes Goes' Left v v' w w' pool pool' goes same ends tries = (same tries.0, tries.1)
tries_as Ends Ends' Goes Goes' Over v v' w w' pool pool' goes same ends tries =
    (ends tries.0, (same tries.1.0, tries.1.1))

-- ---- its trials

pub can_now : (caller : Caller) (call : Call) (u : UndecidedCall) (stage : Stage) (now : CallView) →
    with_stage caller call u stage ≡ now → is_undecided now.stage ≡ true → CanDecide call u → CanDecideNow now
can_now caller call u stage now view undecided can = record {
  undecided = undecided;
  can = subst (λ (m : CallView). CanDecide m.call m.undecided) view can;
}

-- none of them is left
pub tried_all : (call : Call) (q : Questions) (part : Part) (place : TrialsPlace) → part ≡ parts.Writes place →
    IsSome (tried_under part) → (x : Plan) → x ≡ plan_of call q.inquiry → IsOver x place.writes →
    CanDecide call (undecided_with call q part)
tried_all call q part place is some x plan over =
    subst (CanDecide call) (sym (trying_in call q part place is some).1)
    (subst (λ (p : Plan). IsOver p place.writes) plan over)

-- ---- what it owes

pub paid_there : (caller : Caller) (call : Call) (q : Questions) (part : Part) (phase : Phase) (now : CallView) →
    machine caller call q part phase ≡ now → is_paying now.stage ≡ true → (place : TrialsPlace) →
    part ≡ parts.Writes place → (x : Plan) → x ≡ plan_of call q.inquiry → IsOver x place.writes → HasPaid now
paid_there caller call q part phases.Undecided now view pays place is x plan over =
    let never : false ≡ true = subst (λ (m : CallView). is_paying m.stage ≡ true) (sym view) pays in absurd cc
paid_there caller call q part phases.Paying now view pays place is x plan over =
    subst HasPaid view (subst (λ (p : Part). IsPaid (plan_of call q.inquiry) (payment_under p)) (sym is)
    (subst (λ (p : Plan). IsOver p place.writes) plan over))
paid_there caller call q part phases.Releasing now view pays place is x plan over =
    let never : false ≡ true = subst (λ (m : CallView). is_paying m.stage ≡ true) (sym view) pays in absurd cc

-- it stays one machine
pub still_paying : (caller : Caller) (call : Call) (q : Questions) (part : Part) (phase : Phase) →
    is_paying (stage_at phase (payment_under part) (conclusion_under part)) ≡ true →
    IsOneMachine (machine caller call q part phase) phase part → (place : TrialsPlace) → part ≡ parts.Writes place →
    (w : CallWrites) → IsOneMachine (machine caller call q (parts.Writes (record place { writes = w })) phase) phase
    (parts.Writes (record place { writes = w }))
still_paying caller call q part phases.Undecided pays one place is w = absurd cc
still_paying caller call q part phases.Paying pays one place is w = record {
  one = record { by = one.one.by; room = one.one.room; calm = refl };
  pays = λ paying. subst IsToPay is (one.pays paying);
}
still_paying caller call q part phases.Releasing pays one place is w = absurd cc

-- where all is paid no step is made
paid_part : (hash : RecordKey → ℕ) (seat : ℕ) (p : Plan) (v : PaymentStage) (pool : PoolState) (locks : Table) →
    IsSeat locks seat → IsReady pool → IsPaid p v → StepsPart hash seat p Ended v v pool pool locks locks
paid_part hash seat p (stages.Sweeping v) pool locks seated ready paid = absurd paid
paid_part hash seat p (stages.Writing w) pool locks seated ready paid =
    writes_rest hash seat p w pool locks seated ready paid

-- and a name that is given back is a step of the call
pub gives_back_paid : (hash : RecordKey → ℕ) (seat : ℕ) (stopped : Bool) (caller : Caller) (call : Call)
    (q : Questions) (part : Part) (phase : Phase) (now : CallView) → machine caller call q part phase ≡ now →
    AreNames q.names → HasPaid now → (pool : PoolState) → IsReady pool → (locks : Table) → IsSeat locks seat →
    row_of locks seat ≡ call_locks now → (did : Progress FileFault) (m : CallView) (locks' : Table) →
    MakesRelease seat did (machine caller call q part phases.Releasing) m locks locks' →
    MakesCall hash seat stopped did now m pool pool locks locks'
gives_back_paid hash seat stopped caller call q part phases.Undecided now view names paid pool ready locks seated row
    did m locks' released = absurd (subst HasPaid (sym view) paid)
gives_back_paid hash seat stopped caller call q part phases.Paying now view names paid pool ready locks seated row
    did m locks' released =
    let asked = asked_with q (question_under part) in
    released_from hash seat caller call (undecided_with call q part) phases.Paying (payment_under part)
    (conclusion_under part) now view (ap (λ (m : CallView). is_paying m.stage) (sym view)) asked refl names
    (its_plan call asked) refl (payment_under part) Ended pool pool locks locks seated ready row
    (paid_part hash seat (its_plan call asked) (payment_under part) pool locks seated ready
    (subst HasPaid (sym view) paid)) refl (Releasing (conclusion_under part)) refl did m locks' released stopped
gives_back_paid hash seat stopped caller call q part phases.Releasing now view names paid pool ready locks seated row
    did m locks' released =
    (subst (λ (old : CallView). MakesRelease seat did old m locks locks') view released).makes hash stopped pool ready
