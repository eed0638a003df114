-- A lone call that is driven lacks room only where, at one of its steps, a record of it had none in the kernel's pages.
use Rattle.std.proofs.Common.{ℕ, zero, suc, ◌≡◌, ◌≤◌, ◌⊎◌, refl, sym, ap, ◌∙◌, subst, Bool, true, false, true≢false, inl, inr, List, Option, Some, None, length}
use Rattle.std.proofs.lemmas.Option.{same_Some}
use Rattle.step_rules.specs.declared.kind.Kind.{Kind}
use Rattle.step_rules.specs.declared.progress.Progress.TheVariants as progress
use Rattle.interleaving_core.proofs.PlaceLemmas.{at_same, length-with_call, seat_of_call}
use Rattle.interleaving_core.proofs.RunLemmas.{seat_stays}
use Rattle.interleaving_core.specs.declared.fault.StepFault.TheVariants as faults
use Rattle.interleaving_core.specs.declared.step.Step.TheVariants as steps
use Rattle.xsi_calls.specs.CallSteps.{StepsCall}
use Rattle.interleavings.specs.Lone.{ServesOver}
use Rattle.interleavings.specs.LoneCalls.{IsLoneCall}
use Rattle.interleavings.specs.LoneKernelLaws.{AnswersByTheRules, HadNoRoom, LacksInPages}
use Rattle.interleavings.specs.LoneKernelWords.{ActiveView, Answer, Call, CallView, Caller, FileFault, HasCall, IsDriven, IsLeft, IsSeat, IsSpent, IsStep, KernelState, MakesCall, Moves, Progress, RecordKey, State, Step, TakesTurn, call_at, lacks_room, stays_waiting, told_of, told_when_over}
use Rattle.interleavings.proofs.LackingLemmas.{TurnsFull, fresh_room, turns_full}
use Rattle.interleavings.proofs.LoneCallLemmas.{under_way}
use Rattle.interleavings.proofs.LoneKernelStepLemmas.{never_woken}
use Rattle.interleavings.proofs.NoRoomLemmas.{step_told}

over_no_move : (waits : Bool) (x : Option Answer) (kind : Kind) → steps.Moved kind ≡ told_when_over waits x → ⊥
over_no_move true x kind is = cc
over_no_move false None kind is = cc
over_no_move false (Some x) kind is = cc

-- where a call has just begun it lacks none
pub begun_with_room : {K : Type 0} (seat : ℕ) (call : Call) (old begun : KernelState K) → HasCall seat call old begun →
    HadNoRoom seat begun → ⊥
begun_with_room {K} seat call old begun has had =
    let seats = ap (λ (k : KernelState K). k.seats) has.is in
    let within = seat_of_call begun.seats seat had.active had.there in
    let many = ap length seats ∙ length-with_call old.seats seat (Some has.active) in
    let own = ap (λ (x : List (Option ActiveView)). call_at x seat) seats
    ∙ at_same old.seats seat (Some has.active) within.0 (subst (λ (n : ℕ). seat ≤ n) many within.1) in
    let same = same_Some had.active has.active (sym had.there ∙ own) in
    true≢false (sym had.lacked ∙ ap (λ (a : ActiveView). lacks_room a.machine) same
    ∙ fresh_room has.active.machine has.begun.begins.new)

module _ {K : Type 0} (law : AnswersByTheRules K) (hash : RecordKey → ℕ) (seat : ℕ) (caller : Caller) (call : Call)
    (s : State) (from : KernelState K) (is : IsSeat from.locks seat)
    (serves : ServesOver hash seat caller call s from) where
  abbrev Cause : Type 0
  Cause = LacksInPages hash seat caller call s from ⊎ HadNoRoom seat from

  -- after so many moves it is served, and lacks room only for that cause
  record IsOnWay (now : KernelState K) : Type 0 where
    pub served : ServesOver hash seat caller call s now
    pub seated : IsSeat now.locks seat
    pub cause : lacks_room served.active.machine ≡ true → Cause

  -- ---- a step that moves

  module _ (moves : ℕ) (before : KernelState K) (moved : Moves hash seat moves from before) (way : IsOnWay before)
      (kind : Kind) (after : KernelState K) (step : IsStep hash seat (steps.Moved kind) before after) where
    then_served : ServesOver hash seat caller call s after
    then_served =
        law hash seat caller call s (steps.Moved kind) before after way.seated way.served step.turn step.makes

    abbrev was : CallView
    was = way.served.active.machine

    abbrev lone : IsLoneCall hash seat caller call s was before.pool before.locks
    lone = way.served.served.lone

    by_machine : (p : Progress FileFault) (come : ActiveView) →
        MakesCall hash seat before.stopped p was come.machine before.pool after.pool before.locks after.locks →
        IsLeft p come (call_at after.seats seat) → steps.Moved kind ≡ told_of p come.machine →
        lacks_room then_served.active.machine ≡ true → Cause
    by_machine (progress.Moved k) come makes there told lacks = short (lacks_room was) refl
      where
        does : StepsCall {F = FileFault} hash seat lone.now (progress.Moved k) was come.machine lone.together.records
            before.pool
            after.pool before.locks after.locks lone.together.change
        does = makes.step lone.now lone.together.records lone.together.change
            (under_way hash seat caller call s was before.pool before.locks lone).calls (lone.mark ∙ way.served.mark)
            refl

        lacks_then : lacks_room come.machine ≡ true
        lacks_then = subst (λ (a : ActiveView). lacks_room a.machine ≡ true)
            (same_Some then_served.active come (sym then_served.there ∙ there)) lacks

        found : TurnsFull was come.machine → Cause
        found full = inl (record {
          moves = moves;
          before = before;
          moved = moved;
          kind = kind;
          after = after;
          step = step;
          active = way.served.active;
          there = way.served.there;
          found = record {
            old = was;
            old_pool = before.pool;
            old_locks = before.locks;
            before = lone;
            new = then_served.active.machine;
            new_pool = after.pool;
            new_locks = after.locks;
            behind = then_served.served.lone;
            lacks = does.full full.room_before full.none_then;
          };
          call_is = refl;
          pages = (refl, refl);
          locks = (refl, refl);
        })

        short : (b : Bool) → lacks_room was ≡ b → Cause
        short true lacked = way.cause lacked
        short false room = found (turns_full hash seat lone.now (progress.Moved k) was come.machine
            lone.together.records before.pool after.pool before.locks after.locks lone.together.change makes.aim does
            room lacks_then)
    by_machine (progress.Blocked other) come makes there told lacks = absurd cc
    by_machine (progress.Fault fault) come makes there told lacks = absurd cc
    by_machine progress.Ended come makes there told lacks = absurd (over_no_move _ _ kind told)

    cause_on : lacks_room then_served.active.machine ≡ true → Cause
    cause_on lacks = by (stays_waiting way.served.active.wait was.call before.journal) refl
      where
        turn : TakesTurn hash seat before.stopped (steps.Moved kind) way.served.active (call_at after.seats seat)
            before.pool after.pool before.locks after.locks before.journal after.journal
        turn = step.makes way.served.active way.served.there way.served.sound

        by : (waits : Bool) → stays_waiting way.served.active.wait was.call before.journal ≡ waits → Cause
        by true is = let told = (turn.waits is).told_is in absurd cc
        by false is = elim (turn.goes is) [
          | inl made ↦ by_machine made.0.did made.0.come made.0.makes made.0.left_is made.0.told_is lacks
          | inr anew ↦
              let told = (anew.waits (never_woken hash seat caller call s (steps.Moved kind) before
              (call_at after.seats seat) after.pool after.locks after.journal way.served anew)).told_is in absurd cc
        ]

    goes_on : IsOnWay after
    goes_on = record {
      served = then_served;
      seated = seat_stays seat _ before after step.turn.run way.seated;
      cause = cause_on;
    }

  on_way : (moves : ℕ) (now : KernelState K) → Moves hash seat moves from now → IsOnWay now
  on_way zero now same = subst IsOnWay (sym same) (record {
    served = serves;
    seated = is;
    cause = λ lacks. inr (record { active = serves.active; there = serves.there; lacked = lacks });
  })
  on_way (suc n) now moved =
      goes_on n moved.before moved.stands (on_way n moved.before moved.stands) moved.kind now moved.step

  -- ---- the whole of it

  pub lacks_by_drive : (did : Step) (new : KernelState K) (driven : IsDriven hash seat did from new) →
      (IsSpent seat driven.moves did driven.before new → ⊥) → did ≡ steps.Fault faults.NoRoom → Cause
  lacks_by_drive did new driven unspent told = elim driven.ends [
    | inl last ↦
        let way = on_way driven.moves driven.before driven.moved in
        let lacks = (step_told hash seat driven.before new
        (subst (λ (d : Step). IsStep hash seat d driven.before new) told last.step)).at in
        way.cause (subst (λ (a : ActiveView). lacks_room a.machine ≡ true)
        (same_Some lacks.active way.served.active (sym lacks.there ∙ way.served.there)) lacks.lacked)
    | inr spent ↦ absurd (unspent spent)
  ]
