-- A step of a seat of a kernel that is led from a system: the kernel is led on, and what the step does is what its seat
-- is told, also where its call begins anew within it.
use Rattle.std.proofs.Common.{ℕ, ◌≡◌, ◌≤◌, inl, inr, refl, sym, ap, ◌∙◌, subst, Bool, true, false, Option, Some, None, length, arith}
use Rattle.std.proofs.lemmas.Option.{same_Some}
use Rattle.std.proofs.lemmas.Bool.{true≢false}
use Rattle.interleavings.specs.ConcurrentLaws.{BeginTogether, EndTogether, StepTogether}
use Rattle.interleavings.proofs.LackingLemmas.{fresh_room}
use Rattle.page_device.specs.Device.{HasRisen}
use Rattle.step_rules.specs.Turns.{DoesTied, StandsInWay}
use Rattle.interleaving_core.proofs.AnewLemmas.{begins_from, ends_waiting, over_waits, waits_from, woken_from}
use Rattle.interleaving_core.proofs.BetweenLemmas.{Goes, between, first_goes, goes_by, last_goes}
use Rattle.interleaving_core.proofs.PlaceLemmas.{at_same, seat_of_call}
use Rattle.interleaving_core.specs.Active.{is_waiting}
use Rattle.interleaving_core.specs.Turn.{MakesTurn, TakesTurn, TurnsAnew}
use Rattle.interleaving_core.specs.Waiting.{stays_waiting}
use Rattle.interleaving_core.specs.declared.fault.StepFault.TheVariants as faults
use Rattle.interleaving_core.specs.declared.step.Step.TheVariants as told
use Rattle.interleaving_core.specs.xsi_calls.Machine.{call_turn}
use Rattle.interleaving_core.specs.xsi_calls.Words.{Change, Store, TrialLacksRoom, Turn, World, its_plan, trials_of, world}
use Rattle.interleavings.specs.Words.{ActiveView, IsOver, IsSeat, IsTurn, KernelState, PoolState, RecordKey, State, Step, call_at, conclusion_of, lacks_room}
use Rattle.interleavings.specs.Doing.{DoesBy, ComesToLack, LeavesAll, turn_of}
use Rattle.interleavings.specs.Refining.{Refines}
use Rattle.interleavings.specs.Laws.{RefinesOn, StepsRefineAndDo, StepsRefine}
use Rattle.interleavings.proofs.DoingLemmas.{LeadsDoing}
use Rattle.interleavings.proofs.TurnLemmas.{led_on, waits_on}

-- ---- what was so of a kernel that is left as it was

pub risen_since : {first old new : ℕ} → first ≤ old → HasRisen old new → HasRisen first new
risen_since later (inl more) = inl (omega (arith, later, more))
risen_since later (inr most) = inr most

module _ {K : Type 0} (hash : RecordKey → ℕ) (base : State) (seat : ℕ) (by : ActiveView) (pool : PoolState)
    (old new : KernelState K) (before phase behind : Change)
    (leaves : LeavesAll before phase old (between seat by pool old)) (later : old.pool.faults ≤ pool.faults) where
  abbrev mid : KernelState K
  mid = between seat by pool old

  same_world : world pool.images old.locks phase ≡ world old.pool.images old.locks before
  same_world = ap (λ (c : Change). world pool.images old.locks c) leaves.phase
      ∙ ap (λ (s : Store). record { store = s; locks = old.locks; change = before }) leaves.file

  same_turn : turn_of hash by mid ≡ turn_of hash by old
  same_turn = ap (call_turn hash by.machine) leaves.file

  pub leaves_since : LeavesAll phase behind mid new → LeavesAll before behind old new
  leaves_since rest = record {
    file = rest.file ∙ leaves.file;
    locks = rest.locks;
    phase = rest.phase ∙ leaves.phase;
  }

  pub does_since : (did : Step) → DoesBy hash base seat by did phase behind mid new →
      DoesBy hash base seat by did before behind old new
  does_since (told.Moved kind) (come, left, makes) = (
    come,
    left,
    record {
      does = subst (λ (t : Turn). DoesTied hash t kind seat (world old.pool.images old.locks before)
          (world new.pool.images new.locks behind)) same_turn
          (subst (λ (w : World). DoesTied hash (turn_of hash by mid) kind seat w
          (world new.pool.images new.locks behind)) same_world makes.does);
      full = λ room none. subst (λ (c : Change). TrialLacksRoom hash
          (its_plan by.machine.call by.machine.undecided.questions) (trials_of by.machine.undecided).due
          (world new.pool.images new.locks c)) leaves.phase (makes.full room none);
      waits = makes.waits;
    },
  )
  does_since (told.Blocked other) is = record {
    stands = subst (λ (t : Turn). StandsInWay t.ask seat other (world old.pool.images old.locks before)) same_turn
        (subst (λ (w : World). StandsInWay (turn_of hash by mid).ask seat other w) same_world is.stands);
    leaves = leaves_since is.leaves;
  }
  does_since told.Waiting rest = leaves_since rest
  does_since (told.Answered answer) rest = leaves_since rest
  does_since told.Idle rest = leaves_since rest
  does_since (told.Fault (faults.File fault)) fails = record {
    device = record { risen = risen_since later fails.device.risen; told = fails.device.told };
    file = fails.file ∙ leaves.file;
  }
  does_since (told.Fault faults.NoRoom) rest = leaves_since rest

-- ---- each step

module _ (steps : StepTogether) (ends : EndTogether) (begins : BeginTogether) {K : Type 0} (hash : RecordKey → ℕ)
    (base : State) (seat : ℕ) (a : ActiveView) (did : Step) (old new : KernelState K) (led : Refines hash base old)
    (there : call_at old.seats seat ≡ Some a) (sound : old.failed ≡ false) (turn : IsTurn seat did old new) where
  abbrev phase_before : Change
  phase_before = (led.together sound).calls.change

  abbrev Leads : Type 0
  Leads = RefinesOn hash base seat a did phase_before old new

  goes : Goes seat did old new
  goes = goes_by seat did old new turn sound

  seated : (1 ≤ seat) × (seat ≤ length old.seats)
  seated = seat_of_call old.seats seat a there

  is : IsSeat old.locks seat
  is = (seated.0, subst (λ (n : ℕ). seat ≤ n) (sym led.rows) seated.1)

  -- one that was decided to wait and is over is told so
  abbrev IsToldOver : Type 0
  IsToldOver = IsOver a.machine → is_waiting (conclusion_of a.machine) ≡ true → did ≡ told.Waiting

  -- by a step of this very call
  by_itself : IsToldOver → LeadsDoing hash base seat a did phase_before old new → Leads
  by_itself waits leads = record {
    behind = leads.behind;
    led = leads.led;
    does = record {
      by = a;
      is = inl (record { same = refl; waits = waits });
      does = leads.does;
      lacks = leads.lacks;
    };
  }

  -- its call begins anew
  module _ (anew : TurnsAnew hash seat old.stopped did a (call_at new.seats seat) old.pool new.pool old.locks
      new.locks old.journal new.journal) where
    abbrev pub then : KernelState K
    then = between seat anew.again anew.between old

    pub at_then : call_at then.seats seat ≡ Some anew.again
    at_then = at_same old.seats seat (Some anew.again) seated.0 seated.1

    -- its last step
    pub first : LeadsDoing hash base seat a told.Waiting phase_before old then
    first = led_on steps ends begins hash base seat told.Waiting old then is led
        (first_goes seat anew.again anew.between old seated.0 seated.1 sound) a there sound
        (subst (λ (o : Option ActiveView). MakesTurn hash seat old.stopped told.Waiting a o old.pool anew.between
        old.locks old.locks old.journal old.journal) (sym at_then) anew.ends)

    abbrev pub led_then : Refines hash base then
    led_then = first.led.led

    abbrev phase_then : Change
    phase_then = (led_then.together sound).calls.change

    leaves : LeavesAll phase_before phase_then old then
    leaves = subst (λ (c : Change). LeavesAll phase_before c old then) (sym (first.led.phase sound)) first.does

    -- begun anew it lacks no room
    again_room : lacks_room anew.again.machine ≡ false
    again_room = fresh_room anew.again.machine (begins_from hash seat old.stopped a anew.again old.pool anew.between
        old.locks old.locks old.journal old.journal anew.ends).begins.new

    last : Goes seat did then new
    last = last_goes seat anew.again anew.between old did new goes

    later : old.pool.faults ≤ anew.between.faults
    later = anew.ends.makes.writes.later

    leads_anew : Leads
    leads_anew = by (stays_waiting anew.again.wait anew.again.machine.call old.journal) refl
      where
        by : (b : Bool) → stays_waiting anew.again.wait anew.again.machine.call old.journal ≡ b → Leads
        by true stays =
            let waits = anew.waits stays in
            let leads = waits_on steps ends begins hash base seat did then new is led_then last anew.again at_then sound
            waits in
            record {
              behind = leads.behind;
              led = leads.led;
              does = record {
                by = a;
                is = inl (record { same = refl; waits = λ over put_off. waits.told_is });
                does = subst (λ (d : Step). DoesBy hash base seat a d phase_before leads.behind old new)
                    (sym waits.told_is)
                    (leaves_since hash base seat anew.again anew.between old new phase_before phase_then leads.behind
                    leaves later
                    (subst (λ (d : Step). DoesBy hash base seat anew.again d phase_then leads.behind then new)
                    waits.told_is leads.does));
                lacks = λ come left sound_still room lacks.
                    let same = same_Some _ come (sym waits.left_is ∙ left) in
                    absurd (true≢false (sym (ap (λ (x : ActiveView). lacks_room x.machine) same ∙ lacks)
                    ∙ again_room));
              };
            }
        by false woken =
            let leads = led_on steps ends begins hash base seat did then new is led_then last anew.again at_then sound
            (anew.goes woken).0 in
            record {
              behind = leads.behind;
              led = leads.led;
              does = record {
                by = anew.again;
                is = inr (record {
                  over = (ends_waiting hash seat old.stopped a anew.again old.pool anew.between old.locks old.locks
                      old.journal old.journal anew.ends).over;
                  waits = waits_from hash seat old.stopped a anew.again old.pool anew.between old.locks old.locks
                      old.journal old.journal anew.ends;
                  woken = woken_from hash seat old.stopped a anew.again old.pool anew.between old.locks old.locks
                      old.journal old.journal anew.ends old.journal woken;
                  begins = begins_from hash seat old.stopped a anew.again old.pool anew.between old.locks old.locks
                      old.journal old.journal anew.ends;
                });
                does = does_since hash base seat anew.again anew.between old new phase_before phase_then leads.behind
                    leaves later did leads.does;
                lacks = λ come left sound_still room lacks.
                    subst (λ (c : Change). ComesToLack hash anew.again come c new) leaves.phase
                    (leads.lacks come left sound_still room lacks);
              };
            }

  pub leads_by : TakesTurn hash seat old.stopped did a (call_at new.seats seat) old.pool new.pool old.locks new.locks
      old.journal new.journal → Leads
  leads_by takes = by (stays_waiting a.wait a.machine.call old.journal) refl
    where
      by : (b : Bool) → stays_waiting a.wait a.machine.call old.journal ≡ b → Leads
      by true stays = by_itself (λ over put_off. (takes.waits stays).told_is) (waits_on steps ends begins hash base
          seat did old new is led goes a there sound (takes.waits stays))
      by false woken = elim (takes.goes woken) [
        | inl made ↦ by_itself (over_waits hash seat old.stopped did a (call_at new.seats seat) old.pool new.pool
            old.locks new.locks old.journal new.journal made.0)
            (led_on steps ends begins hash base seat did old new is led goes a there sound made.0)
        | inr anew ↦ leads_anew anew
      ]

pub steps_lead_and_do : StepTogether → EndTogether → BeginTogether → (K : Type 0) → StepsRefineAndDo K
steps_lead_and_do steps ends begins K hash base seat a did old new led there sound step =
    leads_by steps ends begins hash base seat a did old new led there sound step.turn (step.makes a there sound)

pub steps_led : StepTogether → EndTogether → BeginTogether → (K : Type 0) → StepsRefine K
steps_led steps ends begins K hash base seat did old new is led step =
    by (call_at old.seats seat) refl old.failed refl
  where
    by : (o : Option ActiveView) → call_at old.seats seat ≡ o → (b : Bool) → old.failed ≡ b → Refines hash base new
    by None there b is_b = subst (Refines hash base) (sym (step.turn.spares there)) led
    by (Some a) there true broken = subst (Refines hash base) (sym (step.turn.still broken)) led
    by (Some a) there false sound =
        (steps_lead_and_do steps ends begins K hash base seat a did old new led there sound step).led.led
