-- What a step of a lone call leaves of a kernel.
use Rattle.std.proofs.Common.{ℕ, ◌≡◌, ◌≢◌, ◌<◌, ◌≤◌, refl, sym, ap, ◌∙◌, subst, Bool, true, false, true≢false, inl, inr, List, Option, Some, None, length, arith}
use Rattle.std.proofs.lemmas.Option.{none-some, same_Some}
use Rattle.std.proofs.lemmas.Bool.{cases_eq}
use Rattle.page_device.specs.Device.{HasRisen}
use Rattle.step_rules.specs.declared.progress.Progress.TheVariants as progress
use Rattle.interleaving_core.proofs.AnewLemmas.{begins_from, ends_waiting, waits_from, woken_from}
use Rattle.interleaving_core.proofs.BetweenLemmas.{Goes, goes_by}
use Rattle.interleaving_core.proofs.PlaceLemmas.{Seats, at_other}
use Rattle.interleaving_core.proofs.RunLemmas.{seat_stays}
use Rattle.interleaving_core.specs.Words.{Entry}
use Rattle.interleaving_core.specs.declared.fault.StepFault.TheVariants as faults
use Rattle.interleaving_core.specs.declared.step.Step.TheVariants as steps
use Rattle.interleaving_core.specs.xsi_calls.Machine.{answer_by}
use Rattle.interleaving_core.specs.xsi_calls.declared.conclusion.Conclusion.TheVariants as conclusions
use Rattle.interleavings.specs.ConcurrentLaws.{BeginTogether}
use Rattle.interleavings.specs.LoneKernelWords.{ActiveView, Begins, Call, CallView, Caller, Conclusion, FileFault, HasFittingCall, HasFittingCaller, HaveFewSteps, IsFileAtRest, IsLeft, IsLeftWhenOver, IsOver, IsSeat, IsServed, IsTurn, KernelState, MakesCall, MakesTurn, PoolState, Progress, RecordKey, State, StaysWaiting, Step, Table, TakesTurn, TurnsAnew, call_at, call_left, conclusion_of, is_failure, is_waiting, is_woken, outcome, stays_waiting, store_of, told_of, told_when_over}
use Rattle.interleavings.specs.LoneCalls.{GoesOn, IsLoneCall}
use Rattle.interleavings.specs.Lone.{IsAsleep, RestsOver, ServesOver, WaitsOver, is_to_begin_anew}
use Rattle.interleavings.specs.LoneKernelLaws.{AnswersByTheRules, StandsBehind}
use Rattle.interleavings.specs.LoneCallWords.{has_no_room, is_fault}
use Rattle.interleavings.specs.Serving.{ComesBy, lacks_by}
use Rattle.interleavings.proofs.DriveLemmas.{are_both, new_so, still_so}
use Rattle.interleavings.proofs.LackingLemmas.{over_concluded}
use Rattle.interleavings.proofs.LoneCallLemmas.{begins_alone, fits, goes_alone, leaves_at_rest}
use Rattle.interleavings.proofs.RestingLemmas.{at_rest_too}
use Rattle.interleavings.proofs.WaitLemmas.{awake_goes}
use Rattle.interleavings.proofs.WaitingLemmas.{still_decided, undecided_yet}

-- where a call has come to waiting the rules have no answer, and the system is as it was
waits_so : (o : Option Conclusion) (caller : Caller) (call : Call) (bytes : List ℕ) (s now : State) →
    is_waiting o ≡ true → ComesBy o caller call bytes s now → (outcome caller call s ≡ None) × (now ≡ s)
waits_so None caller call bytes s now waits comes = absurd cc
waits_so (Some (conclusions.Answers verdict)) caller call bytes s now waits comes = absurd cc
waits_so (Some conclusions.Waits) caller call bytes s now waits comes = comes
waits_so (Some conclusions.HasNoRoom) caller call bytes s now waits comes = absurd cc

-- ---- what is so behind a step

-- it moves, and fewer steps are left
pub record MovesOn {K : Type 0} (hash : RecordKey → ℕ) (seat : ℕ) (caller : Caller) (call : Call) (s : State)
    (left : ℕ) (k : KernelState K) : Type 0 where
  pub served : ServesOver hash seat caller call s k
  pub fewer : call_left served.active.machine (store_of k.pool.images) < left

-- besides what stands behind it, and where the file fails the call a transfer of the device failed
abbrev pub Behind : {K : Type 0} → (RecordKey → ℕ) → ℕ → Caller → Call → State → ℕ → (old new : KernelState K) → Step →
    Type 0
Behind hash seat caller call s left old new (steps.Moved kind) = MovesOn hash seat caller call s left new
Behind hash seat caller call s left old new (steps.Fault (faults.File fault)) =
    (new.failed ≡ true) × HasRisen old.pool.faults new.pool.faults
Behind hash seat caller call s left old new did = StandsBehind hash seat caller call s did new

pub behind : {K : Type 0} (hash : RecordKey → ℕ) (seat : ℕ) (caller : Caller) (call : Call) (s : State) (left : ℕ)
    (old new : KernelState K) (did : Step) → Behind hash seat caller call s left old new did →
    StandsBehind hash seat caller call s did new × (is_failure did ≡ true → HasRisen old.pool.faults new.pool.faults)
behind hash seat caller call s left old new (steps.Moved kind) is = (is.served, λ fails. absurd cc)
behind hash seat caller call s left old new (steps.Blocked other) is = absurd is
behind hash seat caller call s left old new steps.Idle is = absurd is
behind hash seat caller call s left old new (steps.Fault (faults.File fault)) is = (is.0, λ fails. is.1)
behind hash seat caller call s left old new _ is = (is, λ fails. absurd cc)

-- ---- it begins anew within a step

-- nothing has woken it
module _ {K : Type 0} (hash : RecordKey → ℕ) (seat : ℕ) (caller : Caller) (call : Call) (s : State) (did : Step)
    (old : KernelState K) (left : Option ActiveView) (pool : PoolState) (locks : Table) (journal : List Entry)
    (serves : ServesOver hash seat caller call s old)
    (anew : TurnsAnew hash seat old.stopped did serves.active left old.pool pool old.locks locks old.journal journal)
  where
    pub never_woken : stays_waiting anew.again.wait anew.again.machine.call old.journal ≡ true
    never_woken = by (stays_waiting anew.again.wait anew.again.machine.call old.journal) refl
      where
        by : (b : Bool) → stays_waiting anew.again.wait anew.again.machine.call old.journal ≡ b → b ≡ true
        by true is = refl
        by false is = absurd (true≢false (sym (are_both (is_waiting (conclusion_of serves.active.machine))
            (is_woken serves.active.machine.call serves.active.decided old.journal)
            (waits_from hash seat old.stopped serves.active anew.again old.pool anew.between old.locks old.locks
            old.journal old.journal anew.ends)
            (woken_from hash seat old.stopped serves.active anew.again old.pool anew.between old.locks old.locks
            old.journal old.journal anew.ends old.journal is)) ∙ serves.quiet))

-- ---- each step

module _ (begins : BeginTogether) (few_steps : HaveFewSteps) {K : Type 0} (hash : RecordKey → ℕ) (seat : ℕ)
    (caller : Caller) (call : Call) (s : State) (did : Step) (old new : KernelState K) (is : IsSeat new.locks seat)
    (serves : ServesOver hash seat caller call s old) (goes : Goes seat did old new) where
  abbrev a : ActiveView
  a = serves.active

  abbrev left : Option ActiveView
  left = call_at new.seats seat

  mark : s.stopped ≡ new.stopped
  mark = serves.mark ∙ sym goes.stopped

  others : (other : ℕ) → other ≢ seat → call_at new.seats other ≡ None
  others other apart = ap (λ (x : Seats). call_at x other) goes.seats
      ∙ at_other old.seats seat other left apart ∙ serves.others other apart

  abbrev So : Step → Type 0
  So told = Behind hash seat caller call s (call_left a.machine (store_of old.pool.images)) old new told

  -- ---- it waits on

  waits_on : (x : ActiveView) (pool : PoolState) → Begins caller call x.machine →
      IsFileAtRest hash s pool old.locks → outcome caller call s ≡ None →
      StaysWaiting did x left pool new.pool old.locks new.locks old.journal new.journal →
      WaitsOver hash seat caller call s new
  waits_on x pool begun file none t = record {
    serves = record {
      active = record x { wait = Some (length old.journal) };
      there = t.left_is;
      served = begins_alone hash s new.pool new.locks rest begins seat caller call x.machine is its.0 its.1 begun;
      few = few_steps x.machine (store_of new.pool.images) begun.new;
      waits = λ stays. none;
      asleep = λ since some.
          subst (λ (n : ℕ). IsAsleep hash caller call s x.machine n new) (same_Some _ since some) asleep;
      quiet = new_so (record x { wait = Some (length old.journal) }) new.journal begun.new;
      decided = λ some. absurd (undecided_yet x.machine begun.new some);
      others = others;
      sound = goes.failed ∙ ap is_failure t.told_is;
      mark = mark;
    };
    none = none;
    told = refl;
  }
    where
      its : HasFittingCaller caller × HasFittingCall call
      its = fits hash seat caller call s a.machine old.pool old.locks serves.served.lone

      rest : IsFileAtRest hash s new.pool new.locks
      rest = at_rest_too hash s t.same_pool t.same_locks file

      asleep : IsAsleep hash caller call s x.machine (length old.journal) new
      asleep = record {
        begins = begun;
        file = rest;
        within = let same = ap length t.same_journal in omega (arith, same);
      }

  stays_on : stays_waiting a.wait a.machine.call old.journal ≡ true →
      StaysWaiting did a left old.pool new.pool old.locks new.locks old.journal new.journal → So did
  stays_on stays t = subst So (sym t.told_is) (by a.wait refl)
    where
      by : (wait : Option ℕ) → a.wait ≡ wait → WaitsOver hash seat caller call s new
      by None none = absurd (awake_goes a.wait a.machine.call old.journal none stays)
      by (Some since) some =
          let asleep = serves.asleep since some in
          waits_on a old.pool asleep.begins asleep.file (serves.waits stays) t

  -- it was decided to wait, and begins anew
  module _ (anew : TurnsAnew hash seat old.stopped did a left old.pool new.pool old.locks new.locks old.journal
      new.journal) where
    abbrev last : CallView
    last = anew.ends.come.machine

    again : Begins a.machine.caller a.machine.call anew.again.machine
    again = (begins_from hash seat old.stopped a anew.again old.pool anew.between old.locks old.locks old.journal
        old.journal anew.ends).begins

    ended : anew.ends.did ≡ progress.Ended
    ended = anew.ends.makes.aim.ended.1 (ends_waiting hash seat old.stopped a anew.again old.pool anew.between
        old.locks old.locks old.journal old.journal anew.ends).over

    lone : IsLoneCall hash seat caller call s last anew.between old.locks
    lone = ((goes_alone hash seat caller call s old.stopped anew.ends.did a.machine last old.pool anew.between
        old.locks old.locks serves.served serves.mark anew.ends.makes).served (ap is_fault ended)).lone

    still : (o : Option Conclusion) → conclusion_of a.machine ≡ o → is_waiting o ≡ true →
        is_waiting (conclusion_of last) ≡ true
    still None none waits = absurd cc
    still (Some c) some waits = ap is_waiting (anew.ends.makes.aim.stays c some) ∙ waits

    came_to : (outcome caller call s ≡ None) × (lone.now ≡ s)
    came_to = waits_so (conclusion_of last) caller call last.undecided.questions.room.bytes s lone.now
        (still (conclusion_of a.machine) refl (waits_from hash seat old.stopped a anew.again old.pool anew.between
        old.locks old.locks old.journal old.journal anew.ends)) lone.comes

    anew_on : So did
    anew_on =
        let stays = anew.waits (never_woken hash seat caller call s did old left new.pool new.locks new.journal serves
        anew) in
        subst So (sym stays.told_is) (waits_on anew.again anew.between (record {
          caller_is = again.caller_is ∙ serves.served.lone.caller_is;
          call_is = again.call_is ∙ serves.served.lone.call_is;
          new = again.new;
        }) (subst (λ (t : State). IsFileAtRest hash t anew.between old.locks) came_to.1
        (leaves_at_rest hash seat caller call s last anew.between old.locks lone (anew.ends.makes.aim.over ended)))
        came_to.0 stays)

  -- ---- its machine makes a step

  module _ (turn : MakesTurn hash seat old.stopped did a left old.pool new.pool old.locks new.locks old.journal
      new.journal) (goes_on : did ≢ steps.Waiting) where
    abbrev come : ActiveView
    come = turn.come

    quiet : is_to_begin_anew come new.journal ≡ false
    quiet = by (is_to_begin_anew come new.journal) refl
      where
        by : (b : Bool) → is_to_begin_anew come new.journal ≡ b → b ≡ false
        by true anew = absurd (true≢false (sym (still_so hash seat old.stopped did a left old.pool new.pool old.locks
            new.locks old.journal new.journal turn anew) ∙ serves.quiet))
        by false still = refl

    decided : come.decided ≤ length new.journal
    decided = still_decided hash seat old.stopped did a left old.pool new.pool old.locks new.locks
        old.journal new.journal turn serves.decided

    abbrev Makes : Progress FileFault → Type 0
    Makes p = MakesCall hash seat old.stopped p a.machine come.machine old.pool new.pool old.locks new.locks

    on : (p : Progress FileFault) → Makes p →
        GoesOn hash seat caller call s p a.machine come.machine old.pool new.pool new.locks
    on p makes = goes_alone hash seat caller call s old.stopped p a.machine come.machine old.pool new.pool old.locks
        new.locks serves.served serves.mark makes

    -- it is over
    module _ (served : IsServed hash seat caller call s come.machine new.pool new.locks) (over : IsOver come.machine)
      where
        abbrev now : State
        now = served.lone.now

        comes : (c : Option Conclusion) → conclusion_of come.machine ≡ c →
            ComesBy c caller call come.machine.undecided.questions.room.bytes s now
        comes c is_c = subst (λ (o : Option Conclusion). ComesBy o caller call
            come.machine.undecided.questions.room.bytes s now) is_c served.lone.comes

        rests : left ≡ None → is_failure did ≡ false → RestsOver hash now new
        rests gone fine = record {
          file = leaves_at_rest hash seat caller call s come.machine new.pool new.locks served.lone over;
          idle = λ other. elim (cases_eq other seat) [
            | inl same ↦ ap (call_at new.seats) same ∙ gone
            | inr apart ↦ others other apart
          ];
          sound = goes.failed ∙ fine;
          mark = served.lone.mark ∙ mark;
        }

        ends : (c : Option Conclusion) → conclusion_of come.machine ≡ c → IsLeftWhenOver (is_waiting c) come left →
            did ≡ told_when_over (is_waiting c) (answer_by c come.machine.undecided.questions.room.bytes) →
            So (told_when_over (is_waiting c) (answer_by c come.machine.undecided.questions.room.bytes))
        ends None is_c gone told = absurd (over_concluded come.machine over is_c)
        ends (Some (conclusions.Answers verdict)) is_c gone told =
            record { after = now; by_rules = comes _ is_c; rests = rests gone (ap is_failure told) }
        ends (Some conclusions.Waits) is_c gone told = absurd (goes_on told)
        ends (Some conclusions.HasNoRoom) is_c gone told = (
          served.cause (ap (λ (o : Option Conclusion). lacks_by o (has_no_room come.machine.undecided)) is_c),
          subst (λ (t : State). RestsOver hash t new) (comes _ is_c) (rests gone (ap is_failure told)),
        )

    stands : (p : Progress FileFault) → Makes p → IsLeft p come left → did ≡ told_of p come.machine →
        So (told_of p come.machine)
    stands (progress.Moved kind) makes there told =
        let fewer = (on (progress.Moved kind) makes).nears in
        let few = serves.few in
        record {
          served = record {
            active = come;
            there = there;
            served = (on (progress.Moved kind) makes).served refl;
            few = omega (arith, fewer, few);
            waits = λ stays. absurd (awake_goes come.wait come.machine.call new.journal turn.marked.awake stays);
            asleep = λ since some. absurd (none-some since (sym turn.marked.awake ∙ some));
            quiet = quiet;
            decided = λ some. decided;
            others = others;
            sound = goes.failed ∙ ap is_failure told;
            mark = mark;
          };
          fewer = fewer;
        }
    stands (progress.Blocked other) makes there told = absurd ((on (progress.Blocked other) makes).free other refl)
    stands (progress.Fault fault) makes there told =
        (goes.failed ∙ ap is_failure told, (on (progress.Fault fault) makes).nears.devices.risen)
    stands progress.Ended makes there told = ends ((on progress.Ended makes).served refl) (makes.aim.over refl)
        (conclusion_of come.machine) refl there told

    made_on : So did
    made_on = subst So (sym turn.told_is) (stands turn.did turn.makes turn.left_is turn.told_is)

  takes_on : TakesTurn hash seat old.stopped did a left old.pool new.pool old.locks new.locks old.journal new.journal →
      So did
  takes_on t = by (stays_waiting a.wait a.machine.call old.journal) refl
    where
      by : (waits : Bool) → stays_waiting a.wait a.machine.call old.journal ≡ waits → So did
      by true stays = stays_on stays (t.waits stays)
      by false woken = elim (t.goes woken) [
        | inl made ↦ made_on made.0 made.1
        | inr anew ↦ anew_on anew
      ]

pub steps_on : BeginTogether → HaveFewSteps → {K : Type 0} (hash : RecordKey → ℕ) (seat : ℕ) (caller : Caller)
    (call : Call) (s : State) (did : Step) (old new : KernelState K)
    (serves : ServesOver hash seat caller call s old) → IsTurn seat did old new →
    ((a : ActiveView) → call_at old.seats seat ≡ Some a → old.failed ≡ false →
    TakesTurn hash seat old.stopped did a (call_at new.seats seat) old.pool new.pool old.locks new.locks
    old.journal new.journal) →
    Behind hash seat caller call s (call_left serves.active.machine (store_of old.pool.images)) old new did
steps_on begins few_steps hash seat caller call s did old new serves turn makes =
    takes_on begins few_steps hash seat caller call s did old new
    (seat_stays seat _ old new turn.run serves.served.lone.seated) serves (goes_by seat did old new turn serves.sound)
    (makes serves.active serves.there serves.sound)

pub answers_by_the_rules : BeginTogether → HaveFewSteps → (K : Type 0) → AnswersByTheRules K
answers_by_the_rules begins few_steps K hash seat caller call s did old new is serves turn makes =
    (behind hash seat caller call s (call_left serves.active.machine (store_of old.pool.images)) old new did
    (steps_on begins few_steps hash seat caller call s did old new serves turn makes)).0
