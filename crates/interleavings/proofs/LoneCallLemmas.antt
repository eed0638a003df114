-- A call that is made alone, by the laws of calls beside one another.
use Rattle.std.proofs.Common.{ℕ, ◌≡◌, ◌≢◌, refl, sym, ap, ◌∙◌, subst, Bool, true, false, true≢false, if◌then◌else◌, List, Option, Some, None, IsSome}
use Rattle.std.proofs.lemmas.Bool.{eq-eqb, ne_eqb}
use Rattle.page_locks.proofs.ChangeLemmas.{IsSeat-with_row}
use Rattle.step_rules.specs.Turns.{TurnsAt}
use Rattle.xsi_calls.specs.CallSteps.{StepsCall}
use Rattle.xsi_calls.specs.Machine.{call_turn, conclusion_at}
use Rattle.xsi_calls.specs.Stages.{Stage}
use Rattle.interleavings.specs.LoneCallWords.{Begins, Blocked, Call, CallView, Caller, Conclusion, FileFault, HasFittingCall, HasFittingCaller, IsFileAtRest, IsOver, IsSeat, MakesCall, PoolState, Progress, RecordKey, State, Table, call_locks, conclusion_of, is_fault, store_of, world}
use Rattle.interleavings.specs.Serving.{ComesBy, lacks_room}
use Rattle.interleavings.specs.Together.{AreTogether, IsUnderWay, locks_of}
use Rattle.interleavings.specs.ConcurrentLaws.{BeginTogether, LeadTogether, LeadsBy}
use Rattle.interleavings.specs.LoneCalls.{FoundNoRoom, GoesOn, GoesOnAlone, IsLoneCall, IsServed, only}
use Rattle.interleavings.proofs.GoLemmas.{step_together}
use Rattle.interleavings.proofs.LackingLemmas.{fresh_room, turns_full}
use Rattle.interleavings.proofs.RestLemmas.{end_together, leave_at_rest, rest_together, stop_together}
use Rattle.interleavings.proofs.SeatLemmas.{well}
use Rattle.interleavings.proofs.TellingLemmas.{stands_by}

-- ---- the seats

-- no call is under way
abbrev no_calls : (seat : ℕ) → Option CallView
no_calls seat = None

module _ (seat : ℕ) (m : CallView) where
  only_there : only seat m seat ≡ Some m
  only_there = ap (λ (b : Bool). if b then Some m else None) (eq-eqb seat seat refl)

  only_apart : (other : ℕ) → other ≢ seat → only seat m other ≡ None
  only_apart other apart = ap (λ (b : Bool). if b then Some m else None) (ne_eqb other seat apart)

-- ---- a file at rest

module _ (hash : RecordKey → ℕ) (s : State) (pool : PoolState) (locks : Table) (rest : IsFileAtRest hash s pool locks)
  where
    rests : AreTogether hash s no_calls pool locks
    rests = (rest_together hash s no_calls pool locks rest (λ seat. refl)).together

    pub stops_at_rest : (stopped : Bool) → IsFileAtRest hash (record s { stopped = stopped }) pool locks
    stops_at_rest stopped = leave_at_rest hash (record s { stopped = stopped }) no_calls pool locks
        (stop_together hash s stopped no_calls pool locks rests).together (λ seat. refl)

    -- a call begins
    pub begins_alone : BeginTogether → (seat : ℕ) (caller : Caller) (call : Call) (m : CallView) → IsSeat locks seat →
        HasFittingCaller caller → HasFittingCall call → Begins caller call m →
        IsServed hash seat caller call s m pool locks
    begins_alone begins seat caller call m seated caller_fits call_fits begun = record {
      lone = record {
        caller_is = begun.caller_is;
        call_is = begun.call_is;
        seated = seated;
        now = s;
        comes = subst (λ (x : Stage). ComesBy (conclusion_at x) caller call m.undecided.questions.room.bytes s s)
            (sym begun.new.stage) refl;
        mark = refl;
        together = (begins hash seat caller call s m no_calls (only seat m) pool locks rests refl caller_fits
            call_fits begun (only_there seat m) (only_apart seat m)).together;
      };
      cause = λ lacks. absurd (true≢false (sym lacks ∙ fresh_room m begun.new));
    }

-- ---- where it stands

module _ (hash : RecordKey → ℕ) (seat : ℕ) (caller : Caller) (call : Call) (s : State) (m : CallView)
    (pool : PoolState) (locks : Table) (lone : IsLoneCall hash seat caller call s m pool locks) where
  pub under_way : IsUnderWay hash seat lone.now m lone.together.records pool locks lone.together.change
  under_way = well hash seat lone.now (only seat m seat) lone.together.records pool locks lone.together.change m
      (only_there seat m) (lone.together.calls seat)

  pub fits : HasFittingCaller caller × HasFittingCall call
  fits = (
    subst HasFittingCaller lone.caller_is under_way.caller_fits,
    subst HasFittingCall lone.call_is under_way.call_fits,
  )

  -- once it is over the file is at rest with the system to which it has come
  pub leaves_at_rest : IsOver m → IsFileAtRest hash lone.now pool locks
  leaves_at_rest over = leave_at_rest hash lone.now no_calls pool locks
      (end_together hash seat lone.now m (only seat m) no_calls pool locks lone.together (only_there seat m) over refl
      (λ other apart. sym (only_apart seat m other apart))).together (λ seat. refl)

-- ---- its steps

module _ (hash : RecordKey → ℕ) (seat : ℕ) (caller : Caller) (call : Call) (s : State) (stopped : Bool)
    (did : Progress FileFault) (old new : CallView) (pool pool' : PoolState) (locks locks' : Table)
    (served : IsServed hash seat caller call s old pool locks) (mark : s.stopped ≡ stopped)
    (made : MakesCall hash seat stopped did old new pool pool' locks locks') where
  abbrev lone : IsLoneCall hash seat caller call s old pool locks
  lone = served.lone

  abbrev was : AreTogether hash lone.now (only seat old) pool locks
  was = lone.together

  at : IsUnderWay hash seat lone.now old was.records pool locks was.change
  at = under_way hash seat caller call s old pool locks lone

  module _ (fine : is_fault did ≡ false) where
    leading : LeadTogether hash seat did lone.now (only seat new) old new (world pool.images locks was.change) pool'
        locks'
    leading = step_together hash seat lone.now stopped did old new (only seat old) (only seat new) pool pool' locks
        locks' was lone.seated (only_there seat old) (lone.mark ∙ mark) made fine (only_there seat new)
        (λ other apart. only_apart seat new other apart ∙ sym (only_apart seat old other apart))

    abbrev room : List ℕ
    room = new.undecided.questions.room.bytes

    leads : (o : Option Conclusion) → conclusion_of old ≡ o →
        LeadsBy o (conclusion_of new) old.caller old.call room lone.now leading.after
    leads o is = subst (λ (x : Option Conclusion). LeadsBy x (conclusion_of new) old.caller old.call room lone.now
        leading.after) is leading.leads

    came : (o : Option Conclusion) → conclusion_of old ≡ o →
        ComesBy o caller call old.undecided.questions.room.bytes s lone.now
    came o is = subst (λ (x : Option Conclusion). ComesBy x caller call old.undecided.questions.room.bytes s lone.now)
        is lone.comes

    comes : (o : Option Conclusion) → conclusion_of old ≡ o →
        ComesBy (conclusion_of new) caller call room s leading.after
    comes None is = subst (λ (t : State). ComesBy (conclusion_of new) caller call room t leading.after) (came None is)
        (subst (λ (c : Caller). ComesBy (conclusion_of new) c call room lone.now leading.after) lone.caller_is
        (subst (λ (x : Call). ComesBy (conclusion_of new) old.caller x room lone.now leading.after) lone.call_is
        (leads None is)))
    -- it stays, with the bytes of its answer
    comes (Some c) is =
        let stays = made.aim.stays c is in
        subst (λ (o : Option Conclusion). ComesBy o caller call room s leading.after) (sym stays)
        (subst (ComesBy (Some c) caller call room s) (sym (leads (Some c) is))
        (subst (λ (bytes : List ℕ). ComesBy (Some c) caller call bytes s lone.now)
        (sym (ap (λ r. r.bytes) (made.aim.bytes (subst IsSome (sym stays) refl)))) (came (Some c) is)))

    goes_on : IsLoneCall hash seat caller call s new pool' locks'
    goes_on = record {
      caller_is = made.aim.caller ∙ lone.caller_is;
      call_is = made.aim.call ∙ lone.call_is;
      seated = subst (λ (t : Table). IsSeat t seat) (sym made.row)
          (IsSeat-with_row locks seat seat (call_locks new) lone.seated);
      now = leading.after;
      comes = comes (conclusion_of old) refl;
      mark = leading.mark ∙ lone.mark;
      together = leading.together;
    }

    step : StepsCall hash seat lone.now did old new was.records pool pool' locks locks' was.change
    step = made.step lone.now was.records was.change at.calls (lone.mark ∙ mark) fine

    cause_on : (b : Bool) → lacks_room old ≡ b → lacks_room new ≡ true → FoundNoRoom hash seat caller call s
    cause_on true short lacks = served.cause short
    cause_on false had lacks =
        let full = turns_full hash seat lone.now did old new was.records pool pool' locks locks' was.change made.aim
        step had lacks in
        record {
          old = old;
          old_pool = pool;
          old_locks = locks;
          before = lone;
          new = new;
          new_pool = pool';
          new_locks = locks';
          behind = goes_on;
          lacks = step.full full.room_before full.none_then;
        }

  free : (other : ℕ) → did ≡ Blocked other → ⊥
  free other blocked =
      let led = leading (ap is_fault blocked) in
      let does = subst (λ (d : Progress FileFault). TurnsAt hash (call_turn hash old (store_of pool.images)) d seat
      (world pool.images locks was.change) (world pool'.images locks' led.together.change)) blocked led.stepped.does in
      let holds = stands_by seat other (world pool.images locks was.change) _ does.0 in
      holds.some (was.rows other ∙ ap locks_of (only_apart seat old other holds.another))

  pub goes_alone : GoesOn hash seat caller call s did old new pool pool' locks'
  goes_alone = record {
    nears = made.progress lone.now was.records was.change at.calls (lone.mark ∙ mark);
    free = free;
    served = λ fine. record { lone = goes_on fine; cause = cause_on fine (lacks_room old) refl };
  }

pub goes_on_alone : GoesOnAlone
goes_on_alone = goes_alone
