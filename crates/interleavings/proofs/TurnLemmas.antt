-- A kernel that is led from a system stays so after a step of a seat.
use Rattle.std.proofs.Common.{ℕ, ◌≡◌, ◌≤◌, ◌⊎◌, inl, inr, refl, sym, ap, ◌∙◌, subst, Bool, true, false, List, [], Option, Some, None, IsSome, length}
use Rattle.std.proofs.lemmas.Option.{none-some, same_Some}
use Rattle.std.proofs.Math.Path.{fun_ext}
use Rattle.std.proofs.lemmas.Bool.{cases_eq, true≢false}
use Rattle.interleavings.specs.ConcurrentLaws.{AreTheOthers, AreTogetherIn, BeginTogether, EndTogether, LeadTogether, StepTogether}
use Rattle.interleavings.specs.Together.{AreTogether, IsUnderWay}
use Rattle.interleavings.proofs.SeatLemmas.{well}
use Rattle.interleaving_core.proofs.PlaceLemmas.{at_other, at_same, length-with_call}
use Rattle.interleaving_core.specs.Active.{is_waiting}
use Rattle.interleaving_core.specs.Owing.{is_failure}
use Rattle.interleaving_core.specs.Searches.{Counts}
use Rattle.interleaving_core.specs.Counting.{CountsState, count_at}
use Rattle.interleaving_core.specs.xsi_calls.Machine.{call_facts, call_turn}
use Rattle.interleaving_core.specs.xsi_calls.Words.{Change, world}
use Rattle.step_rules.specs.World.{World}
use Rattle.step_rules.proofs.WalkingLemmas.{others_steps_walk, own_steps_walk}
use Rattle.interleavings.specs.Counting.{AreCounted, IsCounted, facts_of, under_way_in}
use Rattle.interleavings.proofs.CountedLemmas.{AreCountedIn, counted_idle, counted_in, counted_of, counts_by, fresh_facts}
use Rattle.interleavings.proofs.CountLemmas.{CountsBy, counted_beside, counted_own, phase_behind}
use Rattle.interleaving_core.specs.Turn.{IsLeft, IsLeftWhenOver, MakesTurn, told_of}
use Rattle.interleaving_core.specs.xsi_calls.declared.conclusion.Conclusion.{Conclusion}
use Rattle.step_rules.specs.declared.kind.Kind.TheVariants.{Decide}
use Rattle.step_rules.specs.declared.progress.Progress.TheVariants as progress
use Rattle.interleavings.specs.Words.{ActiveView, Begins, Caller, Entry, FileFault, HasFittingCall, HasFittingCaller, IsOver, IsSeat, KernelState, LeadsAlong, PoolState, Progress, RecordKey, State, Step, call_at, caller_at, conclusion_of, is_fault, with_call}
use Rattle.interleavings.specs.Refining.{Refines, RefinesIn, calls_of}
use Rattle.interleavings.proofs.DoingLemmas.{LeadsDoing, failed, failed_lacks, made, made_lacks, waiting, waiting_lacks}
use Rattle.interleavings.proofs.LeadLemmas.{keeps_answer, leads_on, machine, others_same, still_leads}
use Rattle.interleaving_core.specs.Turn.{StaysWaiting}
use Rattle.interleaving_core.proofs.BetweenLemmas.{Goes}
use Rattle.interleavings.specs.Words.{CallView, Table, store_of}

-- ---- a step

module _ (steps : StepTogether) (ends : EndTogether) (begins : BeginTogether) {K : Type 0} (hash : RecordKey → ℕ)
    (base : State) (seat : ℕ) (did : Step) (old new : KernelState K) (is : IsSeat old.locks seat)
    (led : Refines hash base old) (goes : Goes seat did old new) (a : ActiveView)
    (there : call_at old.seats seat ≡ Some a) (sound : old.failed ≡ false)
  where
    abbrev was : AreCounted hash led.now old
    was = led.together sound

    abbrev before : AreTogether hash led.now (calls_of old.seats) old.pool old.locks
    before = was.calls

    under_way : IsUnderWay hash seat led.now a.machine before.records old.pool old.locks before.change
    under_way = well hash seat led.now (calls_of old.seats seat) before.records old.pool old.locks before.change
        a.machine (ap machine there) (before.calls seat)

    sits : caller_at old.callers seat ≡ Some a.machine.caller
    sits = led.sits seat a there

    within : seat ≤ length old.seats
    within = subst (λ (n : ℕ). seat ≤ n) led.rows is.1

    callers : new.callers ≡ old.callers
    callers = goes.callers

    fitting : (i : ℕ) (caller : Caller) → caller_at new.callers i ≡ Some caller → HasFittingCaller caller
    fitting i caller at = led.callers i caller (sym (ap (λ (cs : List Caller). caller_at cs i) callers) ∙ at)

    same_places : length old.seats ≡ length new.seats
    same_places = sym (length-with_call old.seats seat (call_at new.seats seat)) ∙ ap length (sym goes.seats)

    rows : length new.locks ≡ length new.seats
    rows = goes.as_many ∙ led.rows ∙ same_places

    -- a call that is left at the seat is one of the same caller
    sits_now : ((x : ActiveView) → call_at new.seats seat ≡ Some x → x.machine.caller ≡ a.machine.caller) →
        (i : ℕ) (x : ActiveView) → call_at new.seats i ≡ Some x → caller_at new.callers i ≡ Some x.machine.caller
    sits_now left i x at = ap (λ (cs : List Caller). caller_at cs i) callers ∙ elim (cases_eq i seat) [
      | inl same ↦ ap (caller_at old.callers) same ∙ sits
          ∙ ap Some (sym (left x (ap (call_at new.seats) (sym same) ∙ at)))
      | inr apart ↦ led.sits i x (sym (ap (λ (l : List (Option ActiveView)). call_at l i) goes.seats
          ∙ at_other old.seats seat i (call_at new.seats seat) apart) ∙ at)
    ]

    mark : led.now.stopped ≡ new.stopped
    mark = led.mark ∙ sym goes.stopped

    -- ---- its machine makes a step

    module _ (turn : MakesTurn hash seat old.stopped did a (call_at new.seats seat) old.pool new.pool old.locks
        new.locks old.journal new.journal) where
      abbrev come : ActiveView
      come = turn.come

      -- the seats while the call is still there
      abbrev with_come : List (Option ActiveView)
      with_come = with_call old.seats seat (Some come)

      there_come : calls_of with_come seat ≡ Some come.machine
      there_come = ap machine (at_same old.seats seat (Some come) is.0 within)

      -- the other seats are what they were
      others_come : AreTheOthers seat (calls_of with_come) (calls_of new.seats)
      others_come other apart = ap machine (ap (λ (x : List (Option ActiveView)). call_at x other) goes.seats
          ∙ at_other old.seats seat other (call_at new.seats seat) apart
          ∙ sym (at_other old.seats seat other (Some come) apart))

      -- ---- to a system

      module _ (fine : is_fault turn.did ≡ false) where
        leading : LeadTogether hash seat turn.did led.now (calls_of with_come) a.machine come.machine
            (world old.pool.images old.locks before.change) new.pool new.locks
        leading = steps hash seat led.now old.stopped turn.did a.machine come.machine (calls_of old.seats)
            (calls_of with_come) old.pool new.pool old.locks new.locks before is (ap machine there) led.mark turn.makes
            fine there_come (others_same old.seats with_come seat (Some come) refl)

        along : LeadsAlong new.callers new.journal base leading.after
        along = subst (λ (cs : List Caller). LeadsAlong cs new.journal base leading.after) (sym callers)
            (subst (λ (es : List Entry). LeadsAlong old.callers es base leading.after) (sym turn.journal)
            (leads_on old.callers old.journal base led.now led.leads seat a.machine come.machine turn.did turn.makes.aim
            a.draft turn.kept sits leading.after leading.leads))

        abbrev phase : Change
        phase = leading.together.change

        abbrev behind : World
        behind = world new.pool.images new.locks phase

        abbrev Leads : Type 0
        Leads = AreTogetherIn hash leading.after (calls_of new.seats) new.pool new.locks phase

        -- ---- what it counts

        counts : CountsBy seat turn.did old.locks new.locks old.searches new.searches
        counts = counts_by seat old new turn.did come.machine fine
            (subst (λ (x : Step). Counts seat x old new) turn.told_is goes.counts)

        known_before : facts_of (calls_of old.seats seat) ≡ call_facts a.machine
        known_before = ap facts_of (ap machine there)

        own_before : IsCounted seat (call_facts a.machine) (count_at old.searches.counts seat)
            (world old.pool.images old.locks before.change)
        own_before = counted_of seat (count_at old.searches.counts seat)
            (world old.pool.images old.locks before.change) (facts_of (calls_of old.seats seat))
            (call_facts a.machine) (sym known_before) (was.counted seat is.0 within)

        own_behind : IsCounted seat (call_facts come.machine) (count_at new.searches.counts seat) behind
        own_behind = counted_own hash seat (call_turn hash a.machine (store_of old.pool.images)) turn.did
            (call_facts a.machine) (call_facts come.machine) (world old.pool.images old.locks before.change) behind
            leading.stepped fine old.searches new.searches counts was.phase own_steps_walk own_before

        phase_is : new.searches.under_way ≡ under_way_in phase
        phase_is = phase_behind hash seat (call_turn hash a.machine (store_of old.pool.images)) turn.did
            (call_facts a.machine) (call_facts come.machine) (world old.pool.images old.locks before.change) behind
            leading.stepped fine old.searches new.searches counts was.phase

        -- the seat then knows what its call does, or nothing
        all_counted : (facts_of (calls_of new.seats seat) ≡ call_facts come.machine)
            ⊎ (facts_of (calls_of new.seats seat) ≡ []) → (i : ℕ) → 1 ≤ i → i ≤ length new.seats →
            IsCounted i (facts_of (calls_of new.seats i)) (count_at new.searches.counts i) behind
        all_counted knows i some near = elim (cases_eq i seat) [
          | inl same ↦ subst (λ (n : ℕ). IsCounted n (facts_of (calls_of new.seats n))
              (count_at new.searches.counts n) behind) (sym same) (elim knows [
                | inl all ↦ counted_of seat (count_at new.searches.counts seat) behind (call_facts come.machine)
                    (facts_of (calls_of new.seats seat)) all own_behind
                | inr nothing ↦ counted_of seat (count_at new.searches.counts seat) behind []
                    (facts_of (calls_of new.seats seat)) nothing (counted_idle seat
                    (count_at new.searches.counts seat) behind (call_facts come.machine) own_behind)
              ])
          | inr apart ↦ counted_of i (count_at new.searches.counts i) behind (facts_of (calls_of old.seats i))
              (facts_of (calls_of new.seats i)) (ap facts_of (ap machine
              (ap (λ (x : List (Option ActiveView)). call_at x i) goes.seats
              ∙ at_other old.seats seat i (call_at new.seats seat) apart)))
              (counted_beside hash seat (call_turn hash a.machine (store_of old.pool.images)) turn.did
              (call_facts a.machine) (call_facts come.machine) (world old.pool.images old.locks before.change) behind
              leading.stepped fine old.searches new.searches counts was.phase others_steps_walk i apart
              (facts_of (calls_of old.seats i))
              (was.counted i some (subst (λ (n : ℕ). i ≤ n) (sym same_places) near)))
        ]

        -- the call goes on
        goes_on : call_at new.seats seat ≡ Some come → Leads
        goes_on left = subst (λ (x : List (Option ActiveView)). AreTogetherIn hash leading.after (calls_of x) new.pool
            new.locks phase) (sym (goes.seats ∙ ap (with_call old.seats seat) left))
            (record { together = leading.together; phase = refl })

        -- it is over
        module _ (over : IsOver come.machine) where
          gone : call_at new.seats seat ≡ None → Leads
          gone left = ends hash seat leading.after come.machine (calls_of with_come) (calls_of new.seats) new.pool
              new.locks leading.together there_come over (ap machine left) others_come

          -- and begins anew
          module _ (again : ActiveView) (left : call_at new.seats seat ≡ Some again)
              (begun : Begins come.machine.caller come.machine.call again.machine) where
            abbrev without : List (Option ActiveView)
            without = with_call old.seats seat None

            ended : AreTogetherIn hash leading.after (calls_of without) new.pool new.locks phase
            ended = ends hash seat leading.after come.machine (calls_of with_come) (calls_of without) new.pool new.locks
                leading.together there_come over (ap machine (at_same old.seats seat None is.0 within))
                (λ other apart. ap machine (at_other old.seats seat other None apart
                ∙ sym (at_other old.seats seat other (Some come) apart)))

            anew : AreTogetherIn hash leading.after (calls_of new.seats) new.pool new.locks ended.together.change
            anew = begins hash seat come.machine.caller come.machine.call leading.after again.machine
                (calls_of without) (calls_of new.seats) new.pool new.locks ended.together
                (ap machine (at_same old.seats seat None is.0 within))
                (subst HasFittingCaller (sym turn.makes.aim.caller) under_way.caller_fits)
                (subst HasFittingCall (sym turn.makes.aim.call) under_way.call_fits) begun (ap machine left)
                (λ other apart. others_come other apart ∙ ap machine (at_other old.seats seat other (Some come) apart
                ∙ sym (at_other old.seats seat other None apart)))

            begins_anew : Leads
            begins_anew = record { together = anew.together; phase = anew.phase ∙ ended.phase }

          when_over : (waits : Bool) → IsLeftWhenOver waits come (call_at new.seats seat) →
              Leads × (facts_of (calls_of new.seats seat) ≡ [])
          when_over true (again, left, begun) = (
            begins_anew again left begun.begins,
            ap facts_of (ap machine left) ∙ fresh_facts again.machine begun.begins.new,
          )
          when_over false left = (gone left, ap facts_of (ap machine left))

        led_by : ((x : ActiveView) → call_at new.seats seat ≡ Some x → x.machine.caller ≡ a.machine.caller) →
            Leads → ((facts_of (calls_of new.seats seat) ≡ call_facts come.machine)
            ⊎ (facts_of (calls_of new.seats seat) ≡ [])) → RefinesIn hash base new phase
        led_by left together knows =
            let counted : AreCountedIn hash leading.after new phase =
            counted_in hash leading.after new phase together phase_is (all_counted knows) in
            record {
              led = record {
                now = leading.after;
                leads = along;
                mark = leading.mark ∙ mark;
                callers = fitting;
                rows = rows;
                seated = ap length callers ∙ led.seated ∙ same_places;
                sits = sits_now left;
                together = λ sound_still. counted.all;
              };
              phase = λ sound_still. counted.phase_is;
            }

        doing : ((x : ActiveView) → call_at new.seats seat ≡ Some x → x.machine.caller ≡ a.machine.caller) →
            Leads → ((facts_of (calls_of new.seats seat) ≡ call_facts come.machine)
            ⊎ (facts_of (calls_of new.seats seat) ≡ [])) → LeadsDoing hash base seat a did before.change old new
        doing left together knows = record {
          behind = phase;
          led = led_by left together knows;
          does = made hash base seat a did old new led there sound turn fine phase leading.stepped.does;
          lacks = made_lacks hash base seat a did old new led there sound turn fine phase leading.stepped.does;
        }

      -- ---- the file fails it

      module _ (fault : FileFault) (is_fault_of : turn.did ≡ progress.Fault fault) where
        no_decide : ◌≡◌ {A = Progress FileFault} (progress.Fault fault) (progress.Moved Decide) → ⊥
        no_decide clash = cc

        comes_to_nothing : conclusion_of come.machine ≡ conclusion_of a.machine
        comes_to_nothing = by (conclusion_of a.machine) refl (conclusion_of come.machine) refl
          where
            by : (o : Option Conclusion) → conclusion_of a.machine ≡ o → (x : Option Conclusion) →
                conclusion_of come.machine ≡ x → conclusion_of come.machine ≡ conclusion_of a.machine
            by (Some c) earlier x later = turn.makes.aim.stays c earlier ∙ sym earlier
            by None earlier None later = later ∙ sym earlier
            by None earlier (Some c) later = absurd (no_decide (sym is_fault_of
                ∙ turn.makes.aim.decides earlier (subst IsSome (sym later) refl)))

        led_still : ((x : ActiveView) → call_at new.seats seat ≡ Some x → x.machine.caller ≡ a.machine.caller) →
            new.failed ≡ true → LeadsDoing hash base seat a did before.change old new
        led_still left broken = record {
          behind = before.change;
          led = record {
            led = record {
              now = led.now;
              leads = subst (λ (cs : List Caller). LeadsAlong cs new.journal base led.now) (sym callers)
                  (subst (λ (es : List Entry). LeadsAlong old.callers es base led.now) (sym turn.journal)
                  (still_leads old.callers old.journal base led.now led.leads seat a.machine come.machine turn.did
                  turn.makes.aim a.draft turn.kept sits led.now refl
                  (keeps_answer seat a.machine come.machine turn.did turn.makes.aim comes_to_nothing)));
              mark = mark;
              callers = fitting;
              rows = rows;
              seated = ap length callers ∙ led.seated ∙ same_places;
              sits = sits_now left;
              together = λ sound_still. absurd (true≢false (sym broken ∙ sound_still));
            };
            phase = λ sound_still. absurd (true≢false (sym broken ∙ sound_still));
          };
          does = failed hash base seat a did old new led there sound turn fault is_fault_of before.change;
          lacks = failed_lacks hash base seat a did old new led there sound turn fault is_fault_of before.change;
        }

      -- ---- each

      -- a call that is the one come so far
      same_caller : call_at new.seats seat ≡ Some come → (x : ActiveView) → call_at new.seats seat ≡ Some x →
          x.machine.caller ≡ a.machine.caller
      same_caller left x at =
          sym (ap (λ (y : ActiveView). y.machine.caller) (same_Some come x (sym left ∙ at))) ∙ turn.makes.aim.caller

      -- or that has begun anew
      over_caller : (waits : Bool) → IsLeftWhenOver waits come (call_at new.seats seat) → (x : ActiveView) →
          call_at new.seats seat ≡ Some x → x.machine.caller ≡ a.machine.caller
      over_caller true (again, left, begun) x at =
          sym (ap (λ (y : ActiveView). y.machine.caller) (same_Some again x (sym left ∙ at)))
          ∙ begun.begins.caller_is ∙ turn.makes.aim.caller
      over_caller false left x at = absurd (none-some x (sym left ∙ at))

      pub led_on : LeadsDoing hash base seat a did before.change old new
      led_on = by turn.did refl turn.left_is
        where
          by : (p : Progress FileFault) → turn.did ≡ p → IsLeft p come (call_at new.seats seat) →
              LeadsDoing hash base seat a did before.change old new
          by (progress.Moved kind) p left =
              doing (ap is_fault p) (same_caller left) (goes_on (ap is_fault p) left)
              (inl (ap facts_of (ap machine left)))
          by (progress.Blocked other) p left =
              doing (ap is_fault p) (same_caller left) (goes_on (ap is_fault p) left)
              (inl (ap facts_of (ap machine left)))
          by (progress.Fault fault) p left = led_still fault p (same_caller left) (goes.failed
              ∙ ap is_failure (turn.told_is ∙ ap (λ (x : Progress FileFault). told_of x come.machine) p))
          by progress.Ended p left =
              let over = when_over (ap is_fault p) (turn.makes.aim.over p) (is_waiting (conclusion_of come.machine))
              left in
              doing (ap is_fault p) (over_caller (is_waiting (conclusion_of come.machine)) left) over.0 (inr over.1)

    -- ---- it waits on

    module _ (waits : StaysWaiting did a (call_at new.seats seat) old.pool new.pool old.locks new.locks old.journal
        new.journal) where
      same_caller_waits : (x : ActiveView) → call_at new.seats seat ≡ Some x → x.machine.caller ≡ a.machine.caller
      same_caller_waits x at =
          let both : ◌≡◌ {A = Option ActiveView} (Some (record a { wait = Some (length old.journal) })) (Some x) =
          sym waits.left_is ∙ at in
          let its : record a { wait = Some (length old.journal) } ≡ x = cc in
          sym (ap (λ (y : ActiveView). y.machine.caller) its)

      same_calls : (i : ℕ) → calls_of new.seats i ≡ calls_of old.seats i
      same_calls i = elim (cases_eq i seat) [
        | inl same ↦ ap (calls_of new.seats) same ∙ ap machine waits.left_is ∙ sym (ap machine there)
            ∙ ap (calls_of old.seats) (sym same)
        | inr apart ↦ ap machine (ap (λ (l : List (Option ActiveView)). call_at l i) goes.seats
            ∙ at_other old.seats seat i (call_at new.seats seat) apart)
      ]

      same_counts : new.searches ≡ old.searches
      same_counts = subst (λ (x : Step). Counts seat x old new) waits.told_is goes.counts

      still_counted : (i : ℕ) → IsCounted i (facts_of (calls_of old.seats i)) (count_at old.searches.counts i)
          (world old.pool.images old.locks before.change) →
          IsCounted i (facts_of (calls_of new.seats i)) (count_at new.searches.counts i)
          (world new.pool.images new.locks before.change)
      still_counted i counted =
          subst (λ (o : Option CallView). IsCounted i (facts_of o) (count_at new.searches.counts i)
          (world new.pool.images new.locks before.change)) (sym (same_calls i))
          (subst (λ (c : CountsState). IsCounted i (facts_of (calls_of old.seats i)) (count_at c.counts i)
          (world new.pool.images new.locks before.change)) (sym same_counts)
          (subst (λ (p : PoolState). IsCounted i (facts_of (calls_of old.seats i)) (count_at old.searches.counts i)
          (world p.images new.locks before.change)) (sym waits.same_pool)
          (subst (λ (t : Table). IsCounted i (facts_of (calls_of old.seats i)) (count_at old.searches.counts i)
          (world old.pool.images t before.change)) (sym waits.same_locks) counted)))

      counted_waits : AreCountedIn hash led.now new before.change
      counted_waits = counted_in hash led.now new before.change
          (subst (λ (p : PoolState). AreTogetherIn hash led.now (calls_of new.seats) p new.locks before.change)
          (sym waits.same_pool)
          (subst (λ (t : Table). AreTogetherIn hash led.now (calls_of new.seats) old.pool t before.change)
          (sym waits.same_locks)
          (subst (λ (f : ℕ → Option CallView). AreTogetherIn hash led.now f old.pool old.locks before.change)
          (sym (fun_ext same_calls)) (record { together = before; phase = refl }))))
          (ap (λ (c : CountsState). c.under_way) same_counts ∙ was.phase)
          (λ i some near. still_counted i (was.counted i some (subst (λ (n : ℕ). i ≤ n) (sym same_places) near)))

      pub waits_on : LeadsDoing hash base seat a did before.change old new
      waits_on = record {
        behind = before.change;
        led = record {
          led = record {
            now = led.now;
            leads = subst (λ (cs : List Caller). LeadsAlong cs new.journal base led.now) (sym callers)
                (subst (λ (es : List Entry). LeadsAlong old.callers es base led.now) (sym waits.same_journal)
                led.leads);
            mark = mark;
            callers = fitting;
            rows = rows;
            seated = ap length callers ∙ led.seated ∙ same_places;
            sits = sits_now same_caller_waits;
            together = λ fine. counted_waits.all;
          };
          phase = λ fine. counted_waits.phase_is;
        };
        does = waiting hash base seat a did old new led there sound waits;
        lacks = waiting_lacks hash base seat a did old new led there sound waits;
      }
