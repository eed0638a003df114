-- A step of a call beside others leaves them together: over the same system, or over that after its answer.
use Rattle.std.proofs.Common.{ℕ, ◌≡◌, ◌≢◌, ◌⊎◌, inl, inr, refl, sym, ap, ◌∙◌, subst, Bool, true, false, List, Option, Some, None, IsSome}
use Rattle.std.proofs.lemmas.Option.{none-some, same_Some}
use Rattle.std.proofs.lemmas.Bool.{cases_eq, true≢false}
use Rattle.interleavings.proofs.SeesLemmas.{sees_at}
use Rattle.interleavings.proofs.StopLemmas.{keeps_stopped}
use Rattle.interleavings.proofs.of_xsi_calls.AimLemmas.{call_aimed}
use Rattle.step_rules.specs.Walking.{IsOwnStep}
use Rattle.call_decisions.proofs.OverlayLemmas.{overlaid_rest}
use Rattle.queue_records.specs.declared.record.Record.TheVariants as records_are
use Rattle.interleavings.proofs.AlikeLemmas.{others_lead_alike}
use Rattle.interleavings.proofs.SeatCountLemmas.{gives_out_next, keeps_alive_under_counter}
use Rattle.interleavings.specs.Apart.{IsAsGood}
use Rattle.step_rules.specs.declared.kind.Kind.TheVariants.{Decide}
use Rattle.type_chains.specs.Entries.{counter_of}
use Rattle.interleavings.specs.xsi_calls.CallSteps.{StepsCall}
use Rattle.interleavings.specs.xsi_calls.Concluding.{IsRightConclusion}
use Rattle.interleavings.specs.xsi_calls.Machine.{call_facts, call_turn, conclusion_at}
use Rattle.interleavings.specs.xsi_calls.Words.{AreAlike, Moved, QuestionsView, guard_of, has_no_room, is_write, kind_of}
use Rattle.interleavings.specs.xsi_calls.declared.conclusion.Conclusion.TheVariants as conclusions
use Rattle.interleavings.specs.xsi_calls.Stages.{Undecided}
use Rattle.interleavings.specs.SeatWords.{names_in}
use Rattle.interleavings.specs.ConcurrentWords.{Answer, Call, CallView, Caller, Change, ComesBy, Conclusion, FileFault, HasFittingCall, HasFittingCaller, IsKeptApart, IsSeat, IsUncounted, MakesCall, PoolState, Progress, RecordKey, Records, State, Table, answer_of, call_owes, conclusion_of, counter_key, is_fault, outcome, overlaid, owes_at, record_of, store_of, world}
use Rattle.interleavings.specs.Together.{AreTogether, IsStillToCount, Seats, owes_of}
use Rattle.interleavings.specs.ConcurrentLaws.{AreTheOthers, AreTogetherIn, LeadTogether, LeadsBy, StepTogether}
use Rattle.interleavings.proofs.ConcurrentCountLemmas.{HasCounter, IsCountedBy, counted, exclusive_or_not, has_counter, one_more, same_next}
use Rattle.interleavings.proofs.DecideLemmas.{Concludes, Leads, concluded}
use Rattle.interleavings.proofs.PlaceLemmas.{names_of}
use Rattle.interleavings.proofs.SeatLemmas.{owe_apart}
use Rattle.interleavings.proofs.SeatNameLemmas.{none_is}
use Rattle.interleavings.proofs.SettleLemmas.{as_good_itself}
use Rattle.interleavings.proofs.StepLemmas as steps

-- no call stops the system
mark_kept : (caller : Caller) (call : Call) (bytes : List ℕ) (s u : State) (c : Conclusion) →
    ComesBy (Some c) caller call bytes s u → u.stopped ≡ s.stopped
mark_kept caller call bytes s u (conclusions.Answers verdict) by_rules =
    keeps_stopped caller call (answer_of verdict bytes) s u by_rules
mark_kept caller call bytes s u conclusions.Waits stays = ap (λ (x : State). x.stopped) stays.1
mark_kept caller call bytes s u conclusions.HasNoRoom stays = ap (λ (x : State). x.stopped) stays

module _ (hash : RecordKey → ℕ) (seat : ℕ) (s : State) (stopped : Bool) (did : Progress FileFault)
    (old new : CallView) (seats seats' : Seats) (pool pool' : PoolState) (locks locks' : Table)
    (t : AreTogether hash s seats pool locks) (seated : IsSeat locks seat) (there : seats seat ≡ Some old)
    (mark : s.stopped ≡ stopped) (made : MakesCall hash seat stopped did old new pool pool' locks locks')
    (fine : is_fault did ≡ false) (now : seats' seat ≡ Some new) (others : AreTheOthers seat seats seats') where
  abbrev step : StepsCall hash seat s did old new t.records pool pool' locks locks' t.change
  step = steps.step hash seat s stopped did old new seats seats' pool pool' locks locks' t seated there mark made fine
      now others

  abbrev after : Records
  after = step.after

  -- a call at another seat still owes the Counter
  still_to_count : (n : ℕ) (u : State) → IsUncounted n u → (c : IsStillToCount n s seats) → c.seat ≢ seat →
      IsStillToCount n u seats'
  still_to_count n u uncounted c apart = record {
    uncounted = uncounted;
    seat = c.seat;
    maker = c.maker;
    there = others c.seat apart ∙ c.there;
    decided = c.decided;
    owes = c.owes;
  }

  -- the call of the seat is the one
  its_own : (n : ℕ) (c : IsStillToCount n s seats) → c.seat ≡ seat → c.maker ≡ old
  its_own n c is = same_Some c.maker old (sym c.there ∙ ap seats is ∙ there)

  -- it owes the Counter at its own seat
  maker_owes : (n : ℕ) (c : IsStillToCount n s seats) → owes_at (owes_of (seats c.seat)) counter_key ≡ true
  maker_owes n c = subst (λ (o : Option CallView). owes_at (owes_of o) counter_key ≡ true) (sym c.there) c.owes

  -- ---- over the same system

  module _ (same : conclusion_of new ≡ conclusion_of old) where
    leads_still : Leads (names_of new) (call_owes old) (call_owes new) t.records after s s
    leads_still = record {
      filed = t.filed;
      leads = λ key was. step.owed same key ∙ was;
      rest = λ key free. refl;
    }

    here : ((i : ℕ) → i ≢ seat → owes_at (owes_of (seats i)) counter_key ≡ false) →
        owes_at (call_owes new) counter_key ≡ false → IsCountedBy after s seats'
    here none free = counted after s seats' (sym (overlaid_rest (call_owes new) after counter_key free)
        ∙ steps.will_here hash seat s stopped did old new seats seats' pool pool' locks locks' t seated there mark made
        fine now others s leads_still counter_key none)

    kept : after counter_key ≡ t.records counter_key →
        ((s.next_id ≡ t.counter.next_id) ⊎ IsStillToCount t.counter.next_id s seats') → IsCountedBy after s seats'
    kept stays next = record { counter = t.counter; counts = stays ∙ t.counts; next = next }

    -- it owes the Counter still, which stands as it stood
    owing : owes_at (call_owes new) counter_key ≡ true → IsCountedBy after s seats'
    owing owes = kept (step.counter same owes) (elim t.next [
      | inl eq ↦ inl eq
      | inr c ↦ inr (elim (cases_eq c.seat seat) [
        | inl is ↦ record {
          uncounted = c.uncounted;
          seat = seat;
          maker = new;
          there = now;
          decided = subst IsSome (sym (same ∙ ap conclusion_of (sym (its_own t.counter.next_id c is)))) c.decided;
          owes = owes;
        }
        | inr apart ↦ still_to_count t.counter.next_id s c.uncounted c apart
      ])
    ])

    -- it owes none
    free : owes_at (call_owes new) counter_key ≡ false → IsCountedBy after s seats'
    free none = elim t.next [
      | inl eq ↦ elim (exclusive_or_not (kind_of (names_of new) (guard_of counter_key))) [
        | inl mine ↦ here (λ i apart. steps.none_owed hash seat s stopped did old new seats seats' pool pool' locks
            locks' t seated there mark made fine now others i apart counter_key (subst IsSome (sym mine) refl)) none
        | inr other ↦ kept (step.elsewhere counter_key other) (inl eq)
      ]
      | inr c ↦ elim (cases_eq c.seat seat) [
        | inl is ↦ here (λ i apart. owe_apart hash s seats pool locks t seat i (λ (e : seat ≡ i). apart (sym e))
            counter_key (subst (λ (x : ℕ). owes_at (owes_of (seats x)) counter_key ≡ true) is
            (maker_owes t.counter.next_id c))) none
        | inr apart ↦ kept (steps.stays hash seat s stopped did old new seats seats' pool pool' locks locks' t seated
            there mark made fine now others c.seat apart counter_key (subst IsSome (sym (steps.their_hold hash seat s
            stopped did old new seats seats' pool pool' locks locks' t seated there mark made fine now others c.seat
            counter_key (maker_owes t.counter.next_id c))) refl))
            (inr (still_to_count t.counter.next_id s c.uncounted c apart))
      ]
    ]

    counted_still : IsCountedBy after s seats'
    counted_still = by (owes_at (call_owes new) counter_key) refl
      where
        by : (b : Bool) → owes_at (call_owes new) counter_key ≡ b → IsCountedBy after s seats'
        by true owes = owing owes
        by false none = free none

    together_still : AreTogetherIn hash s seats' pool' locks' step.step.after
    together_still = steps.together hash seat s stopped did old new seats seats' pool pool' locks locks' t seated there
        mark made fine now others s leads_still (has_counter counted_still) (λ un. refl)
        (λ call q apart alike. as_good_itself call q s t.filed) counted_still

  -- ---- at its Decide

  module _ (undecided : conclusion_of old ≡ None) (c : Conclusion) (is : conclusion_of new ≡ Some c) where
    abbrev bytes : List ℕ
    bytes = new.undecided.questions.room.bytes

    did_decide : did ≡ Moved Decide
    did_decide = made.aim.decides undecided (subst IsSome (sym is) refl)

    unchanged : after ≡ t.records
    unchanged = step.still (ap is_write did_decide)

    right : IsRightConclusion new.caller new.call s bytes (names_of new) (has_no_room old.undecided) (call_owes old)
        (call_owes new) after c
    right = step.concludes undecided c is

    caller_fits : HasFittingCaller new.caller
    caller_fits = subst HasFittingCaller (sym made.aim.caller) (steps.at hash seat s stopped did old new seats seats'
        pool pool' locks locks' t seated there mark made fine now others).caller_fits

    call_fits : HasFittingCall new.call
    call_fits = subst HasFittingCall (sym made.aim.call) (steps.at hash seat s stopped did old new seats seats'
        pool pool' locks locks' t seated there mark made fine now others).call_fits

    comes : Concludes c new.caller new.call bytes (names_of new) (call_owes old) (call_owes new) after s
    comes = concluded new.caller new.call s bytes (names_of new) (has_no_room old.undecided) (call_owes old)
        (call_owes new) after caller_fits call_fits t.filed c right

    abbrev u : State
    u = comes.after

    leads : Leads (names_of new) (call_owes old) (call_owes new) t.records after s u
    leads = record {
      filed = comes.leads.filed;
      leads = λ key was. comes.leads.leads key
          (ap (λ (rs : Records). overlaid (call_owes old) rs key) unchanged ∙ was);
      rest = comes.leads.rest;
    }

    good : (x : Conclusion) → ComesBy (Some x) new.caller new.call bytes s u → (call : Call) (q : QuestionsView) →
        IsKeptApart call q → AreAlike (names_in q.names) (record_of u) (record_of s) → IsAsGood call q s u
    good (conclusions.Answers verdict) by_rules call q apart alike =
        others_lead_alike call new.call q new.caller (answer_of verdict bytes) s u t.filed comes.leads.filed apart
        by_rules alike
    good conclusions.Waits stays call q apart alike =
        subst (IsAsGood call q s) (sym stays.1) (as_good_itself call q s t.filed)
    good conclusions.HasNoRoom stays call q apart alike =
        subst (IsAsGood call q s) (sym stays) (as_good_itself call q s t.filed)

    -- the maker of a queue that is still to be counted has decided before
    another : (n : ℕ) (m : IsStillToCount n s seats) → m.seat ≢ seat
    another n m its = none_is (conclusion_of m.maker) (ap conclusion_of (its_own n m its) ∙ undecided) m.decided

    stays_so : u ≡ s → (u.next_id ≡ t.counter.next_id) ⊎ IsStillToCount t.counter.next_id u seats'
    stays_so same = subst (λ (x : State). (x.next_id ≡ t.counter.next_id) ⊎ IsStillToCount t.counter.next_id x seats')
        (sym same) (elim t.next [
          | inl eq ↦ inl eq
          | inr m ↦ inr (still_to_count t.counter.next_id s m.uncounted m (another t.counter.next_id m))
        ])

    next_by : (answer : Answer) → outcome new.caller new.call s ≡ Some (answer, u) →
        (u.next_id ≡ t.counter.next_id) ⊎ IsStillToCount t.counter.next_id u seats'
    next_by answer by_rules = elim (exclusive_or_not (kind_of (names_of new) (guard_of counter_key))) [
      | inr other ↦
          let (same, alive) = keeps_alive_under_counter new.caller new.call answer s u by_rules
          (comes.leads.rest counter_key other) in
          elim t.next [
            | inl eq ↦ inl (same ∙ eq)
            | inr m ↦ inr (still_to_count t.counter.next_id u (record {
              next = same ∙ m.uncounted.next;
              alive = alive t.counter.next_id m.uncounted.alive;
            }) m (another t.counter.next_id m))
          ]
      | inl mine ↦
          let none : (i : ℕ) → i ≢ seat → owes_at (owes_of (seats i)) counter_key ≡ false =
          λ i apart. steps.none_owed hash seat s stopped did old new seats seats' pool pool' locks locks' t seated there
          mark made fine now others i apart counter_key (subst IsSome (sym mine) refl) in
          elim t.next [
            | inr m ↦ absurd (true≢false (sym (maker_owes t.counter.next_id m)
                ∙ none m.seat (another t.counter.next_id m)))
            | inl eq ↦ elim (gives_out_next new.caller new.call answer s u t.filed by_rules) [
              | inl same ↦ inl (same ∙ eq)
              | inr more ↦ inr (record {
                uncounted = subst (λ (n : ℕ). IsUncounted n u) eq more;
                seat = seat;
                maker = new;
                there = now;
                decided = subst IsSome (sym is) refl;
                owes = owed eq more none;
              })
            ]
          ]
    ]
      where
        owed : s.next_id ≡ t.counter.next_id → IsUncounted s.next_id u →
            ((i : ℕ) → i ≢ seat → owes_at (owes_of (seats i)) counter_key ≡ false) →
            owes_at (call_owes new) counter_key ≡ true
        owed eq more none = by (owes_at (call_owes new) counter_key) refl
          where
            by : (b : Bool) → owes_at (call_owes new) counter_key ≡ b → b ≡ true
            by true owes = refl
            by false free =
                let there_now : Some (records_are.Counter t.counter) ≡ Some (records_are.Counter (counter_of u)) =
                sym t.counts ∙ sym (ap (λ (rs : Records). rs counter_key) unchanged)
                ∙ sym (overlaid_rest (call_owes new) after counter_key free)
                ∙ steps.will_here hash seat s stopped did old new seats seats' pool pool' locks locks' t seated there
                mark made fine now others u leads counter_key none in
                absurd (one_more s.next_id (eq ∙ same_next t.counter (counter_of u) there_now ∙ more.next))

    next_at : (x : Conclusion) → ComesBy (Some x) new.caller new.call bytes s u →
        (u.next_id ≡ t.counter.next_id) ⊎ IsStillToCount t.counter.next_id u seats'
    next_at (conclusions.Answers verdict) by_rules = next_by (answer_of verdict bytes) by_rules
    next_at conclusions.Waits stays = stays_so stays.1
    next_at conclusions.HasNoRoom stays = stays_so stays

    counted_then : IsCountedBy after u seats'
    counted_then = record {
      counter = t.counter;
      counts = ap (λ (rs : Records). rs counter_key) unchanged ∙ t.counts;
      next = next_at c comes.comes;
    }

    -- until then it was over s
    counted_before : HasCounter after s
    counted_before = record {
      counter = t.counter;
      counts = ap (λ (rs : Records). rs counter_key) unchanged ∙ t.counts;
      next = elim t.next [ inl eq ↦ inl eq | inr m ↦ inr m.uncounted ];
    }

    decided_now : new.stage ≡ Undecided → u ≡ s
    decided_now un = absurd (none-some c (sym (ap conclusion_at un) ∙ is))

    together_then : AreTogetherIn hash u seats' pool' locks' step.step.after
    together_then = steps.together hash seat s stopped did old new seats seats' pool pool' locks locks' t seated there
        mark made fine now others u leads counted_before decided_now (good c comes.comes) counted_then

  -- ---- either

  abbrev Leading : Type 0
  Leading = LeadTogether hash seat did s seats' old new (world pool.images locks t.change) pool' locks'

  -- it is a step of the rules
  own_step : IsOwnStep hash seat (call_turn hash old (store_of pool.images)) did (call_facts old) (call_facts new)
      (world pool.images locks t.change) (world pool'.images locks' step.step.after)
  own_step = record {
    sound = t.sound;
    sound_behind = step.step.others.sound;
    aimed = call_aimed hash old (store_of pool.images);
    known = (sees_at hash seat old.call s old.undecided t.records pool locks t.change old.stage
        (steps.at hash seat s stopped did old new seats seats' pool pool' locks locks' t seated there mark made fine now
        others).calls).known;
    known_behind = step.step.known;
    does = step.step.does;
    led = step.step.led;
  }

  own_step_in : (u : State) (b : AreTogetherIn hash u seats' pool' locks' step.step.after) →
      IsOwnStep {F = FileFault} hash seat (call_turn hash old (store_of pool.images)) did (call_facts old)
      (call_facts new) (world pool.images locks t.change) (world pool'.images locks' b.together.change)
  own_step_in u b = subst (λ (c : Change). IsOwnStep {F = FileFault} hash seat
      (call_turn hash old (store_of pool.images)) did (call_facts old) (call_facts new)
      (world pool.images locks t.change) (world pool'.images locks' c)) (sym b.phase) own_step

  abbrev room : List ℕ
  room = new.undecided.questions.room.bytes

  over_same : (o : Option Conclusion) → conclusion_of old ≡ o → conclusion_of new ≡ o → Leading
  over_same o before behind = record {
    after = s;
    leads = subst (λ (x : Option Conclusion). LeadsBy x (conclusion_of new) old.caller old.call room s s) (sym before)
        (subst (λ (x : Option Conclusion). LeadsBy o x old.caller old.call room s s) (sym behind) (by o));
    mark = refl;
    together = (together_still (behind ∙ sym before)).together;
    stepped = own_step_in s (together_still (behind ∙ sym before));
  }
    where
      by : (x : Option Conclusion) → LeadsBy x x old.caller old.call room s s
      by None = refl
      by (Some c) = refl

  over_next : conclusion_of old ≡ None → (c : Conclusion) → conclusion_of new ≡ Some c → Leading
  over_next before c behind = record {
    after = u before c behind;
    leads = subst (λ (x : Option Conclusion). LeadsBy x (conclusion_of new) old.caller old.call room s
        (u before c behind)) (sym before)
        (subst (λ (x : Option Conclusion). ComesBy x old.caller old.call room s (u before c behind)) (sym behind)
        (subst (λ (x : Caller). ComesBy (Some c) x old.call room s (u before c behind)) made.aim.caller
        (subst (λ (x : Call). ComesBy (Some c) new.caller x room s (u before c behind)) made.aim.call
        (comes before c behind).comes)));
    mark = mark_kept new.caller new.call room s (u before c behind) c (comes before c behind).comes;
    together = (together_then before c behind).together;
    stepped = own_step_in (u before c behind) (together_then before c behind);
  }

  pub leading : Leading
  leading = by_old (conclusion_of old) refl
    where
      by_new : conclusion_of old ≡ None → (o : Option Conclusion) → conclusion_of new ≡ o → Leading
      by_new before None behind = over_same None before behind
      by_new before (Some c) behind = over_next before c behind

      by_old : (o : Option Conclusion) → conclusion_of old ≡ o → Leading
      by_old None before = by_new before (conclusion_of new) refl
      by_old (Some c) before = over_same (Some c) before (made.aim.stays c before)

pub step_together : StepTogether
step_together = leading
