-- What is led from a system stays so by each thing that a kernel does.
use Rattle.std.proofs.Common.{ℕ, ◌≡◌, refl, sym, ap, ◌∙◌, subst, List, [], ◌∷◌, ◌++◌, Option, Some, None, IsSome, false, length, option_map}
use Rattle.std.proofs.lemmas.Option.{none-some}
use Rattle.std.proofs.lemmas.List.{append-nil}
use Rattle.interleavings.specs.ConcurrentLaws.{AreTheOthers, LeadsBy}
use Rattle.interleaving_core.proofs.PlaceLemmas.{at_other}
use Rattle.interleaving_core.specs.Active.{IsDrafted, entries_by}
use Rattle.interleaving_core.specs.declared.active.Draft.{Draft}
use Rattle.interleaving_core.specs.xsi_calls.CallSteps.{KeepsCall}
use Rattle.interleaving_core.specs.xsi_calls.Concluding.{answer_in}
use Rattle.interleaving_core.specs.xsi_calls.Machine.{answer_by}
use Rattle.interleaving_core.specs.xsi_calls.declared.conclusion.Conclusion.{Conclusion}
use Rattle.interleaving_core.specs.xsi_calls.declared.conclusion.Conclusion.TheVariants as conclusions
use Rattle.queue_model.proofs.JournalLemmas.{LeadsAlong-push}
use Rattle.queue_model.specs.Journal.{outcome_for}
use Rattle.queue_model.specs.declared.entry.Entry.TheVariants.{Decided}
use Rattle.interleavings.specs.Words.{ActiveView, Answer, Call, CallView, Caller, Entry, FileFault, KernelState, LeadsAlong, Progress, RecordKey, State, answer_of, answer_of_call, call_at, caller_at, conclusion_of, with_call}
use Rattle.interleavings.specs.Counting.{AreCounted}
use Rattle.interleavings.specs.Refining.{Refines, calls_of}
use Rattle.interleavings.proofs.SeatNameLemmas.{none_is}

-- ---- seats

abbrev pub machine : Option ActiveView → Option CallView
machine o = option_map (λ (a : ActiveView). a.machine) o

-- where the seats are the same but for one
pub others_same : (seats seats' : List (Option ActiveView)) (seat : ℕ) (left : Option ActiveView) →
    seats' ≡ with_call seats seat left → AreTheOthers seat (calls_of seats) (calls_of seats')
others_same seats seats' seat left is other apart = ap machine
    (ap (λ (x : List (Option ActiveView)). call_at x other) is ∙ at_other seats seat other left apart)

-- ---- a kernel

-- one with the same journal refines the same system where its calls have come to that
pub led_with : {K : Type 0} (hash : RecordKey → ℕ) (base : State) (old new : KernelState K)
    (led : Refines hash base old) → new.callers ≡ old.callers → new.journal ≡ old.journal →
    new.stopped ≡ old.stopped → length new.locks ≡ length old.locks → length new.seats ≡ length old.seats →
    ((seat : ℕ) (a : ActiveView) → call_at new.seats seat ≡ Some a →
    caller_at old.callers seat ≡ Some a.machine.caller) → (new.failed ≡ false → AreCounted hash led.now new) →
    Refines hash base new
led_with hash base old new led callers journal stopped rows places sits together = record {
  now = led.now;
  leads = subst (λ (cs : List Caller). LeadsAlong cs new.journal base led.now) (sym callers)
      (subst (λ (es : List Entry). LeadsAlong old.callers es base led.now) (sym journal) led.leads);
  mark = led.mark ∙ sym stopped;
  callers = λ seat caller at. led.callers seat caller
      (sym (ap (λ (cs : List Caller). caller_at cs seat) callers) ∙ at);
  rows = rows ∙ led.rows ∙ sym places;
  seated = ap length callers ∙ led.seated ∙ sym places;
  sits = λ seat a there. ap (λ (cs : List Caller). caller_at cs seat) callers ∙ sits seat a there;
  together = together;
}

-- ---- the journal

-- nothing joins it where a call has come to nothing new
none_joins : (seat : ℕ) (old come : CallView) (o : Option Draft) → IsDrafted old o →
    answer_of_call come ≡ answer_of_call old → entries_by seat (answer_of_call come) o ≡ []
none_joins seat old come o kept same = by (answer_of_call old) refl o kept
  where
    by : (a : Option Answer) → answer_of_call old ≡ a → (x : Option Draft) → IsDrafted old x →
        entries_by seat (answer_of_call come) x ≡ []
    by None is x drafted = ap (λ (y : Option Answer). entries_by seat y x) (same ∙ is)
    by (Some answer) is None drafted = ap (λ (y : Option Answer). entries_by seat y None) (same ∙ is)
    by (Some answer) is (Some d) drafted = absurd (none-some answer (sym drafted.unanswered ∙ is))

-- its entry does where it has come to its answer
one_joins : (seat : ℕ) (old come : CallView) (o : Option Draft) → IsDrafted old o → answer_of_call old ≡ None →
    (answer : Answer) → answer_of_call come ≡ Some answer →
    entries_by seat (answer_of_call come) o ≡ Decided seat old.call answer ∷ []
one_joins seat old come None kept before answer behind = absurd (none_is (answer_of_call old) before kept)
one_joins seat old come (Some d) kept before answer behind =
    ap (λ (y : Option Answer). entries_by seat y (Some d)) behind
    ∙ ap (λ (c : Call). Decided seat c answer ∷ []) kept.call

module _ (seat : ℕ) (old come : CallView) (p : Progress FileFault) (aim : KeepsCall p old come) where
  abbrev bytes : List ℕ
  bytes = come.undecided.questions.room.bytes

  -- with what it has come to it keeps its answer
  pub keeps_answer : conclusion_of come ≡ conclusion_of old → answer_of_call come ≡ answer_of_call old
  keeps_answer same = by (conclusion_of come) refl
    where
      by : (o : Option Conclusion) → conclusion_of come ≡ o → answer_of_call come ≡ answer_of_call old
      by None is = ap (λ (x : Option Conclusion). answer_by x bytes) is
          ∙ sym (ap (λ (x : Option Conclusion). answer_by x old.undecided.questions.room.bytes) (sym same ∙ is))
      by (Some c) is = ap (λ (x : Option Conclusion). answer_by x bytes) same
          ∙ ap (λ (r : List ℕ). answer_by (conclusion_of old) r)
          (ap (λ r. r.bytes) (aim.bytes (subst IsSome (sym is) refl)))

-- ---- to where the journal leads

module _ (callers : List Caller) (journal : List Entry) (base now : State) (along : LeadsAlong callers journal base now)
    (seat : ℕ) (old come : CallView) (p : Progress FileFault) (aim : KeepsCall p old come) (o : Option Draft)
    (kept : IsDrafted old o) (sits : caller_at callers seat ≡ Some old.caller) where
  abbrev room : List ℕ
  room = come.undecided.questions.room.bytes

  abbrev joined : List Entry
  joined = entries_by seat (answer_of_call come) o

  pub still_leads : (after : State) → after ≡ now → answer_of_call come ≡ answer_of_call old →
      LeadsAlong callers (journal ++ joined) base after
  still_leads after stays same = subst (λ (es : List Entry). LeadsAlong callers (journal ++ es) base after)
      (sym (none_joins seat old come o kept same))
      (subst (λ (es : List Entry). LeadsAlong callers es base after) (sym (append-nil journal))
      (subst (LeadsAlong callers journal base) (sym stays) along))

  pub leads_on : (after : State) → LeadsBy (conclusion_of old) (conclusion_of come) old.caller old.call room now after →
      LeadsAlong callers (journal ++ joined) base after
  leads_on after leads = by_old (conclusion_of old) refl
    where
      none_told : conclusion_of old ≡ None → answer_of_call old ≡ None
      none_told is = ap (λ (x : Option Conclusion). answer_by x old.undecided.questions.room.bytes) is

      told : (c : Conclusion) → conclusion_of come ≡ Some c → answer_of_call come ≡ answer_in c room
      told c is = ap (λ (x : Option Conclusion). answer_by x room) is

      by_conclusion : conclusion_of old ≡ None → (c : Conclusion) → conclusion_of come ≡ Some c →
          LeadsBy None (Some c) old.caller old.call room now after → LeadsAlong callers (journal ++ joined) base after
      by_conclusion before (conclusions.Answers verdict) behind rules =
          subst (λ (es : List Entry). LeadsAlong callers (journal ++ es) base after)
          (sym (one_joins seat old come o kept (none_told before) (answer_of verdict room)
          (told (conclusions.Answers verdict) behind)))
          (LeadsAlong-push callers journal (Decided seat old.call (answer_of verdict room)) base now after along
          (subst (λ (c : Option Caller). outcome_for c old.call now ≡ Some (answer_of verdict room, after)) (sym sits)
          rules))
      by_conclusion before conclusions.Waits behind stays =
          still_leads after stays.1 (told conclusions.Waits behind ∙ sym (none_told before))
      by_conclusion before conclusions.HasNoRoom behind stays =
          still_leads after stays (told conclusions.HasNoRoom behind ∙ sym (none_told before))

      by_new : conclusion_of old ≡ None → (x : Option Conclusion) → conclusion_of come ≡ x →
          LeadsBy None x old.caller old.call room now after → LeadsAlong callers (journal ++ joined) base after
      by_new before None behind stays =
          still_leads after stays (keeps_answer seat old come p aim (behind ∙ sym before))
      by_new before (Some c) behind comes = by_conclusion before c behind comes

      by_old : (x : Option Conclusion) → conclusion_of old ≡ x → LeadsAlong callers (journal ++ joined) base after
      by_old None before = by_new before (conclusion_of come) refl
          (subst (λ (x : Option Conclusion). LeadsBy x (conclusion_of come) old.caller old.call room now after) before
          leads)
      by_old (Some c) before = still_leads after
          (subst (λ (x : Option Conclusion). LeadsBy x (conclusion_of come) old.caller old.call room now after) before
          leads) (keeps_answer seat old come p aim (aim.stays c before ∙ sym before))
