-- A call lacks room only where it has something to insert, whatever steps its kernel has made.
use Rattle.std.proofs.Common.{ℕ, ◌≡◌, ◌≤◌, inl, inr, refl, sym, ap, ◌∙◌, subst, Bool, true, false, true≢false, IsSome, List, [], ◌∷◌, ◌++◌, Option, Some, None, length, length-append, arith}
use Rattle.std.specs.Prelude.{slice_get}
use Rattle.std.proofs.lemmas.Bool.{cases_eq}
use Rattle.std.proofs.lemmas.List.{take-append-le, take_all}
use Rattle.std.proofs.lemmas.Option.{same_Some}
use Rattle.call_decisions.specs.Anything.{caller_of, locked_of}
use Rattle.queue_model.proofs.JournalLemmas.{after-LeadsAlong}
use Rattle.queue_model.specs.Rules.{AddsTo}
use Rattle.queue_model.specs.declared.answer.Answer.{Answer}
use Rattle.queue_model.specs.declared.entry.Entry.TheVariants.{Stopped}
use Rattle.xsi_inquiry.proofs.AgreeLemmas.{agrees_itself}
use Rattle.xsi_inquiry.specs.Deciding.{Decides, IsAnswered, answer_of}
use Rattle.xsi_inquiry.specs.Writing.{Leads, Plan}
use Rattle.type_chains.specs.RecordOf.{record_of}
use Rattle.xsi_inquiry.specs.declared.decision.Decision.{Decision}
use Rattle.xsi_inquiry.specs.declared.decision.Decision.TheVariants as decisions
use Rattle.xsi_inquiry.specs.declared.verdict.Verdict.{Verdict}
use Rattle.xsi_calls.proofs.Names.{is_full, trials_in}
use Rattle.xsi_calls.specs.Knowing.{IsTrying, IsUndecidedIn}
use Rattle.xsi_calls.specs.Questions.{QuestionsView}
use Rattle.interleaving_core.proofs.PlaceLemmas.{Seats, at_other, at_same}
use Rattle.interleaving_core.specs.Owing.{is_failure}
use Rattle.interleaving_core.specs.xsi_calls.Calling.{IsCallingAt}
use Rattle.interleaving_core.specs.xsi_calls.Machine.{conclusion_at}
use Rattle.interleaving_core.specs.xsi_calls.Stages.{Paying, Releasing, Stage, Undecided}
use Rattle.interleaving_core.specs.xsi_calls.Undecided.{Trials}
use Rattle.interleaving_core.specs.xsi_calls.Words.{Change, Records, has_no_room, its_plan}
use Rattle.interleavings.specs.Words.{ActiveView, Call, Caller, Entry, HasCall, IsStep, IsStopped, KernelState, PoolState, RecordKey, State, Step, Table, after, call_at, call_of, conclusion_of, lacks_room, outcome, with_call}
use Rattle.interleavings.specs.Laws.{RefinesOn, StepsRefineAndDo}
use Rattle.interleavings.specs.Inserting.{AreInserting, IsInsertingAt}
use Rattle.interleavings.specs.Moments.{HasToInsert}
use Rattle.interleavings.specs.Refining.{Refines, calls_of}
use Rattle.interleavings.specs.Serving.{lacks_by}
use Rattle.interleavings.specs.Together.{AreTogether, IsUnderWay}
use Rattle.interleavings.proofs.AddsLemmas.{adds_or_spares}
use Rattle.interleavings.proofs.LackingLemmas.{fresh_room}
use Rattle.interleavings.proofs.LeadLemmas.{machine}
use Rattle.interleavings.proofs.OnWayLemmas.{or_first, or_second}
use Rattle.interleavings.proofs.SeatLemmas.{well}
use Rattle.interleavings.proofs.SeatNameLemmas.{none_is}

-- ---- a trial that has no room

-- what its call is answered there, to which this plan leads
pub record Adds (call : Call) (s : State) (p : Plan) : Type 0 where
  pub caller : Caller
  pub answer : Answer
  pub then : State
  pub comes : outcome caller call s ≡ Some (answer, then)
  pub adds : AddsTo s answer
  pub leads : Leads p (record_of s) (record_of then)

module _ (hash : RecordKey → ℕ) (seat : ℕ) (call : Call) (s : State) (q : QuestionsView) (t : Trials)
    (records : Records) (pool : PoolState) (locks : Table) (change : Change)
    (tries : IsTrying hash seat call s q t records pool locks change) where
  abbrev plan : Plan
  plan = its_plan call q

  -- its plan inserts something
  fertile : plan.trials ≡ [] → ⊥
  fertile none = none_is (slice_get plan.trials 0) (ap (λ rs. slice_get rs 0) none) tries.inserts

  by_verdict : (v : Verdict) → IsAnswered (caller_of q.inquiry) call (locked_of call q.inquiry) q.room.bytes s v plan →
      Adds call s plan
  by_verdict v answered = elim (adds_or_spares call q.inquiry (caller_of q.inquiry) q.room.bytes s answered.after v
      answered.outcome) [
        | inl none ↦ absurd (fertile none)
        | inr (inl idle) ↦ absurd (tries.changes (answered.idle idle))
        | inr (inr adds) ↦ record {
          caller = caller_of q.inquiry;
          answer = answer_of v q.room.bytes;
          then = answered.after;
          comes = answered.outcome;
          adds = adds;
          leads = answered.leads;
        }
      ]

  by_decision : (d : Decision) →
      Decides (caller_of q.inquiry) call (locked_of call q.inquiry) q.room.bytes s d plan → Adds call s plan
  by_decision decisions.PutOff put = absurd (tries.changes put.idle)
  by_decision (decisions.Answers v) answered = by_verdict v answered
  by_decision (decisions.Sweeps sweep) swept = absurd (fertile swept.no_trials)

  pub trial_adds : Adds call s plan
  trial_adds = by_decision t.decision
      (tries.decision s tries.filed (tries.knows s tries.filed (agrees_itself call _ s))).decides

-- ---- a call of a kernel

-- among all entries
all_of : (callers : List Caller) (base s : State) (call : Call) (journal : List Entry) (p : Plan) →
    after callers journal base ≡ s → Adds call s p → HasToInsert callers base call journal
all_of callers base s call journal p is adds =
    let whole = ap (λ (es : List Entry). after callers es base) (take_all (length journal) journal (omega arith))
    ∙ is in
    record {
      since = length journal;
      within = omega arith;
      caller = adds.caller;
      answer = adds.answer;
      then = adds.then;
      comes = ap (outcome adds.caller call) whole ∙ adds.comes;
      adds = subst (λ (t : State). AddsTo t adds.answer) (sym whole) adds.adds;
    }

module _ {K : Type 0} (hash : RecordKey → ℕ) (base : State) (k : KernelState K) (led : Refines hash base k)
    (sound : k.failed ≡ false) (seat : ℕ) (a : ActiveView) (there : call_at k.seats seat ≡ Some a)
    (undecided : conclusion_of a.machine ≡ None) (lacks : lacks_room a.machine ≡ true) where
  abbrev together : AreTogether hash led.now (calls_of k.seats) k.pool k.locks
  together = (led.together sound).calls

  at : IsUnderWay hash seat led.now a.machine together.records k.pool k.locks together.change
  at = well hash seat led.now (calls_of k.seats seat) together.records k.pool k.locks together.change a.machine
      (ap machine there) (together.calls seat)

  full : has_no_room a.machine.undecided ≡ true
  full = sym (ap (λ o. lacks_by o (has_no_room a.machine.undecided)) undecided) ∙ lacks

  abbrev Here : Type 0
  Here = Adds a.machine.call led.now (its_plan a.machine.call a.machine.undecided.questions)

  by_trials : (o : Option Trials) → a.machine.undecided.trials ≡ o →
      IsUndecidedIn hash seat a.machine.call led.now a.machine.undecided.questions o together.records k.pool k.locks
      together.change → Here
  by_trials None none asks = absurd (true≢false (sym full ∙ ap (λ (o : Option Trials). is_full (trials_in o)) none))
  by_trials (Some t) some tries = trial_adds hash seat a.machine.call led.now a.machine.undecided.questions t
      together.records k.pool k.locks together.change tries

  by_stage : (stage : Stage) → conclusion_at stage ≡ None →
      IsCallingAt hash seat a.machine.call led.now a.machine.undecided stage together.records k.pool k.locks
      together.change → Here
  by_stage Undecided none calls = by_trials a.machine.undecided.trials refl calls
  by_stage (Paying payment conclusion) none calls = absurd cc
  by_stage (Releasing conclusion) none calls = absurd cc

  adds_there : HasToInsert k.callers base a.machine.call k.journal
  adds_there = all_of k.callers base led.now a.machine.call k.journal
      (its_plan a.machine.call a.machine.undecided.questions)
      (after-LeadsAlong k.callers k.journal base led.now led.leads)
      (by_stage a.machine.stage undecided at.calls)

-- ---- what is so of a call

-- beside a journal that has grown
pub still_inserts : (base : State) (callers : List Caller) (journal added : List Entry) (call : Call) →
    HasToInsert callers base call journal → HasToInsert callers base call (journal ++ added)
still_inserts base callers journal added call had =
    let same = ap (λ (es : List Entry). after callers es base) (take-append-le had.since journal added had.within) in
    record {
      since = had.since;
      within =
          let within = had.within in
          let long = length-append journal added in
          omega (arith, within, long);
      caller = had.caller;
      answer = had.answer;
      then = had.then;
      comes = ap (outcome had.caller call) same ∙ had.comes;
      adds = subst (λ (t : State). AddsTo t had.answer) (sym same) had.adds;
    }

still_inserting : (base : State) (callers : List Caller) (journal added : List Entry) (at : Option ActiveView) →
    IsInsertingAt base callers journal at → IsInsertingAt base callers (journal ++ added) at
still_inserting base callers journal added None had = tt
still_inserting base callers journal added (Some a) had =
    λ lacks. still_inserts base callers journal added a.machine.call (had lacks)

-- ---- a step

module _ {K : Type 0} (does : StepsRefineAndDo K) (hash : RecordKey → ℕ) (base : State) (seat : ℕ) where
  module _ (did : Step) (old new : KernelState K) (led : Refines hash base old) (step : IsStep hash seat did old new)
      (had : AreInserting base old) (sound_then : new.failed ≡ false) where
    sound_before : old.failed ≡ false
    sound_before = or_first old.failed (is_failure did) (sym step.turn.failed ∙ sound_then)

    fine : is_failure did ≡ false
    fine = or_second old.failed (is_failure did) (sym step.turn.failed ∙ sound_then)

    -- the journal has grown, and the callers are the same
    grown : (at : Option ActiveView) → IsInsertingAt base old.callers old.journal at →
        IsInsertingAt base new.callers new.journal at
    grown at was = subst (λ (cs : List Caller). IsInsertingAt base cs new.journal at) (sym step.turn.run.rest.callers)
        (subst (λ (es : List Entry). IsInsertingAt base old.callers es at) (sym step.turn.run.journal)
        (still_inserting base old.callers old.journal step.turn.run.added at was))

    module _ (a : ActiveView) (there : call_at old.seats seat ≡ Some a) (come : ActiveView)
        (left : call_at new.seats seat ≡ Some come) (lacks : lacks_room come.machine ≡ true) where
      on : RefinesOn hash base seat a did (led.together sound_before).calls.change old new
      on = does hash base seat a did old new led there sound_before step

      same_call : come.machine.call ≡ a.machine.call
      same_call = same_Some come.machine.call a.machine.call (sym (ap call_of left)
          ∙ step.turn.run.call (subst (λ (o : Option ActiveView). IsSome (call_of o)) (sym left) refl)
          ∙ ap call_of there)

      lacked : lacks_room a.machine ≡ true → HasToInsert new.callers base come.machine.call new.journal
      lacked is = subst (λ (c : Call). HasToInsert new.callers base c new.journal) (sym same_call)
          (grown (Some a) (subst (IsInsertingAt base old.callers old.journal) there (had sound_before seat)) is)

      by_call : (b : Bool) → lacks_room on.does.by.machine ≡ b →
          HasToInsert new.callers base come.machine.call new.journal
      by_call true is = elim on.does.is [
        | inl itself ↦ lacked (sym (ap (λ (x : ActiveView). lacks_room x.machine) itself.same) ∙ is)
        | inr woken ↦
            absurd (true≢false (sym is ∙ fresh_room on.does.by.machine woken.begins.begins.new))
      ]
      by_call false room = adds_there hash base new on.led.led sound_then seat come left
          (on.does.lacks come left fine room lacks).undecided lacks

      comes_to_insert : HasToInsert new.callers base come.machine.call new.journal
      comes_to_insert = by_call (lacks_room on.does.by.machine) refl

    own_inserting : (at : Option ActiveView) → call_at old.seats seat ≡ at → (now : Option ActiveView) →
        call_at new.seats seat ≡ now → IsInsertingAt base new.callers new.journal now
    own_inserting None none None left = tt
    own_inserting None none (Some come) left = absurd (none_now (sym (ap (λ (k : KernelState K). call_at k.seats seat)
        (step.turn.spares none) ∙ none) ∙ left))
      where
        none_now : ◌≡◌ {A = Option ActiveView} None (Some come) → ⊥
        none_now clash = cc
    own_inserting (Some a) there None left = tt
    own_inserting (Some a) there (Some come) left = λ lacks. comes_to_insert a there come left lacks

    at_each : (other : ℕ) → IsInsertingAt base new.callers new.journal (call_at new.seats other)
    at_each other = elim (cases_eq other seat) [
      | inl same ↦ subst (λ (n : ℕ). IsInsertingAt base new.callers new.journal (call_at new.seats n)) (sym same)
          (own_inserting (call_at old.seats seat) refl (call_at new.seats seat) refl)
      | inr apart ↦ subst (IsInsertingAt base new.callers new.journal)
          (sym (ap (λ (seats : Seats). call_at seats other) step.turn.run.seats
          ∙ at_other old.seats seat other (call_at new.seats seat) apart))
          (grown (call_at old.seats other) (had sound_before other))
    ]

  pub step_inserting : (did : Step) (old new : KernelState K) → Refines hash base old → IsStep hash seat did old new →
      AreInserting base old → AreInserting base new
  step_inserting did old new led step had = at_each did old new led step had

-- ---- an event

module _ {K : Type 0} (hash : RecordKey → ℕ) (base : State) where
  pub begin_inserting : (seat : ℕ) (call : Call) (old new : KernelState K) →
      (1 ≤ seat) × (seat ≤ length old.seats) → HasCall seat call old new → AreInserting base old → AreInserting base new
  begin_inserting seat call old new is has had = subst (AreInserting base) (sym has.is) (λ sound other.
      elim (cases_eq other seat) [
        | inl same ↦ subst (λ (n : ℕ). IsInsertingAt base old.callers old.journal
            (call_at (with_call old.seats seat (Some has.active)) n)) (sym same)
            (subst (IsInsertingAt base old.callers old.journal)
            (sym (at_same old.seats seat (Some has.active) is.0 is.1))
            (λ lacks. absurd (true≢false (sym lacks ∙ fresh_room has.active.machine has.begun.begins.new))))
        | inr apart ↦ subst (IsInsertingAt base old.callers old.journal)
            (sym (at_other old.seats seat other (Some has.active) apart)) (had sound other)
      ])

  pub stop_inserting : (old new : KernelState K) → IsStopped old new → AreInserting base old → (b : Bool) →
      old.stopped ≡ b → AreInserting base new
  stop_inserting old new stops had true is = subst (AreInserting base) (sym (stops.again is)) had
  stop_inserting old new stops had false is = subst (AreInserting base) (sym (stops.first is)) (λ sound seat.
      still_inserting base old.callers old.journal (Stopped ∷ []) (call_at old.seats seat) (had sound seat))
