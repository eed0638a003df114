-- Where a call finds no room: what it has to insert in the system as it then is, and how many bytes that has.
use Rattle.std.proofs.Common.{ℕ, zero, suc, ◌≡◌, ◌≢◌, ◌<◌, inl, inr, refl, sym, ap, ◌∙◌, subst, Bool, true, false, ◌||◌, IsSome, List, [], ◌∷◌, ◌++◌, Option, Some, None, append-nil, append_assoc}
use Rattle.std.proofs.lemmas.Option.{none-some}
use Rattle.bucket_page.specs.Records.{pair}
use Rattle.bucket_page.specs.declared.layout.TheConstants.{ROOM_BYTES}
use Rattle.interleaving_core.proofs.RunLemmas.{others_stay}
use Rattle.interleaving_core.specs.Kernel.{locks_of}
use Rattle.interleaving_core.specs.Owing.{is_end, is_failure}
use Rattle.interleaving_core.specs.declared.step.Step.TheVariants as told_of_step
use Rattle.interleaving_core.specs.xsi_calls.Calling.{IsCallingAt}
use Rattle.interleaving_core.specs.xsi_calls.Machine.{answer_by, conclusion_at}
use Rattle.interleaving_core.specs.xsi_calls.Machine.{owes_at as owes_of_call}
use Rattle.interleaving_core.specs.xsi_calls.Stages.{Paying, Releasing, Stage, Undecided}
use Rattle.interleaving_core.specs.xsi_calls.Undecided.{Trials, owes_in}
use Rattle.interleaving_core.specs.xsi_calls.Words.{Change, Exclusive, Lock, guard_of, has_no_room, its_plan, kind_of, overlaid, record_of, world}
use Rattle.queue_model.proofs.EffectLemmas.{Effect-outcome}
use Rattle.queue_model.proofs.JournalLemmas.{after-LeadsAlong}
use Rattle.queue_model.proofs.LawfulLemmas.{IsLawful-Effect}
use Rattle.queue_model.specs.Rules.{AddsTo}
use Rattle.queue_records.specs.Spelling.{key_of, value_of}
use Rattle.queue_records.specs.declared.record.Record.{Record}
use Rattle.step_rules.specs.Rooms.{HasNoRoom}
use Rattle.xsi_calls.proofs.Names.{is_full, trials_in}
use Rattle.xsi_calls.specs.Knowing.{IsUndecidedIn}
use Rattle.interleavings.specs.ConcurrentWords.{UndecidedCall, owes_at, row_of}
use Rattle.interleavings.specs.Doing.{HasAsLong}
use Rattle.interleavings.specs.Refining.{Refines, calls_of}
use Rattle.interleavings.specs.Rooms.{FindsBy, FindsByStep}
use Rattle.interleavings.specs.Serving.{lacks_by as short_by}
use Rattle.interleavings.specs.Sizes.{bytes_of_system}
use Rattle.interleavings.specs.Together.{AreTogether, IsUnderWay, owes_of}
use Rattle.interleavings.specs.Together.{locks_of as locks_of_call}
use Rattle.interleavings.specs.Words.{ActiveView, Answer, Call, CallView, Caller, Entry, IsStep, KernelState, Moves, PoolState, RecordKey, State, Step, Table, after, answer_told, call_at, call_of, conclusion_of, entry_of, lacks_room, outcome, told, untold}
use Rattle.interleavings.specs.declared.event.Event.{Event}
use Rattle.interleavings.specs.declared.event.Event.TheVariants as events
use Rattle.interleavings.specs.declared.event.Outcome.{Outcome}
use Rattle.interleavings.specs.declared.event.Outcome.TheVariants as outcomes
use Rattle.interleavings.proofs.FullLemmas.{over}
use Rattle.interleavings.proofs.InsertLemmas.{Adds, trial_adds}
use Rattle.interleavings.proofs.LeadLemmas.{machine}
use Rattle.interleavings.proofs.PlaceLemmas.{owns}
use Rattle.interleavings.proofs.SeatLemmas.{owes_held, well}
use Rattle.interleavings.proofs.UnderWayLemmas.{call_on, moves_fail_not, moves_leave}

-- ---- the kernel behind the step

-- no room in this file, in whatever phase
anyway : (hash : RecordKey → ℕ) (r : Record) (pool : PoolState) (locks : Table) (c d : Change) →
    HasNoRoom hash (pair (key_of r) (value_of r)) (world pool.images locks c) →
    HasNoRoom hash (pair (key_of r) (value_of r)) (world pool.images locks d)
anyway hash r pool locks c d none = record {
  page = none.page;
  lacks = record { home = none.lacks.home; absent = none.lacks.absent; full = none.lacks.full };
  stuck = none.stuck;
}

module _ {K : Type 0} (hash : RecordKey → ℕ) (base : State) (k : KernelState K) (led : Refines hash base k)
    (sound : k.failed ≡ false) (seat : ℕ) (a : ActiveView) (there : call_at k.seats seat ≡ Some a) where
  abbrev together : AreTogether hash led.now (calls_of k.seats) k.pool k.locks
  together = (led.together sound).calls

  abbrev u : UndecidedCall
  u = a.machine.undecided

  at : IsUnderWay hash seat led.now a.machine together.records k.pool k.locks together.change
  at = well hash seat led.now (calls_of k.seats seat) together.records k.pool k.locks together.change a.machine
      (ap machine there) (together.calls seat)

  -- what it owes it holds Exclusive
  abbrev Own : (key : RecordKey) → Bool → Type 0
  Own key owed = owed ≡ true → kind_of u.questions.names (guard_of key) ≡ Some Exclusive

  -- where the others owe nothing, and a record as long as one that it inserts has no room
  record Lacks (Will : Type 0) : Type 0 where
    pub adds : Adds a.machine.call led.now (its_plan a.machine.call u.questions)
    pub full : Will → (r : Record) → HasAsLong (its_plan a.machine.call u.questions).trials r → (c : Change) →
        HasNoRoom hash (pair (key_of r) (value_of r)) (world k.pool.images k.locks c) →
        ROOM_BYTES < bytes_of_system adds.then

  by_trials : (o : Option Trials) → is_full (trials_in o) ≡ true →
      IsUndecidedIn hash seat a.machine.call led.now u.questions o together.records k.pool k.locks together.change →
      ((key : RecordKey) → Own key (owes_at (owes_in a.machine.call u.questions o) key)) →
      Lacks ((key : RecordKey) →
      overlaid (owes_in a.machine.call u.questions o) together.records key ≡ record_of led.now key)
  by_trials None full asks own = absurd cc
  by_trials (Some t) full tries own =
      let adds = trial_adds hash seat a.machine.call led.now u.questions t together.records k.pool k.locks
      together.change tries in
      record {
        adds = adds;
        full = λ will r has c none.
            over hash seat a.machine.call led.now u.questions t together.records k.pool k.locks together.change tries
            adds.then
            (IsLawful-Effect adds.caller a.machine.call adds.answer led.now adds.then
            (Effect-outcome adds.caller a.machine.call adds.answer led.now adds.then adds.comes)
            together.filed.lawful)
            adds.leads own together.stands will together.change r has together.sound
            (anyway hash r k.pool k.locks c together.change none);
      }

  by_stage : (stage : Stage) → conclusion_at stage ≡ None → is_full (trials_in u.trials) ≡ true →
      IsCallingAt hash seat a.machine.call led.now u stage together.records k.pool k.locks together.change →
      ((key : RecordKey) → Own key (owes_at (owes_of_call a.machine.call u stage) key)) →
      Lacks ((key : RecordKey) →
      overlaid (owes_of_call a.machine.call u stage) together.records key ≡ record_of led.now key)
  by_stage Undecided none full calls own = by_trials u.trials full calls own
  by_stage (Paying payment conclusion) none full calls own = absurd cc
  by_stage (Releasing conclusion) none full calls own = absurd cc

  lacks_there : conclusion_of a.machine ≡ None → lacks_room a.machine ≡ true →
      Lacks ((key : RecordKey) →
      overlaid (owes_of (calls_of k.seats seat)) together.records key ≡ record_of led.now key)
  lacks_there undecided lacks = subst (λ (o : Option CallView). Lacks ((key : RecordKey) →
      overlaid (owes_of o) together.records key ≡ record_of led.now key)) (sym (ap machine there))
      (by_stage a.machine.stage undecided
      (sym (ap (λ o. short_by o (has_no_room u)) undecided) ∙ lacks) at.calls
      (owns hash seat led.now a.machine together.records k.pool k.locks together.change at.calls))

  -- ---- another seat

  same_locks : (o : Option ActiveView) → locks_of_call (machine o) ≡ locks_of o
  same_locks None = refl
  same_locks (Some b) = refl

  -- one that holds nothing owes nothing
  owes_none : (other : ℕ) → locks_of (call_at k.seats other) ≡ [] → (key : RecordKey) →
      owes_at (owes_of (calls_of k.seats other)) key ≡ false
  owes_none other free key = by (owes_at (owes_of (calls_of k.seats other)) key) refl
    where
      row : row_of k.locks other ≡ []
      row = together.rows other ∙ same_locks (call_at k.seats other) ∙ free

      by : (b : Bool) → owes_at (owes_of (calls_of k.seats other)) key ≡ b → b ≡ false
      by false is = refl
      by true is =
          let clash = sym (ap (λ (ls : List Lock). kind_of ls (guard_of key)) row)
          ∙ owes_held hash led.now together.records k.pool k.locks together.change other (calls_of k.seats other)
          (together.rows other) (together.calls other) key is in
          absurd (none-some Exclusive clash)

-- ---- steps that tell nothing

both_empty : (xs ys : List Entry) → xs ++ ys ≡ [] → ys ≡ []
both_empty [] ys none = none
both_empty (x ∷ xs) ys none = absurd cc

none_told : (seat : ℕ) (at : Option ActiveView) → told seat at None ≡ []
none_told seat None = refl
none_told seat (Some a) = refl

module _ {K : Type 0} (hash : RecordKey → ℕ) (seat : ℕ) where
  -- the other seats are where they were, and the journal has what is owed this one
  record HasRun (old new : KernelState K) : Type 0 where
    pub others : (other : ℕ) → other ≢ seat → call_at new.seats other ≡ call_at old.seats other
    pub callers : new.callers ≡ old.callers
    pub added : List Entry
    pub journal : new.journal ≡ old.journal ++ added
    pub owed : untold seat (call_at old.seats seat) ++ added ≡ untold seat (call_at new.seats seat)

  stays_so : (old new : KernelState K) → new ≡ old → HasRun old new
  stays_so old new same = subst (HasRun old) (sym same) (record {
    others = λ other apart. refl;
    callers = refl;
    added = [];
    journal = sym (append-nil old.journal);
    owed = append-nil (untold seat (call_at old.seats seat));
  })

  runs_further : (did : Step) (old now new : KernelState K) → HasRun old now → IsStep hash seat did now new →
      answer_told did ≡ None → HasRun old new
  runs_further did old now new so_far step none =
      let run = step.turn.run in
      record {
        others = λ other apart. others_stay seat other (answer_told did) now new run apart ∙ so_far.others other apart;
        callers = run.rest.callers ∙ so_far.callers;
        added = so_far.added ++ run.added;
        journal = run.journal ∙ ap (λ (es : List Entry). es ++ run.added) so_far.journal
            ∙ append_assoc old.journal so_far.added run.added;
        owed = sym (append_assoc (untold seat (call_at old.seats seat)) so_far.added run.added)
            ∙ ap (λ (es : List Entry). es ++ run.added) so_far.owed
            ∙ run.owed
            ∙ ap (λ (x : Option Answer). told seat (call_at now.seats seat) x ++ untold seat (call_at new.seats seat))
            none
            ∙ ap (λ (es : List Entry). es ++ untold seat (call_at new.seats seat))
            (none_told seat (call_at now.seats seat));
      }

  runs_so : (moves : ℕ) (old now : KernelState K) → Moves hash seat moves old now → HasRun old now
  runs_so zero old now same = stays_so old now same
  runs_so (suc n) old now moved = runs_further (told_of_step.Moved moved.kind) old moved.before now
      (runs_so n old moved.before moved.stands) moved.step refl

-- ---- the step that finds none

-- a seat's call lacks room in the system after what the journal then is
pub record LacksIn {K : Type 0} (base : State) (seat : ℕ) (k : KernelState K) : Type 0 where
  pub call : Call
  pub there : call_on seat k ≡ Some call
  pub sound : k.failed ≡ false
  pub caller : Caller
  pub answer : Answer
  pub then : State
  pub comes : outcome caller call (after k.callers k.journal base) ≡ Some (answer, then)
  pub adds : AddsTo (after k.callers k.journal base) answer
  -- where the other seats hold nothing
  pub full : ((other : ℕ) → other ≢ seat → locks_of (call_at k.seats other) ≡ []) →
      ROOM_BYTES < bytes_of_system then

module _ {K : Type 0} (hash : RecordKey → ℕ) (base : State) (seat : ℕ) where
  module _ (moves : ℕ) (did : Step) (k old new : KernelState K) (moved : Moves hash seat moves k old)
      (finds : FindsByStep hash base seat did old new) where
    led : Refines hash base new
    led = finds.on.led.led

    sound : new.failed ≡ false
    sound = finds.step.turn.failed ∙ ap (λ (b : Bool). b || is_failure did) finds.sound ∙ finds.fine

    -- its call goes on, so no answer is told
    nothing_told : answer_told did ≡ None
    nothing_told = by did (λ over. none-some finds.come (sym (finds.step.turn.over over) ∙ finds.left))
      where
        by : (d : Step) → (is_end d ≡ true → ⊥) → answer_told d ≡ None
        by (told_of_step.Moved kind) on = refl
        by (told_of_step.Blocked other) on = refl
        by told_of_step.Waiting on = refl
        by (told_of_step.Answered answer) on = absurd (on refl)
        by told_of_step.Idle on = refl
        by (told_of_step.Fault fault) on = refl

    run : HasRun hash seat k new
    run = runs_further hash seat did k old new (runs_so hash seat moves k old moved) finds.step nothing_told

    -- and nothing joined the journal
    same_journal : new.journal ≡ k.journal
    same_journal =
        let owed = run.owed ∙ ap (untold seat) finds.left
        ∙ ap (λ o. entry_of seat (Some finds.come.machine.call)
        (answer_by o finds.come.machine.undecided.questions.room.bytes)) finds.lacks.undecided in
        let none = both_empty (untold seat (call_at k.seats seat)) run.added owed in
        run.journal ∙ ap (λ (es : List Entry). k.journal ++ es) none ∙ append-nil k.journal

    -- the system is that after what the journal was
    same_system : led.now ≡ after k.callers k.journal base
    same_system = sym (after-LeadsAlong new.callers new.journal base led.now led.leads)
        ∙ ap (λ (cs : List Caller). after cs new.journal base) run.callers
        ∙ ap (λ (es : List Entry). after k.callers es base) same_journal

    its : call_on seat k ≡ Some finds.come.machine.call
    its = sym (moves_leave hash seat k moves old moved)
        ∙ sym (finds.step.turn.run.call (subst (λ (o : Option ActiveView). IsSome (call_of o)) (sym finds.left) refl))
        ∙ ap call_of finds.left

    lacking : Lacks hash base new led sound seat finds.come finds.left ((key : RecordKey) →
        overlaid (owes_of (calls_of new.seats seat)) (led.together sound).calls.records key ≡ record_of led.now key)
    lacking = lacks_there hash base new led sound seat finds.come finds.left finds.lacks.undecided finds.lacking

    none_owed : ((other : ℕ) → other ≢ seat → locks_of (call_at k.seats other) ≡ []) → (other : ℕ) → other ≢ seat →
        (key : RecordKey) → owes_at (owes_of (calls_of new.seats other)) key ≡ false
    none_owed free other apart key = owes_none hash base new led sound seat finds.come finds.left other
        (ap locks_of (run.others other apart) ∙ free other apart) key

    pub lacks_in : LacksIn base seat k
    lacks_in =
        let adds = lacking.adds in
        record {
          call = finds.come.machine.call;
          there = its;
          sound = sym (moves_fail_not hash seat k moves old moved) ∙ finds.sound;
          caller = adds.caller;
          answer = adds.answer;
          then = adds.then;
          comes = ap (outcome adds.caller finds.come.machine.call) (sym same_system) ∙ adds.comes;
          adds = subst (λ (s : State). AddsTo s adds.answer) same_system adds.adds;
          full = λ free. lacking.full
              (λ key. (led.together sound).calls.will seat key (λ other apart. none_owed free other apart key))
              finds.lacks.finds.entry finds.lacks.its (finds.refines.together finds.sound).calls.change
              finds.lacks.finds.lacks;
        }

  -- ---- an event

  pub lacks_by : (e : Event) (o : Outcome) (k new : KernelState K) → FindsBy hash base seat e o k new →
      LacksIn base seat k
  lacks_by (events.Step other) (outcomes.Stepped did) k new (same, finds) = lacks_in zero did k k new refl finds
  lacks_by (events.Drive other) (outcomes.Driven did) k new (same, drive) = elim drive.finds [
    | inl found ↦ lacks_in found.earlier (told_of_step.Moved found.kind) k found.before found.behind found.moved
        found.finds
    | inr finds ↦ lacks_in drive.driven.moves did k drive.driven.before new drive.driven.moved finds
  ]
  lacks_by _ _ k new never = absurd never
