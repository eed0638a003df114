-- The Decide of a call, after the last step of what it asks and tries.
use Rattle.std.proofs.Common.{◌≡◌, refl, sym, ap, ◌∙◌, subst, ℕ, Bool, true, false, not, List, [], Option, Some, None, IsTrue, ◌≤◌, arith}
use Rattle.std.proofs.lemmas.Bool.{true≢false}
use Rattle.call_writes.specs.call_decisions.declared.settled.Settled.TheVariants as settlements
use Rattle.step_rules.specs.Known.{AllKnown}
use Rattle.step_rules.specs.Searching.{WalksTo}
use Rattle.step_rules.specs.Sound.{IsSoundWorld}
use Rattle.file_pages.specs.declared.fault.FileFault.TheVariants.{Failed}
use Rattle.call_writes.proofs.of_xsi_remove.FreshLemmas.{failed_cause}
use Rattle.xsi_calls.proofs.UndecidedFewLemmas.{undecided_names}
use Rattle.xsi_calls.proofs.ReadyLemmas.{no_question}
use Rattle.xsi_calls.proofs.Names.{Due, Question, begun_at, locks_behind, locks_under, names_in, questions_facts, AccessView, FileFault, IsDecidedIn, IsFiled, IsTrying, IsUndecidedIn, Trials, MOST_PAYMENT_STEPS, has_few, is_full, locks_in, owes, owes_in, trials_in, CanDecideIn, IsCalmIn}
use Rattle.xsi_calls.proofs.ConcludeLemmas.{Concluded, settles, short}
use Rattle.xsi_calls.proofs.GoLemmas.{asking, at_end, at_undecided, with_stage}
use Rattle.xsi_calls.specs.declared.conclusion.Conclusion.{Conclusion}
use Rattle.xsi_calls.specs.Stages.{Stage, Undecided, Paying}
use Rattle.xsi_calls.specs.Words.{Agrees, AreNames, Call, Caller, CallWrites, CanDecide, Change, Ended, Fault, GoesOn, IsBehind, IsCalm, IsUndecided, KeepsUndecided, Lock, Moved, OnlyWrites, PaymentStage, Plan, PoolState, Progress, QuestionsView, RecordKey, Records, Settled, State, Store, Table, UndecidedCall, World, begun_payment, caller_of, has_no_room, is_fault, its_plan, owes_now, payment_facts, payment_left, payment_locks, row_of, store_of, trials_of, undecided_locks, undecided_owes, with_row, world}
use Rattle.call_writes.specs.Payments.{begun_behind}
use Rattle.step_rules.specs.declared.kind.Kind.TheVariants.{Decide}
use Rattle.xsi_calls.specs.Concluding.{IsRightConclusion, conclusion_by}
use Rattle.xsi_calls.specs.Machine.{CallView, IsCalmAt, call_turn, is_undecided}
use Rattle.xsi_calls.specs.CallSteps.{MakesCall, StepsCall, is_end}

-- ---- nothing but its names is held

names_alone : (call : Call) (q : QuestionsView) (o : Option Trials) → CanDecideIn call q o → locks_in q o ≡ q.names
names_alone call q None can =
    ap (λ (x : Option Question). locks_behind x q.names) (no_question call q can.0)
names_alone call q (Some t) can = ap (λ (a : Option AccessView). locks_under a q.names) can.rests

-- nor by a payment that begins
begun_alone : (hash : RecordKey → ℕ) (settled : Option Settled) (due : Due) (names : List Lock) →
    payment_locks (begun_payment hash settled due) names ≡ names
begun_alone hash None due names = refl
begun_alone hash (Some (settlements.Answers verdict)) due names = refl
begun_alone hash (Some (settlements.Sweeps sweep)) due names = by sweep.first
  where
    by : (first : Option ℕ) → payment_locks (begun_behind (begun_at hash sweep.id first) due) names ≡ names
    by None = refl
    by (Some first) = refl
begun_alone hash (Some settlements.Waits) due names = refl

begun_knows : (hash : RecordKey → ℕ) (settled : Option Settled) (due : Due) →
    payment_facts (begun_payment hash settled due) ≡ []
begun_knows hash None due = refl
begun_knows hash (Some (settlements.Answers verdict)) due = refl
begun_knows hash (Some (settlements.Sweeps sweep)) due = by sweep.first
  where
    by : (first : Option ℕ) → payment_facts (begun_behind (begun_at hash sweep.id first) due) ≡ []
    by None = refl
    by (Some first) = refl
begun_knows hash (Some settlements.Waits) due = refl

-- what it owes
owes_so : (call : Call) (q : QuestionsView) (o : Option Trials) →
    owes_in call q o ≡ owes (its_plan call q) (trials_in o).due
owes_so call q None = refl
owes_so call q (Some t) = refl

-- and no question is under way
pub no_question_there : (call : Call) (q : QuestionsView) (o : Option Trials) → CanDecideIn call q o → IsCalmIn q o →
    q.question ≡ None
no_question_there call q None can calm = no_question call q can.0
no_question_there call q (Some t) can calm = calm

-- of a system as it can be filed
filed_in : (hash : RecordKey → ℕ) (seat : ℕ) (call : Call) (s : State) (q : QuestionsView) (o : Option Trials)
    (records : Records) (pool : PoolState) (locks : Table) (change : Change) →
    IsUndecidedIn hash seat call s q o records pool locks change → IsFiled s
filed_in hash seat call s q None records pool locks change is = is.faces.agrees.filed
filed_in hash seat call s q (Some t) records pool locks change is = is.filed

-- ---- after the step by which it has ended

module _ (hash : RecordKey → ℕ) (seat : ℕ) (call : Call) (s : State) (u u' : UndecidedCall) (rests : u' ≡ u)
    (records : Records) (pool pool' : PoolState) (locks locks' : Table) (change : Change)
    (same_honest : pool'.honest ≡ pool.honest)
    (g : GoesOn {F = FileFault} hash seat call s Ended u u' records pool pool' locks locks' change) where
  same : world pool'.images locks' g.step.after ≡ world pool.images locks change
  same = g.step.does

  store_same : store_of pool'.images ≡ store_of pool.images
  store_same = ap (λ (w : World). w.store) same

  locks_same : locks' ≡ locks
  locks_same = ap (λ (w : World). w.locks) same

  behind : (o : Option Trials) → IsUndecidedIn hash seat call s u.questions o records pool locks change →
      IsBehind hash seat call s u.questions o g.after pool' locks' g.step.after →
      IsUndecidedIn hash seat call s u.questions o records pool' locks' g.step.after
  behind None is on = record {
    faces = record {
      right = is.faces.right;
      sees = record {
        honest = subst IsTrue (sym same_honest) is.faces.sees.honest;
        file = g.step.file;
        sound = subst (IsSoundWorld hash) (sym same) is.faces.sees.sound;
        known = subst (λ (w : World). AllKnown seat w (questions_facts u.questions)) (sym same) is.faces.sees.known;
      };
      agrees = subst (λ (f : Store). Agrees (names_in u.questions.names) f s) (sym store_same) is.faces.agrees;
      knows = is.faces.knows;
    };
    row = ap (λ (t : Table). row_of t seat) locks_same ∙ is.row;
    alike = is.alike;
  }
  behind (Some t) is on =
      subst (λ (rs : Records). IsTrying hash seat call s u.questions t rs pool' locks' g.step.after) (g.still refl) on

  pub still_undecided : IsUndecided hash seat call s u records pool locks change →
      IsUndecided hash seat call s u records pool' locks' g.step.after
  still_undecided is = behind u.trials is
      (subst (λ (x : UndecidedCall). IsBehind hash seat call s x.questions x.trials g.after pool' locks' g.step.after)
      rests g.behind)

-- ---- the Decide

module _ (hash : RecordKey → ℕ) (seat : ℕ) (stopped : Bool) (caller : Caller) (call : Call) (u : UndecidedCall)
    (can : CanDecide call u) (calm : IsCalm u) (pool pool' : PoolState) (locks locks' : Table)
    (writes : OnlyWrites true pool pool') (row : locks' ≡ with_row locks seat (undecided_locks u)) where
  abbrev q : QuestionsView
  q = u.questions

  abbrev p : Plan
  p = its_plan call q

  alone : locks' ≡ with_row locks seat q.names
  alone = row ∙ ap (with_row locks seat) (names_alone call q u.trials can)

  -- its trials are taken out
  abbrev pub untried_yet : UndecidedCall
  untried_yet = record { questions = q; trials = None }

  module _ (by : caller_of q.inquiry ≡ caller) (ordered : AreNames q.names) (settled : Option Settled)
      (trials : CallWrites) (trials_are : trials ≡ trials_of u)
      (step : (s : State) (records : Records) (change : Change) →
      IsUndecided hash seat call s u records pool locks change →
      GoesOn {F = FileFault} hash seat call s Ended u u records pool pool' locks locks' change)
      (decided : (s : State) (records : Records) (change : Change) →
      IsUndecided hash seat call s u records pool' locks' change → s.stopped ≡ stopped →
      IsDecidedIn hash seat call s q settled trials records pool' locks' change) where
    abbrev payment : PaymentStage
    payment = begun_payment hash settled trials.due

    abbrev pub concluded : CallView
    concluded = record {
      caller = caller;
      call = call;
      undecided = untried_yet;
      stage = Paying payment (conclusion_by settled);
    }

    module _ (s : State) (records : Records) (change : Change)
        (is : IsUndecided hash seat call s u records pool locks change) (mark : s.stopped ≡ stopped) where
      on : GoesOn {F = FileFault} hash seat call s Ended u u records pool pool' locks locks' change
      on = step s records change is

      now : IsUndecided hash seat call s u records pool' locks' on.step.after
      now = still_undecided hash seat call s u u refl records pool pool' locks locks' change writes.honest on is

      comes : Concluded hash seat call s q (has_no_room u) (undecided_owes call u) settled trials records pool' locks'
          on.step.after
      comes = of settled (decided s records on.step.after now mark)
        where
          owed : undecided_owes call u ≡ owes p trials.due
          owed = owes_so call q u.trials ∙ ap (λ (w : CallWrites). owes p w.due) (sym trials_are)

          of : (x : Option Settled) → IsDecidedIn hash seat call s q x trials records pool' locks' on.step.after →
              Concluded hash seat call s q (has_no_room u) (undecided_owes call u) x trials records pool' locks'
              on.step.after
          of None so = short hash seat call s q (has_no_room u) (undecided_owes call u) trials records pool' locks'
              on.step.after owed so (ap is_full (sym trials_are))
          of (Some x) so = settles hash seat call s q (has_no_room u) (undecided_owes call u) trials records pool'
              locks' on.step.after owed (filed_in hash seat call s q u.trials records pool locks change is) x so

      steps : StepsCall {F = FileFault} hash seat s (Moved Decide) (asking caller call u) concluded records pool pool'
          locks locks' change
      steps = record {
        step = record {
          after = on.step.after;
          file = on.step.file;
          others = on.step.others;
          known = subst (AllKnown seat (world pool'.images locks' on.step.after))
              (sym (begun_knows hash settled trials.due)) tt;
          does = on.step.does;
          led = subst (WalksTo {F = FileFault} seat
              (call_turn hash (asking caller call u) (store_of pool.images)).ask (Moved Decide)
              (world pool.images locks change) (world pool'.images locks' on.step.after))
              (sym (begun_knows hash settled trials.due)) tt;
        };
        after = records;
        still = λ unwritten. refl;
        reads = λ reading. absurd reading;
        elsewhere = λ key free. refl;
        leaves = tt;
        owed = λ kept key. absurd cc;
        counter = λ kept owed. refl;
        concludes = λ none c same. subst (IsRightConclusion caller call s q.room.bytes q.names (has_no_room u)
            (undecided_owes call u) (owes_now p payment) records) (some_same same)
            (subst (λ (x : Caller). IsRightConclusion x call s q.room.bytes q.names (has_no_room u)
            (undecided_owes call u) (owes_now p payment) records (conclusion_by settled)) by comes.right);
        behind = record {
          names = undecided_names hash seat call s u records pool locks change is;
          pays = comes.pays;
        };
        full = λ before full. absurd (true≢false (sym full));
      }
        where
          some_same : {c : Conclusion} → Some (conclusion_by settled) ≡ Some c → conclusion_by settled ≡ c
          some_same same = cc

      few_left : payment_left p payment (store_of pool'.images) ≤ MOST_PAYMENT_STEPS
      few_left = has_few hash seat q.names p settled trials.due records pool' locks' on.step.after
          (store_of pool'.images) comes.pays

    pub decides : MakesCall hash seat stopped (Moved Decide) (asking caller call u) concluded pool pool' locks locks'
    decides = record {
      writes = writes;
      cause = λ fault is. absurd cc;
      aim = record {
        caller = refl;
        call = refl;
        most = refl;
        decides = λ none some. refl;
        can_decide = λ undecided fine. (λ some. can, λ there. refl);
        stays = λ c same. absurd cc;
        bytes = λ some. refl;
        ended = (λ e. absurd cc, λ over. absurd over);
        over = λ e. absurd cc;
        stage = tt;
        finds = refl;
      };
      row = alone ∙ ap (with_row locks seat) (sym (begun_alone hash settled trials.due q.names));
      progress = λ s records change is mark.
          let few = few_left s records change is mark in
          let names = ordered.few in
          omega (arith, few, names);
      step = λ s records change is mark fine. steps s records change is mark;
      turns_away = λ s records change is mark fine. tt;
    }

  -- ---- it was told what no system has

  pub fails : ((s : State) (records : Records) (change : Change) →
      IsUndecided hash seat call s u records pool locks change → s.stopped ≡ stopped → ⊥) →
      MakesCall hash seat stopped (Fault Failed) (asking caller call u) (asking caller call untried_yet) pool pool'
      locks locks'
  fails never = record {
    writes = record {
      ready = writes.ready;
      honest = writes.honest;
      later = writes.later;
      stored = writes.stored;
      as_many = writes.as_many;
      file = λ honest done file. absurd cc;
    };
    cause = failed_cause pool pool';
    aim = record {
      caller = refl;
      call = refl;
      most = refl;
      decides = λ none some. absurd cc;
      can_decide = λ undecided fine. absurd cc;
      stays = λ c same. absurd cc;
      bytes = λ some. absurd cc;
      ended = (λ e. absurd cc, λ over. absurd over);
      over = λ e. absurd cc;
      stage = tt;
      finds = refl;
    };
    row = alone ∙ sym (ap (λ (x : Option Question). with_row locks seat (locks_behind x q.names))
        (no_question_there call q u.trials can calm));
    progress = λ s records change is mark. absurd (never s records change is mark);
    step = λ s records change is mark fine. absurd (never s records change is mark);
    turns_away = λ s records change is mark fine. tt;
  }

-- ---- from its place

pub decides_from : (hash : RecordKey → ℕ) (seat : ℕ) (stopped : Bool) (caller : Caller) (call : Call)
    (u u' : UndecidedCall) (stage : Stage) (place : CallView) → with_stage caller call u stage ≡ place →
    is_undecided place.stage ≡ true → IsCalmAt u stage → caller_of u.questions.inquiry ≡ caller →
    AreNames u'.questions.names → (did : Progress FileFault) → is_end did ≡ true →
    (pool pool' : PoolState) (locks locks' : Table) → OnlyWrites (not (is_fault did)) pool pool' →
    KeepsUndecided call did u u' → locks' ≡ with_row locks seat (undecided_locks u') →
    ((s : State) (records : Records) (change : Change) → IsUndecided hash seat call s u records pool locks change →
    is_fault did ≡ false → GoesOn hash seat call s did u u' records pool pool' locks locks' change) →
    (settled : Option Settled) (trials : CallWrites) → trials ≡ trials_of u' →
    ((s : State) (records : Records) (change : Change) → IsUndecided hash seat call s u' records pool' locks' change →
    s.stopped ≡ stopped → IsDecidedIn hash seat call s u'.questions settled trials records pool' locks' change) →
    (u2 : UndecidedCall) → u2.questions ≡ u'.questions → u2.trials ≡ None →
    (payment : PaymentStage) → payment ≡ begun_payment hash settled trials.due →
    (conclusion : Conclusion) → conclusion ≡ conclusion_by settled →
    MakesCall hash seat stopped (Moved Decide) place (with_stage caller call u2 (Paying payment conclusion)) pool pool'
    locks locks'
decides_from hash seat stopped caller call u u' stage place view undecided calm by ordered did is pool pool' locks
    locks' writes aim row step settled trials trials_are decided u2 same none payment pays conclusion comes =
    subst (λ (m : CallView). MakesCall hash seat stopped (Moved Decide) m
    (with_stage caller call u2 (Paying payment conclusion)) pool pool' locks locks') view
    (subst (λ (x : Stage). MakesCall hash seat stopped (Moved Decide) (with_stage caller call u x)
    (with_stage caller call u2 (Paying payment conclusion)) pool pool' locks locks') (sym there)
    (subst (λ (x : UndecidedCall). MakesCall hash seat stopped (Moved Decide) (asking caller call u)
    (with_stage caller call x (Paying payment conclusion)) pool pool' locks locks') (sym u2_is)
    (subst (λ (v : PaymentStage). MakesCall hash seat stopped (Moved Decide) (asking caller call u)
    (with_stage caller call bare (Paying v conclusion)) pool pool' locks locks') (sym pays)
    (subst (λ (c : Conclusion). MakesCall hash seat stopped (Moved Decide) (asking caller call u)
    (with_stage caller call bare (Paying (begun_payment hash settled trials.due) c)) pool pool' locks locks')
    (sym comes)
    (decides hash seat stopped caller call u (aim.ended.0 e) calm_here pool pool' locks locks'
    (subst (λ (d : Progress FileFault). OnlyWrites (not (is_fault d)) pool pool') e writes)
    (subst (λ (x : UndecidedCall). locks' ≡ with_row locks seat (undecided_locks x)) rests row) by
    (subst (λ (x : UndecidedCall). AreNames x.questions.names) rests ordered) settled trials
    (trials_are ∙ ap trials_of rests)
    (λ s records change un. subst (λ (x : UndecidedCall). GoesOn {F = FileFault} hash seat call s Ended u x records pool
    pool' locks locks' change) rests (subst (λ (d : Progress FileFault). GoesOn hash seat call s d u u' records pool
    pool' locks locks' change) e (step s records change un (ap is_fault e))))
    (λ s records change un mark. subst (λ (x : UndecidedCall). IsDecidedIn hash seat call s x.questions settled trials
    records pool' locks' change) rests (decided s records change
    (subst (λ (x : UndecidedCall). IsUndecided hash seat call s x records pool' locks' change) (sym rests) un)
    mark)))))))
  where
    e : did ≡ Ended
    e = at_end did is

    rests : u' ≡ u
    rests = aim.rests e

    there : stage ≡ Undecided
    there = at_undecided stage (subst (λ (m : CallView). is_undecided m.stage ≡ true) (sym view) undecided)

    calm_here : IsCalm u
    calm_here = subst (IsCalmAt u) there calm

    bare : UndecidedCall
    bare = record { questions = u.questions; trials = None }

    u2_is : u2 ≡ bare
    u2_is = ap (λ (x : QuestionsView). record { questions = x; trials = u2.trials })
        (same ∙ ap (λ (x : UndecidedCall). x.questions) rests)
        ∙ ap (λ (o : Option Trials). record { questions = u.questions; trials = o }) none
