-- A step of what a call asks and tries.
use Rattle.std.proofs.Common.{◌≡◌, refl, sym, ap, ◌∙◌, subst, ℕ, Bool, true, false, Option, Some, None, arith}
use Rattle.std.proofs.lemmas.Bool.{true≢false}
use Rattle.xsi_calls.proofs.UndecidedCounterLemmas.{undecided_none}
use Rattle.xsi_calls.proofs.Names.{FileFault, nears_with}
use Rattle.xsi_calls.proofs.StepLemmas.{asked}
use Rattle.xsi_calls.specs.Stages.{Stage, Undecided, Paying, Releasing}
use Rattle.xsi_calls.specs.Words.{Blocked, Call, Caller, Ended, Fault, Moved, PoolState, Progress, RecordKey, Table, Trials, UndecidedCall, store_of, undecided_left}
use Rattle.xsi_calls.specs.Machine.{CallView, IsReading, STEPS_FROM_DECIDE, call_locks, is_undecided, locks_at}
use Rattle.xsi_calls.specs.Undecided.{locks_in, undecided_locks}
use Rattle.xsi_calls.specs.UndecidedWords.{QuestionsView, is_done, questions_locks}
use Rattle.xsi_calls.specs.QuestionSteps.{MakesQuestions}
use Rattle.xsi_calls.specs.CallSteps.{MakesCall, is_end}
use Rattle.xsi_calls.specs.UndecidedSteps.{MakesUndecided}

abbrev pub asking : Caller → Call → UndecidedCall → CallView
asking caller call u = record { caller = caller; call = call; undecided = u; stage = Undecided }

untried_there : (o : Option Trials) → IsReading o Undecided → o ≡ None
untried_there None reading = refl
untried_there (Some t) reading = absurd reading

pub goes_on : (hash : RecordKey → ℕ) (seat : ℕ) (stopped : Bool) (caller : Caller) (call : Call)
    (u u' : UndecidedCall) (did : Progress FileFault) (pool pool' : PoolState) (locks locks' : Table) →
    (did ≡ Ended → ⊥) → MakesUndecided hash seat call did u u' pool pool' locks locks' →
    MakesCall hash seat stopped did (asking caller call u) (asking caller call u') pool pool' locks locks'
goes_on hash seat stopped caller call u u' did pool pool' locks locks' more made = record {
  writes = made.writes;
  cause = made.cause;
  aim = record {
    caller = refl;
    call = refl;
    most = made.aim.most;
    decides = λ none some. absurd cc;
    can_decide = λ undecided fine. (λ some. absurd cc, λ can. absurd (more (made.aim.ended.1 can)));
    stays = λ c is. absurd cc;
    bytes = λ some. absurd cc;
    ended = (λ e. absurd (more e), λ over. absurd over);
    over = λ e. absurd (more e);
    stage = tt;
    finds = made.aim.finds;
  };
  row = made.row;
  progress = λ s records change is mark.
      nears_with did (undecided_left call u (store_of pool.images)) (undecided_left call u' (store_of pool'.images))
      STEPS_FROM_DECIDE STEPS_FROM_DECIDE pool pool' (omega arith) (made.progress s records change is);
  step = λ s records change is mark fine.
      let on = made.step s records change is fine in record {
        step = on.step;
        after = on.after;
        still = on.still;
        reads = λ reading. on.reads (untried_there u'.trials reading);
        elsewhere = on.elsewhere;
        leaves = tt;
        owed = λ same key. on.owed key;
        counter = λ same owed. absurd (true≢false (sym owed ∙ undecided_none hash seat call s u'.questions u'.trials
            on.after pool' locks' on.step.after on.behind));
        concludes = λ none c is_so. absurd cc;
        behind = on.behind;
        full = on.full;
      };
  turns_away = λ s records change is mark fine. tt;
}

-- ---- from its place

pub not_end : (did : Progress FileFault) → is_end did ≡ false → did ≡ Ended → ⊥
not_end did more e = true≢false (sym (ap is_end e) ∙ more)

pub at_end : (did : Progress FileFault) → is_end did ≡ true → did ≡ Ended
at_end (Moved kind) is = absurd cc
at_end (Blocked other) is = absurd cc
at_end (Fault fault) is = absurd cc
at_end Ended is = refl

pub at_undecided : (stage : Stage) → is_undecided stage ≡ true → stage ≡ Undecided
at_undecided Undecided is = refl
at_undecided (Paying v conclusion) is = absurd cc
at_undecided (Releasing conclusion) is = absurd cc

abbrev pub with_stage : Caller → Call → UndecidedCall → Stage → CallView
with_stage caller call u stage = record { caller = caller; call = call; undecided = u; stage = stage }

pub goes_from : (hash : RecordKey → ℕ) (seat : ℕ) (stopped : Bool) (caller : Caller) (call : Call)
    (u u' : UndecidedCall) (stage : Stage) (now : CallView) → with_stage caller call u stage ≡ now →
    is_undecided now.stage ≡ true → (did : Progress FileFault) (pool pool' : PoolState) (locks locks' : Table) →
    (did ≡ Ended → ⊥) → MakesUndecided hash seat call did u u' pool pool' locks locks' →
    MakesCall hash seat stopped did now (with_stage caller call u' stage) pool pool' locks locks'
goes_from hash seat stopped caller call u u' stage now view undecided did pool pool' locks locks' more made =
    subst (λ (m : CallView). MakesCall hash seat stopped did m (with_stage caller call u' stage) pool pool' locks
    locks') view
    (subst (λ (x : Stage). MakesCall hash seat stopped did (with_stage caller call u x) (with_stage caller call u' x)
    pool pool' locks locks') (sym there)
    (goes_on hash seat stopped caller call u u' did pool pool' locks locks' more made))
  where
    there : stage ≡ Undecided
    there = at_undecided stage (subst (λ (m : CallView). is_undecided m.stage ≡ true) (sym view) undecided)

-- ---- while nothing is inserted on trial

-- the row of its seat is that of what it asks or tries
pub undecided_row : (caller : Caller) (call : Call) (u : UndecidedCall) (stage : Stage)
    (now : CallView) → with_stage caller call u stage ≡ now → is_undecided now.stage ≡ true →
    call_locks now ≡ undecided_locks u
undecided_row caller call u stage now view undecided =
    sym (ap call_locks view)
    ∙ ap (locks_at u) (at_undecided stage
    (subst (λ (m : CallView). is_undecided m.stage ≡ true) (sym view) undecided))

-- that of its questions
pub asks_row : (caller : Caller) (call : Call) (u : UndecidedCall) (stage : Stage)
    (now : CallView) → with_stage caller call u stage ≡ now → is_undecided now.stage ≡ true →
    u.trials ≡ None → call_locks now ≡ questions_locks u.questions
asks_row caller call u stage now view undecided none =
    undecided_row caller call u stage now view undecided ∙ ap (locks_in u.questions) none

-- a question makes its step
pub asked_from : (hash : RecordKey → ℕ) (seat : ℕ) (stopped : Bool) (caller : Caller)
    (call : Call) (u : UndecidedCall) (q : QuestionsView) (stage : Stage) (now : CallView) →
    with_stage caller call u stage ≡ now → is_undecided now.stage ≡ true →
    (did : Progress FileFault) (pool pool' : PoolState) (locks locks' : Table) →
    (u.trials ≡ None) × (is_done call u.questions ≡ false) →
    MakesQuestions hash seat call did u.questions q pool pool' locks locks' →
    MakesCall hash seat stopped did now
    (with_stage caller call (record { questions = q; trials = u.trials }) stage) pool pool' locks
    locks'
asked_from hash seat stopped caller call u q stage now view undecided did pool pool' t t' asks m =
    goes_from hash seat stopped caller call u (record { questions = q; trials = u.trials }) stage
    now view undecided did pool pool' t t' (λ e. true≢false (sym (m.aim.ended.0 e) ∙ asks.1))
    (subst (λ (o : Option Trials). MakesUndecided hash seat call did
    (record { questions = u.questions; trials = o }) (record { questions = q; trials = o }) pool
    pool' t t') (sym asks.0) (asked hash seat call u.questions pool t asks.1 did q pool' t' m))
