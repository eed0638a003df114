-- A step of a call up to its Decide: a question, the end, or a trial.
use Rattle.std.proofs.Common.{◌≡◌, ◌≢◌, refl, sym, ap, ◌∙◌, subst, ℕ, ◌+◌, ◌≤◌, Bool, true, false, List, length, Option, Some, None, if◌then◌else◌, arith}
use Rattle.std.proofs.lemmas.Bool.{true≢false}
use Rattle.std.specs.Option.{is_some}
use Rattle.std.specs.Prelude.{option_map, slice_get}
use Rattle.page_locks.proofs.ChangeLemmas.{with_row-own}
use Rattle.page_locks.proofs.TableLemmas.{row_of-same}
use Rattle.xsi_calls.proofs.of_step_rules.LockStepLemmas.{KeepsOthers-same}
use Rattle.xsi_inquiry.specs.declared.write.TheConstants.{MAX_TRIALS}
use Rattle.call_writes.specs.declared.deed.Deed.TheVariants as deeds
use Rattle.call_writes.specs.declared.writes.CallWrites.{CallWrites}
use Rattle.xsi_calls.specs.Undecided.{Trials, UndecidedCall, TRIAL_STEPS, its_plan, undecided_facts, undecided_turn, untried}
use Rattle.xsi_calls.proofs.UndecidedNames.{Carries, Question, WalksTo, facts_of, FileFault, few_of, times_most, writes_none}
use Rattle.xsi_calls.specs.UndecidedWords.{AreNames, Call, Change, Decision, Ended, Fault, IsReady, IsSeat, Lock, MOST_STEPS, NearsOrSpares, Plan, PoolState, Progress, QuestionsView, Record, RecordKey, Records, State, Step, Store, Table, finds_behind, is_done, is_fault, nothing, questions_facts, questions_left, questions_locks, questions_turn, row_of, store_of, with_row, world, writes_left_in, writes_locks, writes_turn}
use Rattle.xsi_calls.specs.QuestionWords.{Moved, Blocked}
use Rattle.xsi_calls.specs.Knowing.{IsAsking, IsDecision, IsTrying}
use Rattle.xsi_calls.specs.UndecidedSteps.{GoesOn, MakesUndecided}
use Rattle.call_writes.specs.MakeSteps.{MakesWrites}
use Rattle.xsi_calls.specs.QuestionSteps.{MakesQuestions}
use Rattle.xsi_calls.proofs.ReadyLemmas.{begins_trying, no_question}
use Rattle.xsi_calls.proofs.TryLemmas.{elsewhere_of, stand_on, stays_on}

-- ---- steps that are left

nears_more : (did : Progress FileFault) (left more left' : ℕ) (pool pool' : PoolState) → left ≤ more →
    NearsOrSpares did left left' pool pool' → NearsOrSpares did more left' pool pool'
nears_more (Moved kind) left more left' pool pool' less near = omega (arith, less, near)
nears_more (Blocked other) left more left' pool pool' less near = tt
nears_more (Fault fault) left more left' pool pool' less near = near
nears_more Ended left more left' pool pool' less near = tt

nears_with : (did : Progress FileFault) (left left' more : ℕ) (pool pool' : PoolState) →
    NearsOrSpares did left left' pool pool' → NearsOrSpares did (left + more) (left' + more) pool pool'
nears_with (Moved kind) left left' more pool pool' near = omega (arith, near)
nears_with (Blocked other) left left' more pool pool' near = tt
nears_with (Fault fault) left left' more pool pool' near = near
nears_with Ended left left' more pool pool' near = tt

module _ (hash : RecordKey → ℕ) (seat : ℕ) (call : Call) (q : QuestionsView) (pool : PoolState) (locks : Table) where
  abbrev pub asking : UndecidedCall
  asking = record { questions = q; trials = None }

  abbrev pub trying : Trials → UndecidedCall
  trying t = record { questions = q; trials = Some t }

  abbrev p : Plan
  p = its_plan call q

  -- ---- a question

  module _ (asks : is_done call q ≡ false) (did : Progress FileFault) (q' : QuestionsView) (pool' : PoolState)
      (locks' : Table) (made : MakesQuestions hash seat call did q q' pool pool' locks locks') where
    abbrev asked_on : UndecidedCall
    asked_on = record { questions = q'; trials = None }

    -- it is no end
    goes_on : did ≡ Ended → ⊥
    goes_on e = true≢false (sym (made.aim.ended.0 e) ∙ asks)

    pub asked : MakesUndecided hash seat call did asking asked_on pool pool' locks locks'
    asked = record {
      writes = made.writes;
      cause = made.cause;
      aim = record {
        caller = made.aim.caller;
        ended = (λ e. absurd (goes_on e), λ can. absurd (true≢false (sym can.0 ∙ asks)));
        rests = λ e. absurd (goes_on e);
        most = made.aim.most;
        calm = λ calm. tt;
        finds = made.aim.finds;
      };
      row = made.row;
      progress = λ s records change a.
          nears_with did (questions_left call q (store_of pool.images)) (questions_left call q' (store_of pool'.images))
          TRIAL_STEPS pool pool' (made.progress s change a.faces);
      step = λ s records change a fine. record {
        step = subst (λ (b : Bool). Step hash seat (if b then writes_turn hash p untried (store_of pool.images)
            else questions_turn call q (store_of pool.images)) did (questions_facts q') pool pool' locks locks' change)
            (sym asks) (made.step s change a.faces fine);
        after = records;
        still = λ unwritten. refl;
        reads = λ none. (made.means s change a.faces fine).reads;
        elsewhere = λ key free. refl;
        owed = λ key. refl;
        behind = record {
          right = (made.means s change a.faces fine).right;
          knows =
              (made.means s change a.faces fine).knows;
        };
        full = λ before full. absurd (true≢false (sym full));
      };
    }

  -- ---- all is asked

  own_row : row_of locks seat ≡ questions_locks q → locks ≡ with_row locks seat (questions_locks q)
  own_row row = sym (with_row-own locks seat) ∙ ap (with_row locks seat) row

  -- and nothing is inserted on trial
  pub rests : IsReady pool → row_of locks seat ≡ questions_locks q → is_done call q ≡ true →
      slice_get p.trials 0 ≡ None → MakesUndecided hash seat call Ended asking asking pool pool locks locks
  rests ready row done none = record {
    writes = writes_none pool ready;
    cause = λ fault is. absurd cc;
    aim = record {
      caller = refl;
      ended = (λ e. (done, none), λ can. refl);
      rests = λ e. refl;
      most = refl;
      calm = λ calm. calm;
      finds = refl;
    };
    row = own_row row;
    progress = λ s records change a. tt;
    step = λ s records change a fine. record {
      step = record {
        after = change;
        file = a.faces.sees.file;
        others = KeepsOthers-same hash seat (world pool.images locks change) (world pool.images locks change)
            a.faces.sees.sound refl;
        known = a.faces.sees.known;
        does = refl;
        led = subst (λ (o : Option Question). WalksTo {F = FileFault} seat
            (undecided_turn hash call asking (store_of pool.images)).ask Ended (world pool.images locks change)
            (world pool.images locks change) (facts_of o)) (sym (no_question call q done)) tt;
      };
      after = records;
      still = λ unwritten. refl;
      reads = λ none. refl;
      elsewhere = λ key free. refl;
      owed = λ key. refl;
      behind = record { right = a.faces.right; knows = a.faces.knows };
      full = λ before full. absurd (true≢false (sym full));
    };
  }

  not_over : (r : Record) → slice_get p.trials 0 ≡ Some r → slice_get p.trials 0 ≡ None → ⊥
  not_over r some none = let never : Some r ≡ None = sym some ∙ none in cc

  -- ---- the first trial begins

  abbrev pub fresh : Decision → Trials
  fresh decision = record { writes = untried; decision = decision }

  few_trials : (s : Store) → writes_left_in p untried s ≤ questions_left call q s + TRIAL_STEPS
  few_trials s =
      let few = times_most (length p.trials) MAX_TRIALS MOST_STEPS (few_of call q.inquiry).trials in
      omega (arith, few)

  pub begun : AreNames q.names → is_done call q ≡ true → (r : Record) → slice_get p.trials 0 ≡ Some r →
      (decision : Decision) → IsDecision call q decision → (did : Progress FileFault) (new : UndecidedCall)
      (pool' : PoolState) (locks' : Table) →
      MakesUndecided hash seat call did (trying (fresh decision)) new pool pool' locks locks' →
      MakesUndecided hash seat call did asking new pool pool' locks locks'
  begun names done r some decision decides did new pool' locks' made = record {
    writes = made.writes;
    cause = made.cause;
    aim = record {
      caller = made.aim.caller;
      ended = (λ e. absurd (ended_not e), λ can. absurd (not_over r some can.1));
      rests = λ e. absurd (ended_not e);
      most = made.aim.most;
      calm = λ calm. made.aim.calm (no_question call q done);
      finds = made.aim.finds;
    };
    row = made.row;
    progress = λ s records change a.
        nears_more did (writes_left_in p untried (store_of pool.images)) _ _ pool pool'
        (few_trials (store_of pool.images)) (made.progress s records change (starts s records change a));
    step = λ s records change a fine.
        let on = made.step s records change (starts s records change a) fine in
        record {
          step = subst (λ (b : Bool). Step hash seat (if b then writes_turn hash p untried (store_of pool.images)
              else questions_turn call q (store_of pool.images)) did (undecided_facts new) pool pool' locks locks'
              change) (sym done)
              on.step;
          after = on.after;
          still = on.still;
          reads = on.reads;
          elsewhere = on.elsewhere;
          owed = on.owed;
          behind = on.behind;
          full = on.full;
        };
  }
    where
      ended_not : did ≡ Ended → ⊥
      ended_not e =
          let last = (made.aim.ended.0 e).last in
          first_not (slice_get p.trials 0) some last
        where
          first_not : (o : Option Record) → o ≡ Some r → option_map deeds.Trial o ≡ None → ⊥
          first_not None is last = cc
          first_not (Some x) is last = cc

      planned : p ≢ nothing
      planned none = not_over r some (ap (λ (x : Plan). slice_get x.trials 0) none)

      starts : (s : State) (records : Records) (change : Change) →
          IsAsking hash seat call s q records pool locks change →
          IsTrying hash seat call s q (fresh decision) records pool locks change
      starts s records change a = begins_trying hash seat call s q records pool locks change a decision decides names
          done planned (ap is_some some)

  -- ---- a trial

  module _ (t : Trials) (names : AreNames q.names) (row : row_of locks seat ≡ writes_locks t.writes q.names)
      (did : Progress FileFault) (w : CallWrites) (pool' : PoolState) (locks' : Table)
      (made : MakesWrites hash seat p did t.writes w pool pool' locks locks') (seated : IsSeat locks seat)
      (searches : ℕ) (counts : searches ≡ finds_behind did (row_of locks' seat) q.finds) where
    abbrev t' : Trials
    t' = record { writes = w; decision = t.decision }

    -- with so many searches
    abbrev q' : QuestionsView
    q' = record q { finds = searches }

    abbrev tried_on : UndecidedCall
    tried_on = record { questions = q'; trials = Some t' }

    row_now : locks' ≡ with_row locks seat (writes_locks w q.names)
    row_now = made.row q.names names.no_file row

    counted : searches ≡ finds_behind did (writes_locks w q.names) q.finds
    counted = counts ∙ ap (λ (ls : List Lock). finds_behind did ls q.finds)
        (ap (λ (x : Table). row_of x seat) row_now ∙ row_of-same locks seat (writes_locks w q.names) seated)

    rests_at_end : did ≡ Ended → tried_on ≡ trying t
    rests_at_end e =
        let same : searches ≡ q.finds =
        counts ∙ ap (λ (d : Progress FileFault). finds_behind d (row_of locks' seat) q.finds) e in
        λ n. record {
          questions = record q { finds = same n };
          trials = Some (record { writes = made.aim.rests e n; decision = t.decision });
        }

    module _ (s : State) (records : Records) (change : Change)
        (is : IsTrying hash seat call s q t records pool locks change) (fine : is_fault did ≡ false) where
      on : Carries hash seat q.names p did t.writes w records pool pool' locks locks' change
      on = made.step q.names records change is.carries fine

      tries_on : IsTrying hash seat call s q' t' on.after pool' locks' on.step.after
      tries_on = record {
        asked = is.asked;
        rests = is.rests;
        inserts = is.inserts;
        filed = is.filed;
        knows = is.knows;
        decision = is.decision;
        changes = is.changes;
        names = is.names;
        carries = on.carries;
        on_trial = stays_on p did t.writes.due w.due made.aim.due is.on_trial;
        alike = stand_on p is.carries.small _ _ records on.after did t.writes.due w.due is.on_trial is.carries.can
            on.carries.can made.aim.due on.leaves is.alike;
      }

      steps : GoesOn hash seat call s did (trying t) tried_on records pool pool' locks locks' change
      steps = record {
        step = on.step;
        after = on.after;
        still = on.still;
        reads = λ none. absurd cc;
        elsewhere = elsewhere_of p t.writes.due w.due records on.after is.carries.own on.leaves;
        owed = on.owed;
        behind = tries_on;
        full = on.full;
      }

    pub tried : MakesUndecided hash seat call did (trying t) tried_on pool pool' locks locks'
    tried = record {
      writes = made.writes;
      cause = made.cause;
      aim = record {
        caller = refl;
        ended = made.aim.ended;
        rests = rests_at_end;
        most = refl;
        calm = λ calm. calm;
        finds = counted;
      };
      row = row_now;
      progress = λ s records change is. made.progress q.names records change is.carries;
      step = λ s records change is fine. steps s records change is fine;
    }

  -- of a plan that is that of its inquiry
  pub tried_with : (x : Plan) → x ≡ p → (t : Trials) → AreNames q.names →
      row_of locks seat ≡ writes_locks t.writes q.names → (did : Progress FileFault) (w : CallWrites)
      (pool' : PoolState) (locks' : Table) → MakesWrites hash seat x did t.writes w pool pool' locks locks' →
      IsSeat locks seat → (searches : ℕ) → searches ≡ finds_behind did (row_of locks' seat) q.finds →
      MakesUndecided hash seat call did (trying t) (record {
        questions = record q { finds = searches };
        trials = Some (record { writes = w; decision = t.decision });
      }) pool pool' locks locks'
  tried_with x same t names row did w pool' locks' made seated searches counts =
      tried t names row did w pool' locks' (subst (λ (y : Plan). MakesWrites hash seat y did t.writes w pool pool'
      locks locks') same made) seated searches counts
