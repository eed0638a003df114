-- What a call does, by what of it is under way in its room.
use Rattle.std.proofs.Common.{◌≡◌, refl, sym, ap, ◌∙◌, subst, ℕ, Bool, true, false, Option, None, Some}
use Rattle.queue_model.specs.declared.call.Call.TheVariants as calls
use Rattle.xsi_calls.specs.declared.conclusion.Conclusion.{Conclusion}
use Rattle.xsi_calls.specs.declared.part.Part.{Part}
use Rattle.xsi_calls.specs.declared.part.Part.TheVariants as parts
use Rattle.xsi_calls.specs.declared.phase.Phase.{Phase}
use Rattle.xsi_calls.specs.declared.phase.Phase.TheVariants as phases
use Rattle.xsi_calls.specs.declared.question.Question.{Question}
use Rattle.xsi_calls.specs.declared.questions.Questions.{Questions}
use Rattle.xsi_calls.specs.declared.trials.TrialsPlace.{TrialsPlace}
use Rattle.call_writes.specs.declared.writes.CallWrites.{CallWrites}
use Rattle.xsi_calls.specs.CallSteps.{ComesTo, MakesCall, MakesRelease}
use Rattle.xsi_calls.specs.Concluding.{conclusion_by}
use Rattle.xsi_calls.specs.Deciding.{IsDecidedIn}
use Rattle.xsi_calls.specs.Machine.{CallView, call_locks, is_paying, is_searching, is_undecided, undecided_searches}
use Rattle.xsi_calls.specs.Parts.{IsOneMachine, IsToPay, asked_with, conclusion_under, decision_by, payment_under, paying, question_under, tried_by, tried_under, trials_for, undecided_with}
use Rattle.call_writes.specs.PaymentStages as stages
use Rattle.call_writes.specs.declared.due.Due.{Due}
use Rattle.xsi_calls.specs.QuestionSteps.{BeginsNext, MakesQuestions, is_blocked}
use Rattle.call_writes.specs.MakeSteps.{MakesWrites}
use Rattle.xsi_calls.specs.Questions.{has_asked, is_done, question_searches, questions_locks}
use Rattle.xsi_calls.specs.Stages.{Stage, stage_at}
use Rattle.xsi_calls.specs.Undecided.{IsCalmIn}
use Rattle.call_writes.specs.Views.{writes_search}
use Rattle.xsi_calls.specs.UndecidedSteps.{MakesUndecided}
use Rattle.xsi_calls.specs.QuestionWords.{Roomful, caller_of}
use Rattle.xsi_calls.specs.UndecidedWords.{Decision, QuestionsView}
use Rattle.xsi_calls.specs.Words.{AreNames, AsksAtOnce, Call, Caller, CanDecide, Change, Ended, HasRoom, IsSeat, IsUndecided, Plan, PoolState, Progress, RecordKey, Records, Settled, State, Table, Trials, UndecidedCall, WritesAtOnce, begun_payment, its_plan, row_of, trials_of}
use Rattle.xsi_calls.proofs.AskingLemmas.{leaves_next, makes_next}
use Rattle.xsi_calls.proofs.AtOnceLemmas.{asks_from}
use Rattle.xsi_calls.proofs.CallAtOnceLemmas.{pays_at_once, tries_from}
use Rattle.xsi_calls.proofs.GoLemmas.{asked_from, asks_row, goes_from, with_stage}
use Rattle.xsi_calls.proofs.Names.{FileFault}
use Rattle.xsi_calls.proofs.PaymentAtOnceLemmas.{payment_at_once}
use Rattle.xsi_calls.proofs.PhaseLemmas.{it_pays, paying_still, undecided_same}
use Rattle.xsi_calls.proofs.RoomLemmas.{asks_nothing, has_come_to, none_to_decide, only_paid, pays_it, tries_nothing}

abbrev pub machine : Caller → Call → Questions → Part → Phase → CallView
machine caller call q part phase =
    with_stage caller call (undecided_with call q part) (stage_at phase (payment_under part) (conclusion_under part))

-- ---- a trial that is made in one go

calm_in : (q : QuestionsView) (decision : Decision) (o : Option CallWrites) → q.question ≡ None →
    IsCalmIn q (trials_for decision o)
calm_in q decision None none = tt
calm_in q decision (Some w) none = none

-- before its Decide, whatever trial stands in its room
pub still_one : (caller : Caller) (call : Call) (q : Questions) (part : Part) (phase : Phase) →
    is_undecided (stage_at phase (payment_under part) (conclusion_under part)) ≡ true →
    IsOneMachine (machine caller call q part phase) phase part → (n : ℕ) (place : TrialsPlace) →
    IsOneMachine (machine caller call (record q { finds = n }) (parts.Writes place) phase) phase (parts.Writes place)
still_one caller call q part phases.Undecided is one n place = record {
  one = record {
    by = one.one.by;
    room = one.one.room;
    calm = calm_in (asked_with (record q { finds = n }) None) (decision_by call q.inquiry)
        (tried_by place.writes place.on_trial) refl;
  };
  pays = λ pays. absurd cc;
}
still_one caller call q part phases.Paying is one n place = absurd cc
still_one caller call q part phases.Releasing is one n place = absurd cc

-- ---- a question that makes its step

room_kept : (call : Call) (room room2 : Roomful) → room2.most ≡ room.most → HasRoom call room → HasRoom call room2
room_kept (calls.Get a) room room2 same has = tt
room_kept (calls.Send a) room room2 same has = tt
room_kept (calls.Receive a) room room2 same has = rw same has
room_kept (calls.Stat id) room room2 same has = tt
room_kept (calls.Set a) room room2 same has = tt
room_kept (calls.Remove id) room room2 same has = tt

-- before its Decide, whatever it has asked
pub asks_one : (caller : Caller) (call : Call) (q : Questions) (part : Part) (phase : Phase) →
    is_undecided (stage_at phase (payment_under part) (conclusion_under part)) ≡ true →
    IsOneMachine (machine caller call q part phase) phase part → (q2 : Questions) (part2 : Part) →
    caller_of q2.inquiry ≡ caller_of q.inquiry → q2.room.most ≡ q.room.most → tried_under part2 ≡ None →
    IsOneMachine (machine caller call q2 part2 phase) phase part2
asks_one caller call q part phases.Undecided is one q2 part2 same most none = record {
  one = record {
    by = same ∙ one.one.by;
    room = room_kept call q.room q2.room most one.one.room;
    calm = subst (λ (o : Option CallWrites). IsCalmIn (asked_with q2 (question_under part2))
        (trials_for (decision_by call q2.inquiry) o)) (sym none) tt;
  };
  pays = λ pays. absurd cc;
}
asks_one caller call q part phases.Paying is one q2 part2 same most none = absurd cc
asks_one caller call q part phases.Releasing is one q2 part2 same most none = absurd cc

-- ---- its Decide

-- what it pays from then on has the room
pub comes_to : (hash : RecordKey → ℕ) (call : Call) (stopped : Bool) (q : Questions) (part part2 : Part)
    (settled : Option Settled) (due : Due) → CanDecide call (undecided_with call q part) →
    part2 ≡ paying (begun_payment hash settled due) (conclusion_by settled) →
    due ≡ (trials_of (undecided_with call q part)).due →
    ((seat : ℕ) (s : State) (records : Records) (pool : PoolState) (locks : Table) (change : Change) →
    IsUndecided hash seat call s (undecided_with call q part) records pool locks change → s.stopped ≡ stopped →
    IsDecidedIn hash seat call s (asked_with q (question_under part)) settled (trials_of
    (undecided_with call q part)) records
    pool locks change) →
    ComesTo hash call stopped (conclusion_under part2) (undecided_with call q part) (undecided_with call q part2)
    (payment_under part2)
comes_to hash call stopped q part part2 settled due can is rests decides = record {
  settled = settled;
  decided = decides;
  questions = ap (λ (o : Option Question). asked_with q o) (ap question_under is
      ∙ asks_nothing (begun_payment hash settled due) (conclusion_by settled) ∙ sym (none_to_decide call q part can));
  untried = ap (λ (p : Part). trials_for (decision_by call q.inquiry) (tried_under p)) is
      ∙ ap (trials_for (decision_by call q.inquiry))
      (tries_nothing (begun_payment hash settled due) (conclusion_by settled));
  comes = ap conclusion_under is ∙ has_come_to hash settled due;
  pays = ap payment_under is ∙ pays_it (begun_payment hash settled due) (conclusion_by settled)
      ∙ ap (begun_payment hash settled) rests;
}

module _ (hash : RecordKey → ℕ) (seat : ℕ) (stopped : Bool) (caller : Caller) (call : Call) (q : Questions)
    (part : Part) (phase : Phase) (now : CallView) (view : machine caller call q part phase ≡ now) where
  abbrev u : UndecidedCall
  u = undecided_with call q part

  -- what it has come to
  abbrev c : Conclusion
  c = conclusion_under part

  abbrev stage : Stage
  stage = stage_at phase (payment_under part) (conclusion_under part)

  -- ---- before its Decide

  module _ (undecided : is_undecided now.stage ≡ true) where
    pub undecided_here : is_undecided (stage_at phase (payment_under part) c) ≡ true
    undecided_here = subst (λ (m : CallView). is_undecided m.stage ≡ true) (sym view) undecided

    same_stage : (part2 : Part) → stage_at phase (payment_under part) c
        ≡ stage_at phase (payment_under part2) (conclusion_under part2)
    same_stage part2 =
        undecided_same phase (payment_under part) (payment_under part2) c (conclusion_under part2) undecided_here

    pub asking_row : tried_under part ≡ None → call_locks now ≡ questions_locks (asked_with q (question_under part))
    asking_row none =
        asks_row caller call u stage now view undecided (ap (trials_for (decision_by call q.inquiry)) none)

    module _ (q2 : Questions) (part2 : Part) where
      -- a question makes its step
      pub asks_there : (tried_under part ≡ None) × (is_done call (asked_with q (question_under part)) ≡ false) →
          tried_under part2 ≡ None → (did : Progress FileFault) (pool pool' : PoolState) (locks locks' : Table) →
          MakesQuestions hash seat call did (asked_with q (question_under part))
          (asked_with q2 (question_under part2)) pool pool' locks locks' →
          MakesCall hash seat stopped did now (machine caller call q2 part2 phase) pool pool' locks locks'
      asks_there asks untried did pool pool' locks locks' made =
          subst (λ (x : Stage). MakesCall hash seat stopped did now
          (with_stage caller call (undecided_with call q2 part2) x) pool pool' locks locks') (same_stage part2)
          (subst (λ (o : Option Trials). MakesCall hash seat stopped did now (with_stage caller call
          (record { questions = asked_with q2 (question_under part2); trials = o }) stage) pool pool' locks locks')
          (none_here ∙ sym (ap (trials_for (decision_by call q2.inquiry)) untried))
          (asked_from hash seat stopped caller call u (asked_with q2 (question_under part2)) stage now view undecided
          did pool pool' locks locks' (none_here, asks.1) made))
        where
          none_here : u.trials ≡ None
          none_here = ap (trials_for (decision_by call q.inquiry)) asks.0

      -- a trial
      pub tries_there : (did : Progress FileFault) (pool pool' : PoolState) (locks locks' : Table) →
          (did ≡ Ended → ⊥) →
          MakesUndecided hash seat call did u (undecided_with call q2 part2) pool pool' locks locks' →
          MakesCall hash seat stopped did now (machine caller call q2 part2 phase) pool pool' locks locks'
      tries_there did pool pool' locks locks' more made =
          subst (λ (x : Stage). MakesCall hash seat stopped did now
          (with_stage caller call (undecided_with call q2 part2) x) pool pool' locks locks') (same_stage part2)
          (goes_from hash seat stopped caller call u (undecided_with call q2 part2) stage now view undecided did pool
          pool' locks locks' more made)

      -- a trial that is made in one go
      pub tries_at_once : (pool pool' : PoolState) (locks : Table) →
          WritesAtOnce (MakesUndecided hash seat call) undecided_searches seat u (undecided_with call q2 part2) pool
          pool' locks →
          WritesAtOnce (MakesCall hash seat stopped) is_searching seat now (machine caller call q2 part2 phase) pool
          pool' locks
      tries_at_once pool pool' locks goes =
          subst (λ (x : Stage). WritesAtOnce (MakesCall hash seat stopped) is_searching seat now
          (with_stage caller call (undecided_with call q2 part2) x) pool pool' locks) (same_stage part2)
          (tries_from hash seat stopped caller call stage now u (undecided_with call q2 part2) view undecided pool pool'
          locks goes)

    -- the question that has begun in the room makes its first step
    module _ (none : question_under part ≡ None) (untried : tried_under part ≡ None)
        (left : has_asked call (asked_with q None) ≡ false) (q1 : Questions) (part1 : Part) (question : Option Question)
        (there : part1 ≡ parts.Asks question) (same : q1 ≡ q)
        (next : BeginsNext hash call (asked_with q None) (question_under part1)) (locks locks1 : Table)
        (kept : locks1 ≡ locks) (did : Progress FileFault) (q2 : Questions) (question2 : Option Question)
        (pool pool' : PoolState) (locks' : Table) (made : MakesQuestions hash seat call did (asked_with q1 question)
        (asked_with q2 question2) pool pool' locks1 locks') where
      begins : BeginsNext hash call (asked_with q None) question
      begins = subst (λ (p : Part). BeginsNext hash call (asked_with q None) (question_under p)) there next

      asks : (tried_under part ≡ None) × (is_done call (asked_with q (question_under part)) ≡ false)
      asks = (untried, ap (λ (o : Option Question). is_done call (asked_with q o)) none ∙ left)

      pub first_there : is_blocked did ≡ false →
          MakesCall hash seat stopped did now (machine caller call q2 (parts.Asks question2) phase) pool pool' locks
          locks'
      first_there free =
          asks_there q2 (parts.Asks question2) asks refl did pool pool' locks locks'
          (makes_next hash seat call q q1 same (question_under part) none question begins locks locks1 kept did q2
          question2 pool pool' locks' made free)

      -- where another seat stood in the way it is let go
      pub blocked_there : is_blocked did ≡ true →
          MakesCall hash seat stopped did now (machine caller call q2 (parts.Asks None) phase) pool pool' locks locks'
      blocked_there blocked =
          asks_there q2 (parts.Asks None) asks refl did pool pool' locks locks'
          (leaves_next hash seat call q q1 same (question_under part) none question begins locks locks1 kept did q2
          question2 pool pool' locks' made blocked)

    -- a question that is asked in one go
    pub asks_at_once_there : (q2 : Questions) → question_under part ≡ None → tried_under part ≡ None →
        (pool : PoolState) (locks : Table) →
        AsksAtOnce (MakesQuestions hash seat call) question_searches seat (asked_with q None) (asked_with q2 None) pool
        locks → AsksAtOnce (MakesCall hash seat stopped) is_searching seat now (machine caller call q2 part phase) pool
        locks
    asks_at_once_there q2 none untried pool locks goes =
        subst (λ (o : Option Trials). AsksAtOnce (MakesCall hash seat stopped) is_searching seat now
        (with_stage caller call (record { questions = asked_with q2 (question_under part); trials = o }) stage) pool
        locks) (ap (trials_for (decision_by call q.inquiry)) untried
        ∙ sym (ap (trials_for (decision_by call q2.inquiry)) untried))
        (asks_from hash seat caller call u (asked_with q2 (question_under part)) pool locks
        (subst (λ (o : Option Question). AsksAtOnce (MakesQuestions hash seat call) question_searches seat
        (asked_with q o) (asked_with q2 o) pool locks) (sym none) goes)
        (ap (trials_for (decision_by call q.inquiry)) untried) stage now view undecided stopped)

  -- ---- while it pays

  module _ (pays : is_paying now.stage ≡ true) (one : IsOneMachine (machine caller call q part phase) phase
      part) where
    pays_here : is_paying (stage_at phase (payment_under part) c) ≡ true
    pays_here = subst (λ (m : CallView). is_paying m.stage ≡ true) (sym view) pays

    pub to_pay : IsToPay part
    to_pay = one.pays (it_pays phase (payment_under part) c pays_here)

    -- nothing else has come into its room
    same_undecided : (part2 : Part) → IsToPay part2 → undecided_with call q part ≡ undecided_with call q part2
    same_undecided part2 pays2 = only_paid call q part to_pay ∙ sym (only_paid call q part2 pays2)

    pub pays_there : (part2 : Part) → IsToPay part2 → c ≡ conclusion_under part2 → (did : Progress FileFault)
        (pool pool' : PoolState) (locks locks' : Table) → MakesCall hash seat stopped did now
        (with_stage caller call u (stage_at phase (payment_under part2) c)) pool pool' locks locks' →
        MakesCall hash seat stopped did now (machine caller call q part2 phase) pool pool' locks locks'
    pays_there part2 pays2 same did pool pool' locks locks' made =
        subst (λ (y : Conclusion). MakesCall hash seat stopped did now
        (with_stage caller call (undecided_with call q part2) (stage_at phase (payment_under part2) y)) pool pool' locks
        locks') same
        (subst (λ (x : UndecidedCall). MakesCall hash seat stopped did now
        (with_stage caller call x (stage_at phase (payment_under part2) c)) pool pool' locks locks')
        (same_undecided part2 pays2) made)

    pub releases_there : (part2 : Part) → IsToPay part2 → c ≡ conclusion_under part2 → (did : Progress FileFault)
        (m : CallView) (locks locks' : Table) →
        MakesRelease seat did (machine caller call q part2 phases.Releasing) m locks locks' →
        MakesRelease seat did (with_stage caller call u (stage_at phases.Releasing (payment_under part2) c)) m locks
        locks'
    releases_there part2 pays2 same did m locks locks' made =
        subst (λ (x : UndecidedCall). MakesRelease seat did (with_stage caller call x
        (stage_at phases.Releasing (payment_under part2) c)) m locks locks')
        (sym (same_undecided part2 pays2))
        (subst (λ (y : Conclusion). MakesRelease seat did (with_stage caller call (undecided_with call q part2)
        (stage_at phases.Releasing (payment_under part2) y)) m locks locks') (sym same) made)

    -- writes that are paid are no trials
    pub no_trials : (place : TrialsPlace) → part ≡ parts.Writes place → place.on_trial ≡ false
    no_trials place is = subst IsToPay is to_pay

    -- a write that is made in one go
    pub writes_at_once : (place : TrialsPlace) → part ≡ parts.Writes place → (w : CallWrites) →
        AreNames q.names → (x : Plan) → x ≡ its_plan call (asked_with q None) → (pool pool' : PoolState)
        (locks : Table) → IsSeat locks seat → row_of locks seat ≡ call_locks now →
        WritesAtOnce (MakesWrites hash seat x) writes_search seat place.writes w pool pool' locks →
        WritesAtOnce (MakesCall hash seat stopped) is_searching seat now (machine caller call q
        (parts.Writes (record place { writes = w })) phase) pool pool' locks
    writes_at_once place is w names x plan pool pool' locks seated row goes =
        subst (λ (y : UndecidedCall). WritesAtOnce (MakesCall hash seat stopped) is_searching seat now
        (with_stage caller call y (stage_at phase (stages.Writing w) place.conclusion)) pool pool' locks)
        (same_undecided (parts.Writes (record place { writes = w })) (no_trials place is))
        (subst (λ (y : Stage). WritesAtOnce (MakesCall hash seat stopped) is_searching seat now
        (with_stage caller call u y) pool pool' locks)
        (sym (paying_still phase (payment_under part) (stages.Writing w) c pays_here)
        ∙ ap (stage_at phase (stages.Writing w)) (ap conclusion_under is))
        (pays_at_once hash seat stopped caller call stage now u view (payment_under part) (stages.Writing w) c
        (paying_still phase (payment_under part) (payment_under part) c pays_here) names pool pool' locks seated row
        (payment_at_once hash seat (its_plan call u.questions) (payment_under part) place.writes w
        (ap payment_under is) pool pool' locks
        (subst (λ (y : Plan). WritesAtOnce (MakesWrites hash seat y) writes_search seat place.writes w pool pool' locks)
        plan goes))))
