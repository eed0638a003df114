-- A step of what a call owes, and the first name that is given back behind the last one.
use Rattle.std.proofs.Common.{◌≡◌, refl, sym, ap, ◌∙◌, subst, ℕ, ◌+◌, Bool, true, false, not, List, [], Option, None, length, arith}
use Rattle.std.proofs.lemmas.Bool.{true≢false}
use Rattle.step_rules.specs.Does.{KeepsOthers}
use Rattle.step_rules.specs.Searching.{WalksTo}
use Rattle.step_rules.specs.Turns.{TurnsAt, no_ask}
use Rattle.xsi_calls.proofs.Names.{AccessView, Deed, FileFault, facts_under, locks_under, next_deed, set_out, turn_under, nears_with, owes_nothing_at_end, row_of-same, with_row-twice}
use Rattle.call_writes.specs.PaymentStages as stages
use Rattle.xsi_calls.specs.declared.conclusion.Conclusion.{Conclusion}
use Rattle.xsi_calls.specs.declared.phase.Phase.{Phase}
use Rattle.xsi_calls.specs.Stages.{Stage, Undecided, Paying, Releasing, stage_at}
use Rattle.call_writes.specs.PaymentWords.{Work}
use Rattle.xsi_calls.specs.PaySteps.{StepsPart}
use Rattle.xsi_calls.proofs.PaymentPayLemmas.{makes_payment}
use Rattle.xsi_calls.proofs.PhaseLemmas.{paying_still}
use Rattle.xsi_calls.proofs.PlanLemmas.{plans_have_one_counter}
use Rattle.xsi_calls.proofs.CounterLemmas.{paid_counter}
use Rattle.xsi_calls.proofs.GoLemmas.{at_end, with_stage}
use Rattle.xsi_calls.specs.Words.{AreNames, Blocked, Call, Caller, Change, Ended, Fault, IsPaid, IsPaying, IsReady, IsSeat, Known, Lock, MakesPayment, Moved, NearsOrSpares, OnlyWrites, PaymentStage, Pays, Plan, PoolState, Progress, QuestionsView, RecordKey, Records, Sees, State, Store, Table, Turn, UndecidedCall, World, is_fault, its_plan, TrialLacksRoom, trials_of, payment_left, payment_locks, payment_turn, row_of, store_of, with_row, world}
use Rattle.call_writes.specs.Payments.{payment_access}
use Rattle.call_writes.specs.xsi_remove.UnderWay.{StepsUnderWay}
use Rattle.xsi_calls.specs.Machine.{CallView, call_access, call_facts, call_left, call_locks, is_paying}
use Rattle.xsi_calls.specs.Calling.{IsPayingCall, IsReleasing}
use Rattle.xsi_calls.specs.CallSteps.{KeepsStage, LeavesStage, MakesCall, MakesRelease, StepsCall, is_end}

-- ---- nothing is left to do

pub paid_locks : (p : Plan) (v : PaymentStage) (names : List Lock) → IsPaid p v → payment_locks v names ≡ names
paid_locks p (stages.Sweeping v) names paid = absurd paid
paid_locks p (stages.Writing w) names paid = ap (λ (o : Option AccessView). locks_under o names) paid.rests

paid_access : (p : Plan) (v : PaymentStage) → IsPaid p v → payment_access v ≡ None
paid_access p (stages.Sweeping v) paid = absurd paid
paid_access p (stages.Writing w) paid = paid.rests

paid_turn : (hash : RecordKey → ℕ) (p : Plan) (v : PaymentStage) (s : Store) → IsPaid p v →
    payment_turn hash p v s ≡ no_ask
paid_turn hash p (stages.Sweeping v) s paid = absurd paid
paid_turn hash p (stages.Writing w) s paid =
    ap (λ (o : Option AccessView). turn_under (set_out hash (next_deed p w.due) o) s) paid.rests
    ∙ ap (λ (d : Option Deed). turn_under (set_out hash d None) s) paid.last

paid_sees : (hash : RecordKey → ℕ) (seat : ℕ) (names : List Lock) (p : Plan) (v : PaymentStage) (records : Records)
    (pool : PoolState) (locks : Table) (change : Change) → IsPaid p v →
    IsPaying hash seat names p v records pool locks change → Sees hash seat [] pool locks change
paid_sees hash seat names p (stages.Sweeping v) records pool locks change paid is = absurd paid
paid_sees hash seat names p (stages.Writing w) records pool locks change paid is =
    subst (λ (facts : List Known). Sees hash seat facts pool locks change) (ap facts_under paid.rests) is.carries.sees

-- then the names are given back
paid_stage : {F : Type 0} (p : Plan) (did : Progress F) (v : PaymentStage) (c : Conclusion) (stage : Stage) →
    IsPaid p v → KeepsStage p did (Releasing c) stage → KeepsStage p did (Paying v c) stage
paid_stage p did v c Undecided paid keeps = absurd keeps
paid_stage p did v c (Paying v' c') paid keeps = absurd keeps
paid_stage p did v c (Releasing c') paid keeps = paid

paid_leaves : {F : Type 0} (p : Plan) (did : Progress F) (v : PaymentStage) (c : Conclusion) (stage : Stage)
    (records after : Records) → KeepsStage p did (Releasing c) stage → LeavesStage p (Paying v c) stage records after
paid_leaves p did v c Undecided records after keeps = tt
paid_leaves p did v c (Paying v' c') records after keeps = absurd keeps
paid_leaves p did v c (Releasing c') records after keeps = tt

nears_release : (did : Progress FileFault) (left names names' : ℕ) (pool pool' : PoolState) → is_fault did ≡ false →
    NearsOrSpares did names names' pool' pool' → NearsOrSpares did (left + names) names' pool pool'
nears_release (Moved kind) left names names' pool pool' fine near = omega (arith, near)
nears_release (Blocked other) left names names' pool pool' fine near = tt
nears_release (Fault fault) left names names' pool pool' fine near = absurd cc
nears_release Ended left names names' pool pool' fine near = tt

-- ---- a step

module _ (hash : RecordKey → ℕ) (seat : ℕ) (caller : Caller) (call : Call) (u : UndecidedCall)
    (conclusion : Conclusion) (ordered : AreNames u.questions.names) where
  abbrev p : Plan
  p = its_plan call u.questions

  abbrev names : List Lock
  names = u.questions.names

  abbrev pub paying : PaymentStage → CallView
  paying v = record { caller = caller; call = call; undecided = u; stage = Paying v conclusion }

  abbrev pub paid : CallView
  paid = record { caller = caller; call = call; undecided = u; stage = Releasing conclusion }

  module _ (v v' : PaymentStage) (did : Progress FileFault) (pool pool' : PoolState) (locks locks' : Table)
      (row : row_of locks seat ≡ payment_locks v names)
      (made : MakesPayment hash seat p did v v' pool pool' locks locks') where
    row_on : locks' ≡ with_row locks seat (payment_locks v' names)
    row_on = made.row names ordered.no_file row

    -- ---- it goes on

    pub pays_on : (did ≡ Ended → ⊥) → (stopped : Bool) →
        MakesCall hash seat stopped did (paying v) (paying v') pool pool' locks locks'
    pays_on more stopped = record {
      writes = made.writes;
      cause = made.cause;
      aim = record {
        caller = refl;
        call = refl;
        most = refl;
        decides = λ none some. absurd cc;
        can_decide = λ undecided fine. absurd cc;
        stays = λ c is. is;
        bytes = λ some. refl;
        ended = (λ e. absurd (more e), λ over. absurd (more (made.aim.ended.1 over.0)));
        over = λ e. absurd (more e);
        stage = made.aim.part;
        finds = refl;
      };
      row = row_on;
      progress = λ s records change is mark.
          nears_with did (payment_left p v (store_of pool.images)) (payment_left p v' (store_of pool'.images))
          (length names) (length names) pool pool' (omega arith) (made.progress names records change is.pays);
      step = λ s records change is mark fine.
          let on = made.step names records change is.pays fine in record {
            step = on.step;
            after = on.after;
            still = on.still;
            reads = λ reading. absurd reading;
            elsewhere = on.elsewhere;
            leaves = on.leaves;
            owed = λ same key. on.owed key;
            counter = λ same owed. paid_counter p v v' records on.after
                (plans_have_one_counter call u.questions.inquiry) on.leaves owed;
            concludes = λ none c is_so. absurd cc;
            behind = record { names = is.names; pays = on.pays };
            full = λ before full. absurd (true≢false (sym full ∙ before));
          };
      turns_away = λ s records change is mark fine. made.turns_away names records change is.pays fine;
    }

    -- ---- it has ended

    module _ (is : did ≡ Ended) (seated : IsSeat locks seat) where
      all_paid : IsPaid p v
      all_paid = made.aim.ended.0 is

      rests : v' ≡ v
      rests = made.aim.rests is

      row_now : locks' ≡ with_row locks seat names
      row_now = row_on ∙ ap (λ (x : PaymentStage). with_row locks seat (payment_locks x names)) rests
          ∙ ap (with_row locks seat) (paid_locks p v names all_paid)

      pub row_paid : row_of locks' seat ≡ names
      row_paid = ap (λ (t : Table). row_of t seat) row_now ∙ row_of-same locks seat names seated

      first : OnlyWrites true pool pool'
      first = subst (λ (d : Progress FileFault). OnlyWrites (not (is_fault d)) pool pool') is made.writes

      module _ (records : Records) (change : Change) (y : IsPayingCall hash seat call u v records pool locks change)
        where
          on : Pays hash seat names p did v v' records pool pool' locks locks' change
          on = made.step names records change y.pays (ap is_fault is)

          same : world pool'.images locks' on.step.after ≡ world pool.images locks change
          same = subst (λ (d : Progress FileFault). TurnsAt hash (payment_turn hash p v (store_of pool.images)) d seat
              (world pool.images locks change) (world pool'.images locks' on.step.after)) is on.step.does

          releasing : IsReleasing hash seat call names pool' locks' on.step.after
          releasing = record {
            names = y.names;
            sees = paid_sees hash seat names p v on.after pool' locks' on.step.after all_paid
                (subst (λ (x : PaymentStage). IsPaying hash seat names p x on.after pool' locks' on.step.after) rests
                on.pays);
            row = row_paid;
          }

          module _ (s : State) (did2 : Progress FileFault) (m : CallView) (locks2 : Table)
              (keeps : KeepsStage p did2 (Releasing conclusion) m.stage)
              (r : StepsCall hash seat s did2 paid m records pool' pool' locks' locks2 on.step.after) where
            both : StepsCall hash seat s did2 (paying v) m records pool pool' locks locks2 change
            both = record {
              step = record {
                after = r.step.after;
                file = r.step.file;
                others = subst (λ (w : World). KeepsOthers hash seat w (world pool'.images locks2 r.step.after)) same
                    r.step.others;
                known = r.step.known;
                does = subst (λ (t : Turn). TurnsAt hash t did2 seat (world pool.images locks change)
                    (world pool'.images locks2 r.step.after))
                    (sym (paid_turn hash p v (store_of pool.images) all_paid))
                    (subst (λ (w : World). TurnsAt hash no_ask did2 seat w (world pool'.images locks2 r.step.after))
                    same r.step.does);
                led = subst (λ (t : Turn). WalksTo seat t.ask did2 (world pool.images locks change)
                    (world pool'.images locks2 r.step.after) (call_facts m))
                    (sym (paid_turn hash p v (store_of pool.images) all_paid))
                    (subst (λ (w : World). WalksTo seat None did2 w (world pool'.images locks2 r.step.after)
                    (call_facts m)) same r.step.led);
              };
              after = r.after;
              still = r.still;
              reads = r.reads;
              elsewhere = r.elsewhere;
              leaves = paid_leaves p did2 v conclusion m.stage records r.after keeps;
              owed = λ kept key. r.owed kept key
                  ∙ sym (owes_nothing_at_end hash seat names p v records pool locks change y.pays all_paid key);
              counter = r.counter;
              concludes = λ none c is_so. absurd cc;
              behind = r.behind;
              full = λ before full. subst (λ (w : World). TrialLacksRoom hash p (trials_of u).due
                  (world pool'.images locks2 w.change)) same (r.full before full);
            }

      pub then_released : (did2 : Progress FileFault) (m : CallView) (locks2 : Table) →
          MakesRelease seat did2 paid m locks' locks2 → (stopped : Bool) →
          MakesCall hash seat stopped did2 (paying v) m pool pool' locks locks2
      then_released did2 m locks2 released stopped =
          let r = released.makes hash stopped pool' first.ready in record {
            writes = record {
              ready = first.ready;
              honest = first.honest;
              later = first.later;
              stored = first.stored;
              as_many = first.as_many;
              file = λ honest done file. first.file honest refl file;
            };
            cause = λ fault is. absurd (true≢false (sym (ap is_fault is) ∙ released.fine));
            aim = record {
              caller = r.aim.caller;
              call = r.aim.call;
              most = r.aim.most;
              decides = λ none some. absurd cc;
              can_decide = λ undecided fine. absurd cc;
              stays = r.aim.stays;
              bytes = r.aim.bytes;
              ended = (λ e. (all_paid, r.aim.ended.0 e), λ over. r.aim.ended.1 over.1);
              over = r.aim.over;
              stage = paid_stage p did2 v conclusion m.stage all_paid r.aim.stage;
              finds = r.aim.finds;
            };
            row = r.row ∙ ap (λ (t : Table). with_row t seat (call_locks m)) row_now
                ∙ with_row-twice locks seat names (call_locks m);
            progress = λ s records change y mark.
                nears_release did2 (payment_left p v (store_of pool.images)) (length names)
                (call_left m (store_of pool'.images)) pool pool' released.fine
                (r.progress s records (on records change y).step.after (releasing records change y) mark);
            step = λ s records change y mark fine.
                both records change y s did2 m locks2 r.aim.stage
                (r.step s records (on records change y).step.after (releasing records change y) mark fine);
            turns_away = λ s records change y mark fine.
                subst (λ (o : Option AccessView). StepsUnderWay hash seat did2 o (call_access m) pool pool' locks locks2
                change) (sym (paid_access p v all_paid)) tt;
          }

-- ---- from its place, by a step of the part under way

module _ (hash : RecordKey → ℕ) (seat : ℕ) (caller : Caller) (call : Call) (u : UndecidedCall)
    (phase : Phase) (v : PaymentStage) (conclusion : Conclusion) (now : CallView)
    (view : with_stage caller call u (stage_at phase v conclusion) ≡ now)
    (pays : is_paying now.stage ≡ true) (q : QuestionsView) (lent : q ≡ u.questions)
    (names : AreNames q.names) (x : Plan) (plan : x ≡ its_plan call u.questions)
    (v' : PaymentStage) (did : Progress FileFault) (pool pool' : PoolState) (locks locks' : Table)
    (seated : IsSeat locks seat) (ready : IsReady pool) (row : row_of locks seat ≡ call_locks now)
    (part : StepsPart hash seat x did v v' pool pool' locks locks') where
  ordered : AreNames u.questions.names
  ordered = subst (λ (y : QuestionsView). AreNames y.names) lent names

  its_place : is_paying (stage_at phase v conclusion) ≡ true
  its_place = subst (λ (m : CallView). is_paying m.stage ≡ true) (sym view) pays

  sees_now : with_stage caller call u (Paying v conclusion) ≡ now
  sees_now =
      ap (with_stage caller call u) (sym (paying_still phase v v conclusion its_place)) ∙ view

  row_here : row_of locks seat ≡ payment_locks v u.questions.names
  row_here = subst (λ (m : CallView). row_of locks seat ≡ call_locks m) (sym sees_now) row

  made : MakesPayment hash seat (its_plan call u.questions) did v v' pool pool' locks locks'
  made =
      subst (λ (y : Plan). MakesPayment hash seat y did v v' pool pool' locks locks') plan
      (makes_payment hash seat x did v v' pool pool' locks locks' seated ready part)

  pub pays_from : (did ≡ Ended → ⊥) → (stopped : Bool) →
      MakesCall hash seat stopped did now (with_stage caller call u (stage_at phase v' conclusion))
      pool pool' locks locks'
  pays_from more stopped =
      subst (λ (y : Stage). MakesCall hash seat stopped did now (with_stage caller call u y) pool
      pool' locks locks') (sym (paying_still phase v v' conclusion its_place))
      (subst (λ (m : CallView). MakesCall hash seat stopped did m
      (with_stage caller call u (Paying v' conclusion)) pool pool' locks locks') sees_now
      (pays_on hash seat caller call u conclusion ordered v v' did pool pool' locks locks' row_here
      made more stopped))

  -- while it sweeps it has not ended
  pub sweeps_from : (sweep : Option Work) → v ≡ stages.Sweeping sweep → (stopped : Bool) →
      MakesCall hash seat stopped did now (with_stage caller call u (stage_at phase v' conclusion))
      pool pool' locks locks'
  sweeps_from sweep is =
      pays_from (λ e. subst (IsPaid (its_plan call u.questions)) is (made.aim.ended.0 e))

  pub released_from : is_end did ≡ true → (ended : Stage) → ended ≡ Releasing conclusion →
      (did2 : Progress FileFault) (m : CallView) (locks2 : Table) →
      MakesRelease seat did2 (with_stage caller call u ended) m locks' locks2 →
      (stopped : Bool) → MakesCall hash seat stopped did2 now m pool pool' locks locks2
  released_from is ended is_paid did2 m locks2 released stopped =
      subst (λ (old : CallView). MakesCall hash seat stopped did2 old m pool pool' locks locks2)
      sees_now
      (then_released hash seat caller call u conclusion ordered v v' did pool pool' locks locks'
      row_here made (at_end did is) seated did2 m locks2
      (subst (λ (y : Stage). MakesRelease seat did2 (with_stage caller call u y) m locks' locks2)
      is_paid released) stopped)
