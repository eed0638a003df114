-- A step by which a name is given back.
use Rattle.std.proofs.Common.{◌≡◌, refl, sym, ap, ◌∙◌, subst, ℕ, suc, ◌++◌, false, List, [], ◌∷◌, length, None, arith}
use Rattle.std.proofs.lemmas.Bool.{true≢false}
use Rattle.xsi_calls.proofs.Names.{FileFault, GivesBack, given_back, MakesNameStep, row_of-same, writes_none}
use Rattle.step_rules.specs.declared.kind.Kind.{Kind}
use Rattle.xsi_calls.specs.declared.conclusion.Conclusion.{Conclusion}
use Rattle.xsi_calls.specs.Stages.{Stage, Undecided, Paying, Releasing}
use Rattle.xsi_calls.specs.Words.{AreNamesOf, Blocked, Call, Caller, Change, Ended, Fault, IsSeat, Lock, Moved, NearsOrSpares, PoolState, Progress, RecordKey, Records, State, Table, UndecidedCall, is_fault, is_write, row_of, with_row}
use Rattle.xsi_calls.specs.Machine.{CallView, call_locks, is_paying, is_undecided, locks_at}
use Rattle.xsi_calls.specs.Calling.{IsReleasing}
use Rattle.xsi_calls.specs.CallSteps.{MakesRelease, StepsCall}

one_more : {X : Type 0} (xs : List X) (x : X) → length (xs ++ x ∷ []) ≡ suc (length xs)
one_more [] x = refl
one_more (y ∷ ys) x = ap suc (one_more ys x)

some_there : {X : Type 0} (xs : List X) (x : X) → xs ++ x ∷ [] ≡ [] → ⊥
some_there [] x is = cc
some_there (y ∷ ys) x is = cc

module _ (seat : ℕ) (caller : Caller) (call : Call) (u : UndecidedCall) (conclusion : Conclusion)
    (locks : Table) (seated : IsSeat locks seat) (row : row_of locks seat ≡ u.questions.names) where
  abbrev names : List Lock
  names = u.questions.names

  -- with these names left
  abbrev pub left_with : List Lock → UndecidedCall
  left_with held = record u { questions = record u.questions { names = held } }

  abbrev pub releasing : UndecidedCall → CallView
  releasing v = record { caller = caller; call = call; undecided = v; stage = Releasing conclusion }

  module _ (did : Progress FileFault) (names' : List Lock) (locks' : Table) (fine : is_fault did ≡ false)
      (is_end : (did ≡ Ended → names ≡ []) × (names ≡ [] → did ≡ Ended)) (over : did ≡ Ended → names' ≡ [])
      (row' : locks' ≡ with_row locks seat names') (step : MakesNameStep seat None did locks locks')
      (reads : is_write did ≡ false)
      (near : (pool : PoolState) → NearsOrSpares did (length names) (length names') pool pool)
      (keep : AreNamesOf call names → AreNamesOf call names') where
    steps : (hash : RecordKey → ℕ) (s : State) (records : Records) (pool : PoolState) (change : Change) →
        IsReleasing hash seat call names pool locks change →
        StepsCall hash seat s did (releasing u) (releasing (left_with names')) records pool pool locks locks' change
    steps hash s records pool change is =
        let on = step hash pool change None is.sees in record {
          step = on;
          after = records;
          still = λ unwritten. refl;
          reads = λ reading. reads;
          elsewhere = λ key free. refl;
          leaves = tt;
          owed = λ same key. refl;
          counter = λ same owed. refl;
          concludes = λ none c is_so. absurd cc;
          behind = record {
            names = keep is.names;
            sees = record { honest = is.sees.honest; file = on.file; sound = on.others.sound; known = tt };
            row = ap (λ (t : Table). row_of t seat) row' ∙ row_of-same locks seat names' seated;
          };
          full = λ before full. absurd (true≢false (sym full ∙ before));
        }

    makes : MakesRelease seat did (releasing u) (releasing (left_with names')) locks locks'
    makes = record {
      fine = fine;
      makes = λ hash stopped pool ready. record {
        writes = rw fine (writes_none pool ready);
        cause = λ fault is. absurd (true≢false (sym (ap is_fault is) ∙ fine));
        aim = record {
          caller = refl;
          call = refl;
          most = refl;
          decides = λ none some. absurd cc;
          can_decide = λ undecided unfaulted. absurd cc;
          stays = λ c is. is;
          bytes = λ some. refl;
          ended = is_end;
          over = over;
          stage = tt;
          finds = refl;
        };
        row = row';
        progress = λ s records change is mark. near pool;
        step = λ s records change is mark unfaulted. steps hash s records pool change is;
        turns_away = λ s records change is mark unfaulted. tt;
      };
    }

  pub gives_back : (did : Progress FileFault) (names' : List Lock) (locks' : Table) → GivesBack did names names' →
      locks' ≡ with_row locks seat names' → MakesNameStep seat None did locks locks' →
      MakesRelease seat did (releasing u) (releasing (left_with names')) locks locks'
  gives_back (Moved kind) names' locks' gives row' step =
      let (last, is) = gives.1 in
      makes (Moved kind) names' locks' refl
      (λ e. absurd cc, λ none. absurd (some_there names' last (sym is ∙ none))) (λ e. absurd cc) row' step
      (ap (λ (k : Kind). is_write {F = FileFault} (Moved k)) gives.0)
      (λ pool. let more = ap length is ∙ one_more names' last in omega (arith, more))
      (given_back {F = FileFault} call (Moved kind) names names' gives)
  gives_back (Blocked other) names' locks' gives row' step = absurd gives
  gives_back (Fault fault) names' locks' gives row' step = absurd gives
  gives_back Ended names' locks' gives row' step =
      makes Ended names' locks' refl (λ e. gives.0, λ none. refl) (λ e. gives.1) row' step refl (λ pool. tt)
      (given_back {F = FileFault} call Ended names names' gives)

abbrev at_stage : CallView → UndecidedCall → Stage → CallView
at_stage m u stage = record { caller = m.caller; call = m.call; undecided = u; stage = stage }

-- from the place that is behind the last thing owed
pub releases : (seat : ℕ) (m : CallView) → is_undecided m.stage ≡ false → is_paying m.stage ≡ false →
    (locks : Table) → IsSeat locks seat → row_of locks seat ≡ call_locks m → (did : Progress FileFault)
    (u : UndecidedCall) (locks' : Table) → GivesBack did m.undecided.questions.names u.questions.names →
    u ≡ record m.undecided { questions = record m.undecided.questions { names = u.questions.names } } →
    locks' ≡ with_row locks seat u.questions.names → MakesNameStep seat None did locks locks' →
    MakesRelease seat did m (record m { undecided = u }) locks locks'
releases seat m decided paid locks seated row did u locks' gives others row' step =
    by m.stage decided paid row
  where
    by : (stage : Stage) → is_undecided stage ≡ false → is_paying stage ≡ false →
        row_of locks seat ≡ locks_at m.undecided stage →
        MakesRelease seat did (at_stage m m.undecided stage) (at_stage m u stage) locks locks'
    by Undecided decided paid row = absurd (true≢false decided)
    by (Paying v conclusion) decided paid row = absurd (true≢false paid)
    by (Releasing conclusion) decided paid row =
        subst (λ (v : UndecidedCall). MakesRelease seat did
        (at_stage m m.undecided (Releasing conclusion)) (at_stage m v (Releasing conclusion)) locks locks') (sym others)
        (gives_back seat m.caller m.call m.undecided conclusion locks seated row did u.questions.names locks' gives row'
        step)
