-- A call is decided to wait only where the rules have no answer to it, and that stays so of the journal as it then
-- stood.
use Rattle.std.proofs.Common.{ℕ, ◌≡◌, ◌≢◌, ◌≤◌, ◌⊎◌, inl, inr, refl, sym, ap, ◌∙◌, subst, Bool, true, false, IsSome, List, ◌++◌, Option, Some, None, length, length-append, take, arith}
use Rattle.std.specs.Prelude.{⊤}
use Rattle.std.proofs.lemmas.List.{take-append-le}
use Rattle.std.proofs.Math.Seq.{take-append_seam}
use Rattle.step_rules.specs.declared.kind.Kind.TheVariants.{Decide}
use Rattle.step_rules.specs.declared.progress.Progress.TheVariants as progress
use Rattle.interleaving_core.proofs.AnewLemmas.{begins_from, ends_waiting, waits_from}
use Rattle.interleaving_core.specs.Active.{BeginsAgain, decided_by, entries_by, is_waiting}
use Rattle.interleaving_core.specs.Turn.{IsLeft, IsLeftWhenOver, MakesTurn, StaysWaiting, TakesTurn, TurnsAnew, told_of, told_when_over}
use Rattle.interleaving_core.specs.Waiting.{stays_waiting}
use Rattle.interleaving_core.specs.xsi_calls.Machine.{IsNew, conclusion_at}
use Rattle.interleaving_core.specs.xsi_calls.Stages.{Stage}
use Rattle.interleaving_core.specs.xsi_calls.Words.{Change}
use Rattle.interleaving_core.specs.xsi_calls.declared.conclusion.Conclusion.{Conclusion}
use Rattle.interleaving_core.specs.xsi_calls.declared.conclusion.Conclusion.TheVariants as conclusions
use Rattle.interleaving_core.specs.declared.step.Step.TheVariants as told
use Rattle.interleavings.specs.Words.{ActiveView, Call, CallView, Caller, Entry, FileFault, IsOver, KernelState, PoolState, Progress, RecordKey, State, Step, Table, after, answer_of_call, call_at, conclusion_of, outcome}
use Rattle.interleavings.specs.Doing.{DoesAsTold, DoesBy}
use Rattle.interleavings.proofs.SeatNameLemmas.{none_is}

-- ---- what is so of a call

-- it was decided to wait, and may have begun anew since
abbrev WasPutOff : ActiveView → Type 0
WasPutOff a = (conclusion_of a.machine ≡ Some conclusions.Waits) ⊎ IsSome a.wait

-- the rules have no answer in the system after the journal as it stood at its Decide
pub record IsFounded (base : State) (callers : List Caller) (journal : List Entry) (a : ActiveView) : Type 0 where
  pub within : a.decided ≤ length journal
  pub put_off : WasPutOff a →
      outcome a.machine.caller a.machine.call (after callers (take a.decided journal) base) ≡ None

abbrev pub IsFoundedAt : State → List Caller → List Entry → Option ActiveView → Type 0
IsFoundedAt base callers journal None = ⊤
IsFoundedAt base callers journal (Some a) = IsFounded base callers journal a

abbrev pub AreFounded : {K : Type 0} → State → KernelState K → Type 0
AreFounded base k = (seat : ℕ) → IsFoundedAt base k.callers k.journal (call_at k.seats seat)

pub founded_there : {K : Type 0} (base : State) (k : KernelState K) (seat : ℕ) (a : ActiveView) →
    call_at k.seats seat ≡ Some a → IsFoundedAt base k.callers k.journal (call_at k.seats seat) →
    IsFounded base k.callers k.journal a
founded_there base k seat a there founded = subst (IsFoundedAt base k.callers k.journal) there founded

pub new_undecided : (m : CallView) → IsNew m → conclusion_of m ≡ None
new_undecided m new = ap (λ (s : Stage). conclusion_at s) new.stage

pub undecided_yet : (m : CallView) → IsNew m → IsSome (conclusion_of m) → ⊥
undecided_yet m new some = none_is (conclusion_of m) (new_undecided m new) some

module _ (base : State) (callers : List Caller) where
  -- beside a journal that has grown
  still_founded : (journal added : List Entry) (a : ActiveView) → IsFounded base callers journal a →
      IsFounded base callers (journal ++ added) a
  still_founded journal added a founded = record {
    within =
        let within = founded.within in
        let long = length-append journal added in
        omega (arith, within, long);
    put_off = λ was. ap (λ (es : List Entry). outcome a.machine.caller a.machine.call (after callers es base))
        (take-append-le a.decided journal added founded.within) ∙ founded.put_off was;
  }

  pub still_founded_at : (journal added : List Entry) (at : Option ActiveView) → IsFoundedAt base callers journal at →
      IsFoundedAt base callers (journal ++ added) at
  still_founded_at journal added None founded = tt
  still_founded_at journal added (Some a) founded = still_founded journal added a founded

  -- it has looked at more of the journal
  looks_on : (journal : List Entry) (a : ActiveView) (many : ℕ) → IsSome a.wait → IsFounded base callers journal a →
      IsFounded base callers journal (record a { wait = Some many })
  looks_on journal a many some founded = record {
    within = founded.within;
    put_off = λ was. founded.put_off (inr some);
  }

-- ---- a step of its machine

module _ (hash : RecordKey → ℕ) (seat : ℕ) (stopped : Bool) (did : Step) (a : ActiveView)
    (left : Option ActiveView) (pool pool' : PoolState) (locks locks' : Table)
    (journal journal' : List Entry)
    (t : MakesTurn hash seat stopped did a left pool pool' locks locks' journal journal') where
  -- the journal stays no shorter than at the call's Decide
  pub still_decided : (IsSome (conclusion_of a.machine) → a.decided ≤ length journal) →
      t.come.decided ≤ length journal'
  still_decided before = by (conclusion_of a.machine) refl
    where
      decided_at : (c : Option Conclusion) → conclusion_of a.machine ≡ c →
          t.come.decided ≡ decided_by c (length journal) a.decided
      decided_at c is = t.marked.decided
          ∙ ap (λ (x : Option Conclusion). decided_by x (length journal) a.decided) is

      longer : length journal ≤ length journal'
      longer = let long = ap length t.journal ∙ length-append journal _ in omega (arith, long)

      by : (c : Option Conclusion) → conclusion_of a.machine ≡ c →
          t.come.decided ≤ length journal'
      by None is =
          let now : t.come.decided ≡ length journal = decided_at None is in
          omega (arith, now, longer)
      by (Some c) is =
          let now : t.come.decided ≡ a.decided = decided_at (Some c) is in
          let within = before (subst IsSome (sym is) refl) in
          omega (arith, now, within, longer)

module _ (base : State) (callers : List Caller) (hash : RecordKey → ℕ) (seat : ℕ) (stopped : Bool) (did : Step)
    (a : ActiveView) (left : Option ActiveView) (pool pool' : PoolState) (locks locks' : Table)
    (journal journal' : List Entry)
    (t : MakesTurn hash seat stopped did a left pool pool' locks locks' journal journal') where
  abbrev added : List Entry
  added = entries_by seat (answer_of_call t.come.machine) a.draft

  abbrev Unanswered : ActiveView → List Entry → Type 0
  Unanswered x es = outcome x.machine.caller x.machine.call (after callers es base) ≡ None

  same_call : (es : List Entry) → Unanswered a es → Unanswered t.come es
  same_call es none =
      subst (λ (c : Caller). outcome c t.come.machine.call (after callers es base) ≡ None) (sym t.makes.aim.caller)
      (subst (λ (c : Call). outcome a.machine.caller c (after callers es base) ≡ None) (sym t.makes.aim.call) none)

  come_founded : IsFounded base callers journal a →
      (conclusion_of a.machine ≡ None → conclusion_of t.come.machine ≡ Some conclusions.Waits →
      Unanswered a journal) → IsFounded base callers journal' t.come
  come_founded founded at_decide = record {
    within = still_decided hash seat stopped did a left pool pool' locks locks' journal journal' t
        (λ some. founded.within);
    put_off = λ was. subst (λ (es : List Entry). Unanswered t.come (take t.come.decided es))
        (sym t.journal) (was_put_off was);
  }
    where
      waits_now : (c : Option Conclusion) → conclusion_of a.machine ≡ c →
          conclusion_of t.come.machine ≡ Some conclusions.Waits →
          Unanswered t.come (take t.come.decided (journal ++ added))
      waits_now None is waits =
          let now = t.marked.decided ∙ ap (λ (c : Option Conclusion). decided_by c (length journal) a.decided) is in
          subst (Unanswered t.come) (sym (ap (λ (n : ℕ). take n (journal ++ added)) now
          ∙ take-append_seam journal added)) (same_call journal (at_decide is waits))
      waits_now (Some c) is waits =
          let now = t.marked.decided ∙ ap (λ (c : Option Conclusion). decided_by c (length journal) a.decided) is in
          subst (Unanswered t.come) (sym (ap (λ (n : ℕ). take n (journal ++ added)) now
          ∙ take-append-le a.decided journal added founded.within)) (same_call (take a.decided journal)
          (founded.put_off (inl (is ∙ sym (t.makes.aim.stays c is) ∙ waits))))

      was_put_off : WasPutOff t.come → Unanswered t.come (take t.come.decided (journal ++ added))
      was_put_off (inl waits) = waits_now (conclusion_of a.machine) refl waits
      was_put_off (inr some) = absurd (none_is t.come.wait t.marked.awake some)

  -- it is left so, unless it is over
  left_founded : did ≢ told.Waiting → IsFounded base callers journal' t.come → IsFoundedAt base callers journal' left
  left_founded awake founded = by t.did refl t.left_is
    where
      come_left : left ≡ Some t.come → IsFoundedAt base callers journal' left
      come_left is = subst (IsFoundedAt base callers journal') (sym is) founded

      over_left : (waits : Bool) → is_waiting (conclusion_of t.come.machine) ≡ waits → t.did ≡ progress.Ended →
          IsLeftWhenOver waits t.come left → IsFoundedAt base callers journal' left
      over_left true is ended there = absurd (awake (t.told_is
          ∙ ap (λ (p : Progress FileFault). told_of p t.come.machine) ended
          ∙ ap (λ (b : Bool). told_when_over b (answer_of_call t.come.machine)) is))
      over_left false is ended gone = subst (IsFoundedAt base callers journal') (sym gone) tt

      by : (p : Progress FileFault) → t.did ≡ p → IsLeft p t.come left → IsFoundedAt base callers journal' left
      by (progress.Moved kind) is there = come_left there
      by (progress.Blocked other) is there = come_left there
      by (progress.Fault fault) is there = come_left there
      by progress.Ended is there = over_left (is_waiting (conclusion_of t.come.machine)) refl is there

-- ---- a step of its seat

module _ {K : Type 0} (hash : RecordKey → ℕ) (base : State) (seat : ℕ) (a : ActiveView) (did : Step)
    (before behind : Change) (old new : KernelState K) (does : DoesAsTold hash base seat a did before behind old new)
  where
    abbrev left : Option ActiveView
    left = call_at new.seats seat

    -- the call of which its seat is told has not decided yet
    pub record IsUndecidedOf (by : ActiveView) : Type 0 where
      pub undecided : conclusion_of by.machine ≡ None
      pub caller : by.machine.caller ≡ a.machine.caller
      pub call : by.machine.call ≡ a.machine.call

    decide_apart : did ≡ told.Moved Decide → did ≢ told.Waiting
    decide_apart is waits = apart (sym is ∙ waits)
      where
        apart : told.Moved Decide ≡ told.Waiting → ⊥
        apart clash = cc

    undecided_by : did ≡ told.Moved Decide →
        (conclusion_of a.machine ≡ None) ⊎ (IsOver a.machine × (is_waiting (conclusion_of a.machine) ≡ true)) →
        IsUndecidedOf does.by
    undecided_by is at = elim does.is [
      | inl itself ↦ elim at [
        | inl none ↦ record {
          undecided = ap (λ (x : ActiveView). conclusion_of x.machine) itself.same ∙ none;
          caller = ap (λ (x : ActiveView). x.machine.caller) itself.same;
          call = ap (λ (x : ActiveView). x.machine.call) itself.same;
        }
        | inr over ↦ absurd (decide_apart is (itself.waits over.0 over.1))
      ]
      | inr woken ↦ record {
        undecided = new_undecided does.by.machine woken.begins.begins.new;
        caller = woken.begins.begins.caller_is;
        call = woken.begins.begins.call_is;
      }
    ]

    -- where its machine decides that it waits, the rules have no answer
    decided_rightly : (x : ActiveView) → x.machine.caller ≡ a.machine.caller → x.machine.call ≡ a.machine.call →
        (pool : PoolState) →
        (t : MakesTurn hash seat old.stopped did x left pool new.pool old.locks new.locks old.journal new.journal) →
        (conclusion_of a.machine ≡ None) ⊎ (IsOver a.machine × (is_waiting (conclusion_of a.machine) ≡ true)) →
        conclusion_of x.machine ≡ None → conclusion_of t.come.machine ≡ Some conclusions.Waits →
        outcome x.machine.caller x.machine.call (after old.callers old.journal base) ≡ None
    decided_rightly x caller call pool t at none waits =
        moved (subst (λ (d : Step). DoesBy hash base seat does.by d before behind old new) is does.does)
      where
        made : t.did ≡ progress.Moved Decide
        made = t.makes.aim.decides none (subst IsSome (sym waits) refl)

        is : did ≡ told.Moved Decide
        is = t.told_is ∙ ap (λ (p : Progress FileFault). told_of p t.come.machine) made

        there : left ≡ Some t.come
        there = subst (λ (p : Progress FileFault). IsLeft p t.come left) made t.left_is

        by_is : IsUndecidedOf does.by
        by_is = undecided_by is at

        moved : DoesBy hash base seat does.by (told.Moved Decide) before behind old new →
            outcome x.machine.caller x.machine.call (after old.callers old.journal base) ≡ None
        moved (come, come_there, makes) =
            let one : Some come ≡ Some t.come = sym come_there ∙ there in
            let same : come ≡ t.come = cc in
            subst (λ (c : Caller). outcome c x.machine.call (after old.callers old.journal base) ≡ None)
            (by_is.caller ∙ sym caller)
            (subst (λ (c : Call). outcome does.by.machine.caller c (after old.callers old.journal base) ≡ None)
            (by_is.call ∙ sym call) (makes.waits by_is.undecided
            (ap (λ (y : ActiveView). conclusion_of y.machine) same ∙ waits)))

    module _ (founded : IsFounded base old.callers old.journal a) where
      abbrev Left : Type 0
      Left = IsFoundedAt base old.callers new.journal left

      stays_founded : (x : ActiveView) (pool pool' : PoolState) (locks locks' : Table) →
          StaysWaiting did x left pool pool' locks locks' old.journal new.journal → IsSome x.wait →
          IsFounded base old.callers old.journal x → Left
      stays_founded x pool pool' locks locks' stays some is =
          subst (λ (es : List Entry). IsFoundedAt base old.callers es left) (sym stays.same_journal)
          (subst (IsFoundedAt base old.callers old.journal) (sym stays.left_is)
          (looks_on base old.callers old.journal x (length old.journal) some is))

      some_wait : (wait : Option ℕ) (call : Call) → stays_waiting wait call old.journal ≡ true → IsSome wait
      some_wait None call stays = absurd cc
      some_wait (Some since) call stays = refl

      made_founded : (x : ActiveView) → x.machine.caller ≡ a.machine.caller → x.machine.call ≡ a.machine.call →
          IsFounded base old.callers old.journal x → (pool : PoolState) →
          (t : MakesTurn hash seat old.stopped did x left pool new.pool old.locks new.locks old.journal new.journal) →
          did ≢ told.Waiting → ((conclusion_of x.machine ≡ None) → (conclusion_of a.machine ≡ None)
          ⊎ (IsOver a.machine × (is_waiting (conclusion_of a.machine) ≡ true))) → Left
      made_founded x caller call is pool t awake at =
          left_founded base old.callers hash seat old.stopped did x left pool new.pool old.locks new.locks old.journal
          new.journal t awake (come_founded base old.callers hash seat old.stopped did x left pool new.pool old.locks
          new.locks old.journal new.journal t is (λ none waits. decided_rightly x caller call pool t (at none) none
          waits))

      -- its call is over and begins anew
      anew_founded : TurnsAnew hash seat old.stopped did a left old.pool new.pool old.locks new.locks old.journal
          new.journal → Left
      anew_founded anew = by (stays_waiting anew.again.wait anew.again.machine.call old.journal) refl
        where
          over : IsOver a.machine
          over = (ends_waiting hash seat old.stopped a anew.again old.pool anew.between old.locks old.locks old.journal
              old.journal anew.ends).over

          waits : is_waiting (conclusion_of a.machine) ≡ true
          waits = waits_from hash seat old.stopped a anew.again old.pool anew.between old.locks old.locks old.journal
              old.journal anew.ends

          begins : BeginsAgain a anew.again
          begins = begins_from hash seat old.stopped a anew.again old.pool anew.between old.locks old.locks old.journal
              old.journal anew.ends

          put_off : (c : Option Conclusion) → is_waiting c ≡ true → c ≡ Some conclusions.Waits
          put_off None is = absurd cc
          put_off (Some (conclusions.Answers verdict)) is = absurd cc
          put_off (Some conclusions.Waits) is = refl
          put_off (Some conclusions.HasNoRoom) is = absurd cc

          again : IsFounded base old.callers old.journal anew.again
          again = record {
            within = subst (λ (n : ℕ). n ≤ length old.journal) (sym begins.decided) founded.within;
            put_off = λ was.
                subst (λ (n : ℕ). outcome anew.again.machine.caller anew.again.machine.call
                (after old.callers (take n old.journal) base) ≡ None) (sym begins.decided)
                (subst (λ (c : Caller). outcome c anew.again.machine.call
                (after old.callers (take a.decided old.journal) base) ≡ None) (sym begins.begins.caller_is)
                (subst (λ (c : Call). outcome a.machine.caller c
                (after old.callers (take a.decided old.journal) base) ≡ None) (sym begins.begins.call_is)
                (founded.put_off (inl (put_off (conclusion_of a.machine) waits)))));
          }

          by : (b : Bool) → stays_waiting anew.again.wait anew.again.machine.call old.journal ≡ b → Left
          by true stays = stays_founded anew.again anew.between new.pool old.locks new.locks (anew.waits stays)
              (some_wait anew.again.wait anew.again.machine.call stays) again
          by false woken = made_founded anew.again begins.begins.caller_is begins.begins.call_is again anew.between
              (anew.goes woken).0 (anew.goes woken).1 (λ none. inr (over, waits))

      pub takes_founded : TakesTurn hash seat old.stopped did a left old.pool new.pool old.locks new.locks old.journal
          new.journal → Left
      takes_founded takes = by (stays_waiting a.wait a.machine.call old.journal) refl
        where
          by : (b : Bool) → stays_waiting a.wait a.machine.call old.journal ≡ b → Left
          by true stays = stays_founded a old.pool new.pool old.locks new.locks (takes.waits stays)
              (some_wait a.wait a.machine.call stays) founded
          by false woken = elim (takes.goes woken) [
            | inl made ↦ made_founded a refl refl founded old.pool made.0 made.1 (λ none. inl none)
            | inr anew ↦ anew_founded anew
          ]
