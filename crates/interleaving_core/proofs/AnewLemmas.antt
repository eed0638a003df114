-- A step of a seat with a call that waits, and was woken: its machine makes two steps.
use Rattle.std.proofs.Common.{◌≡◌, refl, sym, ap, ◌∙◌, subst, ℕ, Bool, true, false, true≢false, not, inl, inr, List, [], ◌++◌, Option, Some, None, append-nil, length, arith}
use Rattle.page_locks.proofs.ChangeLemmas.{with_row-own}
use Rattle.file_pages.specs.declared.fault.FileFault.{FileFault}
use Rattle.step_rules.specs.declared.progress.Progress.TheVariants as progress
use Rattle.xsi_calls.proofs.RowLemmas.{over_holds_nothing, new_holds_nothing}
use Rattle.xsi_calls.specs.Machine.{IsOverAt, conclusion_at}
use Rattle.xsi_calls.specs.Stages.{Stage, Undecided, Paying, Releasing}
use Rattle.xsi_calls.specs.Undecided.{UndecidedCall}
use Rattle.xsi_calls.specs.declared.conclusion.Conclusion.{Conclusion}
use Rattle.interleaving_core.specs.Words.{Answer, Call, CallView, Entry, IsOver, PoolState, Progress, RecordKey, Table, answer_of_call, conclusion_of, row_of, with_row}
use Rattle.interleaving_core.specs.Active.{ActiveView, BeginsAgain, decided_by, draft_by, is_waiting, told_at_end}
use Rattle.interleaving_core.specs.Kernel.{locks_of}
use Rattle.interleaving_core.specs.Owing.{answer_told}
use Rattle.interleaving_core.specs.Past.{call_of, entry_of, untold}
use Rattle.interleaving_core.specs.Turn.{IsLeft, IsLeftWhenOver, MakesTurn, StaysWaiting, TakesTurn, Turns, TurnsAnew, told_of, told_when_over}
use Rattle.interleaving_core.specs.Waiting.{is_woken, stays_waiting}
use Rattle.interleaving_core.specs.declared.step.Step.{Step}
use Rattle.interleaving_core.specs.declared.step.Step.TheVariants as steps
use Rattle.interleaving_core.proofs.TurnLemmas.{Does, call_does, idle_does, waits_does, waits_unanswered}

-- ---- the last step of a call that waits

told_ended : (did : Progress FileFault) (m : CallView) → told_of did m ≡ steps.Waiting → did ≡ progress.Ended
told_ended (progress.Moved kind) m is = absurd cc
told_ended (progress.Blocked other) m is = absurd cc
told_ended (progress.Fault fault) m is = absurd cc
told_ended progress.Ended m is = refl

-- it was over already, and begins anew
pub record EndsWaiting (a come again : ActiveView) : Type 0 where
  pub over : IsOver a.machine
  pub begins : BeginsAgain come again

module _ (hash : RecordKey → ℕ) (seat : ℕ) (stopped : Bool) (a again : ActiveView) (pool pool' : PoolState)
    (locks locks' : Table) (journal journal' : List Entry)
    (t : MakesTurn hash seat stopped steps.Waiting a (Some again) pool pool' locks locks' journal journal') where
  has_ended : t.did ≡ progress.Ended
  has_ended = told_ended t.did t.come.machine (sym t.told_is)

  pub ends_waiting : EndsWaiting a t.come again
  ends_waiting = record {
    over = t.makes.aim.ended.0 has_ended;
    begins = by (is_waiting (conclusion_of t.come.machine))
        (subst (λ (p : Progress FileFault). IsLeft p t.come (Some again)) has_ended t.left_is);
  }
    where
      by : (waits : Bool) → IsLeftWhenOver waits t.come (Some again) → BeginsAgain t.come again
      by true (x, left, begins) =
          let same : again ≡ x = cc in
          subst (BeginsAgain t.come) (sym same) begins
      by false left = absurd (some_there left)
        where
          some_there : ◌≡◌ {A = Option ActiveView} (Some again) None → ⊥
          some_there clash = cc

  -- what it had come to stays
  concluded : conclusion_of t.come.machine ≡ conclusion_of a.machine
  concluded = by (conclusion_of a.machine) refl
    where
      apart : (call : Call) (u : UndecidedCall) (s : Stage) → IsOverAt call u s → conclusion_at s ≡ None → ⊥
      apart call u Undecided over none = over
      apart call u (Paying payment c) over none = cc
      apart call u (Releasing c) over none = cc

      by : (c : Option Conclusion) → conclusion_of a.machine ≡ c →
          conclusion_of t.come.machine ≡ conclusion_of a.machine
      by None is = absurd (apart a.machine.call a.machine.undecided a.machine.stage ends_waiting.over is)
      by (Some c) is = t.makes.aim.stays c is ∙ sym is

  waits_there : is_waiting (conclusion_of t.come.machine) ≡ true
  waits_there = by (is_waiting (conclusion_of t.come.machine)) refl
      (t.told_is ∙ ap (λ (p : Progress FileFault). told_of p t.come.machine) has_ended)
    where
      end_apart : (x : Option Answer) → steps.Waiting ≡ told_at_end x → ⊥
      end_apart None is = cc
      end_apart (Some answer) is = cc

      by : (b : Bool) → is_waiting (conclusion_of t.come.machine) ≡ b →
          steps.Waiting ≡ told_when_over (is_waiting (conclusion_of t.come.machine)) (answer_of_call t.come.machine) →
          is_waiting (conclusion_of t.come.machine) ≡ true
      by true is told = is
      by false is told = absurd (end_apart (answer_of_call t.come.machine)
          (told ∙ ap (λ (x : Bool). told_when_over x (answer_of_call t.come.machine)) is))

  pub waits_from : is_waiting (conclusion_of a.machine) ≡ true
  waits_from = ap is_waiting (sym concluded) ∙ waits_there

  some_concluded : (c : Option Conclusion) (many decided : ℕ) → is_waiting c ≡ true →
      decided_by c many decided ≡ decided
  some_concluded None many decided is = absurd cc
  some_concluded (Some c) many decided is = refl

  -- so it is the call as it was
  pub begins_from : BeginsAgain a again
  begins_from =
      let begins = ends_waiting.begins in
      let decided = t.marked.decided ∙ some_concluded (conclusion_of a.machine) (length journal) a.decided waits_from in
      record {
        begins = record {
          caller_is = begins.begins.caller_is ∙ t.makes.aim.caller;
          call_is = begins.begins.call_is ∙ t.makes.aim.call;
          new = begins.begins.new;
        };
        draft = begins.draft ∙ t.draft
            ∙ ap (λ (x : Option Answer). draft_by x a.draft) (waits_unanswered (conclusion_of t.come.machine)
            t.come.machine.undecided.questions.room.bytes waits_there);
        begun = begins.begun ∙ t.marked.begun;
        decided = begins.decided ∙ decided;
        wait = begins.wait ∙ ap (λ (n : ℕ). Some n) decided;
      }

  pub woken_from : (entries : List Entry) → stays_waiting again.wait again.machine.call entries ≡ false →
      is_woken a.machine.call a.decided entries ≡ true
  woken_from entries woken =
      not_false (is_woken a.machine.call a.decided entries)
      (sym (ap (λ (c : Call). not (is_woken c a.decided entries)) begins_from.begins.call_is)
      ∙ sym (ap (λ (w : Option ℕ). stays_waiting w again.machine.call entries) begins_from.wait) ∙ woken)
    where
      not_false : (b : Bool) → not b ≡ false → b ≡ true
      not_false true is = refl
      not_false false is = absurd cc

  -- it held nothing, and holds nothing
  pub holds_nothing : locks_of (Some again) ≡ locks_of (Some a)
  holds_nothing =
      new_holds_nothing again.machine ends_waiting.begins.begins.new
      ∙ sym (over_holds_nothing a.machine ends_waiting.over)

  pub same_rows : row_of locks seat ≡ locks_of (Some a) → locks' ≡ locks
  same_rows row =
      t.makes.row ∙ ap (with_row locks seat) (over_holds_nothing t.come.machine (t.makes.aim.over has_ended)
      ∙ sym (over_holds_nothing a.machine ends_waiting.over) ∙ sym row) ∙ with_row-own locks seat

-- a call that was decided to wait and is over is told so
pub over_waits : (hash : RecordKey → ℕ) (seat : ℕ) (stopped : Bool) (did : Step) (a : ActiveView)
    (left : Option ActiveView) (pool pool' : PoolState) (locks locks' : Table) (journal journal' : List Entry) →
    MakesTurn hash seat stopped did a left pool pool' locks locks' journal journal' → IsOver a.machine →
    is_waiting (conclusion_of a.machine) ≡ true → did ≡ steps.Waiting
over_waits hash seat stopped did a left pool pool' locks locks' journal journal' t over waits =
    t.told_is ∙ ap (λ (p : Progress FileFault). told_of p t.come.machine) (t.makes.aim.ended.1 over)
    ∙ ap (λ (b : Bool). told_when_over b (answer_of_call t.come.machine)) (still (conclusion_of a.machine) refl waits)
  where
    still : (c : Option Conclusion) → conclusion_of a.machine ≡ c → is_waiting (conclusion_of a.machine) ≡ true →
        is_waiting (conclusion_of t.come.machine) ≡ true
    still None is waits = absurd (true≢false (sym waits ∙ ap is_waiting is))
    still (Some c) is waits = ap is_waiting (t.makes.aim.stays c is ∙ sym is) ∙ waits

-- ---- one step after the other

-- where the seat is told of the second alone
module _ (seat : ℕ) (did : Step) (a again : ActiveView) (left : Option ActiveView) (pool between pool' : PoolState)
    (locks locks' : Table) (journal journal' : List Entry)
    (first : Does seat steps.Waiting (Some a) (Some again) pool between locks locks journal journal)
    (last : Does seat did (Some again) left between pool' locks locks' journal journal') where
  same_call : call_of (Some again) ≡ call_of (Some a)
  same_call = first.goes refl

  nothing : first.added ≡ []
  nothing = first.decides (λ is. cc)

  does_both : locks_of (Some again) ≡ locks_of (Some a) →
      Does seat did (Some a) left pool pool' locks locks' journal journal'
  does_both held = record {
    ready = λ ready. last.ready (first.ready ready);
    honest = last.honest ∙ first.honest;
    later = let was = first.later in let is = last.later in omega (arith, was, is);
    stored = last.stored ∙ first.stored;
    pages = last.pages ∙ first.pages;
    row = λ row. last.row (row ∙ sym held);
    caller = λ c same. last.caller c (first.caller c same);
    call = λ some. last.call some ∙ same_call;
    idle = (λ is. absurd (some_there (last.idle.0 is)), λ none. absurd cc);
    over = last.over;
    goes = λ goes. last.goes goes ∙ same_call;
    past = λ kept. last.past (first.past kept);
    added = last.added;
    of_seat = last.of_seat;
    grows = last.grows;
    decides = last.decides;
    due =
        let was = first.due in
        let is = last.due in
        let none = ap length nothing in
        omega (arith, was, is, none);
    owed = ap (λ (es : List Entry). es ++ last.added) (sym (append-nil (untold seat (Some a)))
        ∙ ap (λ (es : List Entry). untold seat (Some a) ++ es) (sym nothing) ∙ first.owed) ∙ last.owed
        ∙ ap (λ (c : Option Call). entry_of seat c (answer_told did) ++ untold seat left) same_call;
  }
    where
      some_there : ◌≡◌ {A = Option ActiveView} (Some again) None → ⊥
      some_there clash = cc

-- ---- whatever a seat does

module _ (hash : RecordKey → ℕ) (seat : ℕ) (stopped : Bool) (did : Step) (a : ActiveView) (left : Option ActiveView)
    (pool pool' : PoolState) (locks locks' : Table) (journal journal' : List Entry) where
  anew_does : TurnsAnew hash seat stopped did a left pool pool' locks locks' journal journal' →
      Does seat did (Some a) left pool pool' locks locks' journal journal'
  anew_does t = by (stays_waiting t.again.wait t.again.machine.call journal) refl
    where
      both : Does seat did (Some t.again) left t.between pool' locks locks' journal journal' →
          Does seat did (Some a) left pool pool' locks locks' journal journal'
      both last = does_both seat did a t.again left pool t.between pool' locks locks' journal journal'
          (call_does hash seat stopped steps.Waiting a (Some t.again) pool t.between locks locks journal journal t.ends)
          last (holds_nothing hash seat stopped a t.again pool t.between locks locks journal journal t.ends)

      by : (b : Bool) → stays_waiting t.again.wait t.again.machine.call journal ≡ b →
          Does seat did (Some a) left pool pool' locks locks' journal journal'
      by true stays = both (waits_does seat did t.again left t.between pool' locks locks' journal journal' stays
          (t.waits stays))
      by false woken = both (call_does hash seat stopped did t.again left t.between pool' locks locks' journal
          journal' (t.goes woken).0)

  takes_does : TakesTurn hash seat stopped did a left pool pool' locks locks' journal journal' → (waits : Bool) →
      stays_waiting a.wait a.machine.call journal ≡ waits →
      Does seat did (Some a) left pool pool' locks locks' journal journal'
  takes_does t true is = waits_does seat did a left pool pool' locks locks' journal journal' is (t.waits is)
  takes_does t false is = elim (t.goes is) [
    | inl made ↦ call_does hash seat stopped did a left pool pool' locks locks' journal journal' made.0
    | inr anew ↦ anew_does anew
  ]

  -- ---- that it is told to wait

  -- its call is there, and has looked at the whole journal
  abbrev HasLookedAtAll : Type 0
  HasLookedAtAll = (b : ActiveView) × (left ≡ Some b) × (b.wait ≡ Some (length journal'))

  stays_looked : (b : ActiveView) (pool pool' : PoolState) (locks locks' : Table) →
      StaysWaiting did b left pool pool' locks locks' journal journal' → HasLookedAtAll
  stays_looked b pool pool' locks locks' t = (
    record b { wait = Some (length journal) },
    t.left_is,
    sym (ap (λ (es : List Entry). Some (length es)) t.same_journal),
  )

  waits_looked : TakesTurn hash seat stopped did a left pool pool' locks locks' journal journal' →
      did ≡ steps.Waiting → (waits : Bool) → stays_waiting a.wait a.machine.call journal ≡ waits → HasLookedAtAll
  waits_looked t told true is = stays_looked a pool pool' locks locks' (t.waits is)
  waits_looked t told false is = elim (t.goes is) [
    | inl made ↦ absurd (made.1 told)
    | inr anew ↦ by anew (stays_waiting anew.again.wait anew.again.machine.call journal) refl
  ]
    where
      by : (n : TurnsAnew hash seat stopped did a left pool pool' locks locks' journal journal') → (b : Bool) →
          stays_waiting n.again.wait n.again.machine.call journal ≡ b → HasLookedAtAll
      by n true stays = stays_looked n.again n.between pool' locks locks' (n.waits stays)
      by n false woken = absurd ((n.goes woken).1 told)

pub turn_does : (hash : RecordKey → ℕ) (seat : ℕ) (stopped : Bool) (did : Step) (at left : Option ActiveView)
    (pool pool' : PoolState) (locks locks' : Table) (journal journal' : List Entry) →
    Turns hash seat stopped did at left pool pool' locks locks' journal journal' →
    Does seat did at left pool pool' locks locks' journal journal'
turn_does hash seat stopped did None left pool pool' locks locks' journal journal' t =
    idle_does seat did left pool pool' locks locks' journal journal' t
turn_does hash seat stopped did (Some a) left pool pool' locks locks' journal journal' t =
    takes_does hash seat stopped did a left pool pool' locks locks' journal journal' t
    (stays_waiting a.wait a.machine.call journal) refl

pub turn_looked : (hash : RecordKey → ℕ) (seat : ℕ) (stopped : Bool) (did : Step) (at left : Option ActiveView)
    (pool pool' : PoolState) (locks locks' : Table) (journal journal' : List Entry) →
    Turns hash seat stopped did at left pool pool' locks locks' journal journal' → did ≡ steps.Waiting →
    (b : ActiveView) × (left ≡ Some b) × (b.wait ≡ Some (length journal'))
turn_looked hash seat stopped did None left pool pool' locks locks' journal journal' t told =
    absurd (apart (sym t.told_is ∙ told))
  where
    apart : steps.Idle ≡ steps.Waiting → ⊥
    apart clash = cc
turn_looked hash seat stopped did (Some a) left pool pool' locks locks' journal journal' t told =
    waits_looked hash seat stopped did a left pool pool' locks locks' journal journal' t told
    (stays_waiting a.wait a.machine.call journal) refl
