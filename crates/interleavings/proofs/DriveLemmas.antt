-- A drive of a kernel that refines a system comes to its end: each move leaves fewer steps, but where its call begins
-- anew, which is once.
use Rattle.std.proofs.Common.{ℕ, zero, suc, ◌≡◌, ◌+◌, ◌<◌, ◌≤◌, ◌⊎◌, inl, inr, refl, sym, ap, ◌∙◌, subst, Bool, true, false, ◌&&◌, if◌then◌else◌, List, ◌++◌, Option, Some, None, append-nil, length, arith}
use Rattle.std.proofs.Math.Seq.{drop-length}
use Rattle.std.proofs.lemmas.Bool.{true≢false}
use Rattle.std.specs.List.{list_any}
use Rattle.interleavings.specs.ConcurrentLaws.{BeginTogether, EndTogether, StepTogether}
use Rattle.interleavings.specs.Lone.{is_to_begin_anew}
use Rattle.interleavings.specs.LoneCallWords.{call_left}
use Rattle.interleaving_core.proofs.AnewLemmas.{ends_waiting, waits_from, woken_from}
use Rattle.interleaving_core.proofs.BetweenLemmas.{between}
use Rattle.interleaving_core.proofs.TurnLemmas.{waits_unanswered}
use Rattle.interleaving_core.specs.Active.{decided_by, entries_by, is_waiting}
use Rattle.interleaving_core.specs.Driving.{ComesToRest}
use Rattle.interleaving_core.specs.Owing.{is_failure}
use Rattle.interleaving_core.specs.Turn.{IsLeft, MakesTurn, TurnsAnew, told_of, told_when_over}
use Rattle.interleaving_core.specs.Waiting.{is_woken, queue_on, stays_waiting, wakes}
use Rattle.interleaving_core.specs.declared.step.Step.TheVariants as steps
use Rattle.interleaving_core.specs.xsi_calls.Laws.{HaveFewSteps, HaveFewStepsLeft, MOST_CALL_STEPS, MOST_STEPS_LEFT}
use Rattle.interleaving_core.specs.xsi_calls.Machine.{IsNew, conclusion_at}
use Rattle.interleaving_core.specs.xsi_calls.Words.{NearsOrSpares}
use Rattle.interleaving_core.specs.xsi_calls.declared.conclusion.Conclusion.{Conclusion}
use Rattle.page_device.specs.Device.{HasRisen}
use Rattle.step_rules.specs.declared.kind.Kind.{Kind}
use Rattle.step_rules.specs.declared.progress.Progress.TheVariants as progress
use Rattle.interleavings.specs.Words.{ActiveView, Answer, Call, Entry, FileFault, IsDriven, IsSeat, IsSpent, IsStep, KernelState, Moves, PoolState, Progress, RecordKey, State, Step, Table, answer_of_call, call_at, conclusion_of, store_of}
use Rattle.interleavings.specs.Laws.{ComesToItsEnd, DrivesEnd}
use Rattle.interleavings.specs.Refining.{Refines}
use Rattle.interleavings.proofs.NameLemmas.{under_way}
use Rattle.interleavings.proofs.RisenLemmas.{later_moved, risen_within, step_risen}
use Rattle.interleavings.proofs.ScheduleLemmas.{moves_led}
use Rattle.interleavings.proofs.ToldLemmas.{at_then, led_then, steps_lead_and_do, steps_led}
use Rattle.interleavings.proofs.UnderWayLemmas.{moves_fail_not}

-- ---- a call that was decided to wait, and was woken since

-- the steps of that call, once it begins anew
abbrev anew_left : Bool → ℕ
anew_left anew = if anew then MOST_CALL_STEPS else 0

less_anew : (old new : Bool) → (new ≡ true → old ≡ true) → anew_left new ≤ anew_left old
less_anew old false so = omega arith
less_anew true true so = omega arith
less_anew false true so = absurd (true≢false (sym (so refl)))

few_anew : (anew : Bool) → anew_left anew ≤ MOST_CALL_STEPS
few_anew true = omega arith
few_anew false = omega arith

both_are : (a b : Bool) → (a && b) ≡ true → (a ≡ true) × (b ≡ true)
both_are true b is = (refl, is)
both_are false b is = absurd cc

pub are_both : (a b : Bool) → a ≡ true → b ≡ true → (a && b) ≡ true
are_both a b first second = rw (first, second) refl

-- the steps that are left of a seat's call, if no other seat steps
abbrev left_of : {K : Type 0} → Option ActiveView → KernelState K → ℕ
left_of None k = 0
left_of (Some a) k = call_left a.machine (store_of k.pool.images) + anew_left (is_to_begin_anew a k.journal)

-- a step of its machine leaves a call as little to begin anew as before
module _ (hash : RecordKey → ℕ) (seat : ℕ) (stopped : Bool) (did : Step) (a : ActiveView) (left : Option ActiveView)
    (pool pool' : PoolState) (locks locks' : Table) (journal journal' : List Entry)
    (t : MakesTurn hash seat stopped did a left pool pool' locks locks' journal journal') where
  abbrev call : Call
  call = t.come.machine.call

  module _ (waits : is_waiting (conclusion_of t.come.machine) ≡ true)
      (woken : is_woken call t.come.decided journal' ≡ true) where
    same_journal : journal' ≡ journal
    same_journal = t.journal ∙ ap (λ (x : Option Answer). journal ++ entries_by seat x a.draft)
        (waits_unanswered (conclusion_of t.come.machine) t.come.machine.undecided.questions.room.bytes waits)
        ∙ append-nil journal

    woken_since : (n : ℕ) → t.come.decided ≡ n → is_woken call n journal ≡ true
    woken_since n is = sym (ap (is_woken call t.come.decided) same_journal
        ∙ ap (λ (m : ℕ). is_woken call m journal) is) ∙ woken

    decided_at : (c : Option Conclusion) → conclusion_of a.machine ≡ c →
        t.come.decided ≡ decided_by c (length journal) a.decided
    decided_at c is =
        t.marked.decided ∙ ap (λ (x : Option Conclusion). decided_by x (length journal) a.decided) is

    was_so : is_to_begin_anew a journal ≡ true
    was_so = by (conclusion_of a.machine) refl
      where
        by : (c : Option Conclusion) → conclusion_of a.machine ≡ c → is_to_begin_anew a journal ≡ true
        by None is = absurd (true≢false (sym (woken_since (length journal) (decided_at None is))
            ∙ ap (list_any (wakes (queue_on call))) (drop-length journal)))
        by (Some c) is = are_both (is_waiting (conclusion_of a.machine)) (is_woken a.machine.call a.decided journal)
            (ap is_waiting (is ∙ sym (t.makes.aim.stays c is)) ∙ waits)
            (ap (λ (x : Call). is_woken x a.decided journal) (sym t.makes.aim.call)
            ∙ woken_since a.decided (decided_at (Some c) is))

  pub still_so : is_to_begin_anew t.come journal' ≡ true → is_to_begin_anew a journal ≡ true
  still_so is =
      let both = both_are (is_waiting (conclusion_of t.come.machine)) (is_woken call t.come.decided journal') is in
      was_so both.0 both.1

-- ---- a step that moves

over_no_move : (waits : Bool) (x : Option Answer) (kind : Kind) → steps.Moved kind ≡ told_when_over waits x → ⊥
over_no_move true x kind is = cc
over_no_move false None kind is = cc
over_no_move false (Some x) kind is = cc

module _ {K : Type 0} (hash : RecordKey → ℕ) (base : State) (seat : ℕ) (old new : KernelState K)
    (led : Refines hash base old) (sound : old.failed ≡ false) (a : ActiveView)
    (there : call_at old.seats seat ≡ Some a) where
  -- of a call that has come to any place few steps are left
  few_at : HaveFewStepsLeft → call_left a.machine (store_of old.pool.images) ≤ MOST_STEPS_LEFT
  few_at few =
      let calls = (led.together sound).calls in
      few hash seat led.now a.machine calls.records old.pool old.locks calls.change
      (under_way hash base old seat a led sound there).calls

  module _ (kind : Kind) (t : MakesTurn hash seat old.stopped (steps.Moved kind) a (call_at new.seats seat) old.pool
      new.pool old.locks new.locks old.journal new.journal) where
    nears : NearsOrSpares t.did (call_left a.machine (store_of old.pool.images))
        (call_left t.come.machine (store_of new.pool.images)) old.pool new.pool
    nears =
        let calls = (led.together sound).calls in
        t.makes.progress led.now calls.records calls.change (under_way hash base old seat a led sound there).calls
        led.mark

    turn_nears : left_of (call_at new.seats seat) new < left_of (Some a) old
    turn_nears = by t.did refl t.left_is
      where
        by : (p : Progress FileFault) → t.did ≡ p → IsLeft p t.come (call_at new.seats seat) →
            left_of (call_at new.seats seat) new < left_of (Some a) old
        by (progress.Moved k) is left =
            let fewer : call_left t.come.machine (store_of new.pool.images)
            < call_left a.machine (store_of old.pool.images) =
            subst (λ (p : Progress FileFault). NearsOrSpares p (call_left a.machine (store_of old.pool.images))
            (call_left t.come.machine (store_of new.pool.images)) old.pool new.pool) is nears in
            let anew = less_anew (is_to_begin_anew a old.journal) (is_to_begin_anew t.come new.journal)
            (still_so hash seat old.stopped (steps.Moved kind) a (call_at new.seats seat) old.pool new.pool old.locks
            new.locks old.journal new.journal t) in
            subst (λ (o : Option ActiveView). left_of o new < left_of (Some a) old) (sym left)
            (omega (arith, fewer, anew))
        by (progress.Blocked other) is left =
            let told = t.told_is ∙ ap (λ (p : Progress FileFault). told_of p t.come.machine) is in absurd cc
        by (progress.Fault fault) is left =
            let told = t.told_is ∙ ap (λ (p : Progress FileFault). told_of p t.come.machine) is in absurd cc
        by progress.Ended is left = absurd (over_no_move (is_waiting (conclusion_of t.come.machine))
            (answer_of_call t.come.machine) kind
            (t.told_is ∙ ap (λ (p : Progress FileFault). told_of p t.come.machine) is))

-- a new one has decided nothing
pub new_so : (a : ActiveView) (journal : List Entry) → IsNew a.machine → is_to_begin_anew a journal ≡ false
new_so a journal new = ap (λ (c : Option Conclusion). is_waiting c && is_woken a.machine.call a.decided journal)
    (ap conclusion_at new.stage)

module _ (together : StepTogether) (ends : EndTogether) (begins : BeginTogether) (few : HaveFewSteps) {K : Type 0}
    (hash : RecordKey → ℕ) (base : State) (seat : ℕ) (kind : Kind) (old new : KernelState K)
    (led : Refines hash base old) (sound : old.failed ≡ false)
    (step : IsStep hash seat (steps.Moved kind) old new) where
  module _ (a : ActiveView) (there : call_at old.seats seat ≡ Some a) where
    module _ (t : TurnsAnew hash seat old.stopped (steps.Moved kind) a (call_at new.seats seat) old.pool new.pool
        old.locks new.locks old.journal new.journal)
        (woken : stays_waiting t.again.wait t.again.machine.call old.journal ≡ false) where
      abbrev midway : KernelState K
      midway = between seat t.again t.between old

      was_to : is_to_begin_anew a old.journal ≡ true
      was_to = are_both (is_waiting (conclusion_of a.machine)) (is_woken a.machine.call a.decided old.journal)
          (waits_from hash seat old.stopped a t.again old.pool t.between old.locks old.locks old.journal old.journal
          t.ends)
          (woken_from hash seat old.stopped a t.again old.pool t.between old.locks old.locks old.journal old.journal
          t.ends old.journal woken)

      is_new : IsNew t.again.machine
      is_new = (ends_waiting hash seat old.stopped a t.again old.pool t.between old.locks old.locks old.journal
          old.journal t.ends).begins.begins.new

      begins_few : left_of (Some t.again) midway ≤ MOST_CALL_STEPS
      begins_few =
          let fresh : call_left t.again.machine (store_of midway.pool.images) ≤ MOST_CALL_STEPS =
          few t.again.machine (store_of t.between.images) is_new in
          let none : anew_left (is_to_begin_anew t.again midway.journal) ≡ 0 =
          ap anew_left (new_so t.again old.journal is_new) in
          omega (arith, fresh, none)

      anew_nears : left_of (call_at new.seats seat) new < left_of (Some a) old
      anew_nears =
          let fewer = turn_nears hash base seat midway new
          (led_then together ends begins hash base seat a (steps.Moved kind) old new led there sound step.turn t) sound
          t.again
          (at_then together ends begins hash base seat a (steps.Moved kind) old new led there sound step.turn t) kind
          (t.goes woken).0 in
          let fresh = begins_few in
          let more : anew_left (is_to_begin_anew a old.journal) ≡ MOST_CALL_STEPS = ap anew_left was_to in
          omega (arith, fewer, fresh, more)

    nears_by : left_of (call_at new.seats seat) new < left_of (Some a) old
    nears_by = by (stays_waiting a.wait a.machine.call old.journal) refl
      where
        on : (t : TurnsAnew hash seat old.stopped (steps.Moved kind) a (call_at new.seats seat) old.pool new.pool
            old.locks new.locks old.journal new.journal) → (b : Bool) →
            stays_waiting t.again.wait t.again.machine.call old.journal ≡ b →
            left_of (call_at new.seats seat) new < left_of (Some a) old
        on t true is = let told = (t.waits is).told_is in absurd cc
        on t false is = anew_nears t is

        by : (b : Bool) → stays_waiting a.wait a.machine.call old.journal ≡ b →
            left_of (call_at new.seats seat) new < left_of (Some a) old
        by true is = let told = ((step.makes a there sound).waits is).told_is in absurd cc
        by false is = elim ((step.makes a there sound).goes is) [
          | inl made ↦ turn_nears hash base seat old new led sound a there kind made.0
          | inr anew ↦ on anew (stays_waiting anew.again.wait anew.again.machine.call old.journal) refl
        ]

  move_nears : left_of (call_at new.seats seat) new < left_of (call_at old.seats seat) old
  move_nears = by (call_at old.seats seat) refl
    where
      by : (o : Option ActiveView) → call_at old.seats seat ≡ o → left_of (call_at new.seats seat) new < left_of o old
      by None none = let idle = step.turn.idle.1 none in absurd cc
      by (Some a) there = nears_by a there

-- ---- many of them, and the last step

module _ (together : StepTogether) (ends : EndTogether) (begins : BeginTogether) (few : HaveFewSteps)
    (few_left : HaveFewStepsLeft) {K : Type 0} (hash : RecordKey → ℕ) (base : State) (seat : ℕ) (old : KernelState K)
    (is : IsSeat old.locks seat) (led : Refines hash base old) (sound : old.failed ≡ false) where
  led_so_far : (n : ℕ) (now : KernelState K) → Moves hash seat n old now → Refines hash base now
  led_so_far n now moved = (moves_led (steps_led together ends begins K) hash base seat old is led n now moved).0

  sound_so_far : (n : ℕ) (now : KernelState K) → Moves hash seat n old now → now.failed ≡ false
  sound_so_far n now moved = moves_fail_not hash seat old n now moved ∙ sound

  nearer : (n : ℕ) (now : KernelState K) → Moves hash seat n old now →
      left_of (call_at now.seats seat) now + n ≤ left_of (call_at old.seats seat) old
  nearer zero now same = subst (λ (k : KernelState K). left_of (call_at k.seats seat) k + 0
      ≤ left_of (call_at old.seats seat) old) (sym same) (omega arith)
  nearer (suc n) now moved =
      let so_far = nearer n moved.before moved.stands in
      let fewer = move_nears together ends begins few hash base seat moved.kind moved.before now
      (led_so_far n moved.before moved.stands) (sound_so_far n moved.before moved.stands) moved.step in
      omega (arith, so_far, fewer)

  few_first : left_of (call_at old.seats seat) old ≤ MOST_STEPS_LEFT + MOST_CALL_STEPS
  few_first = by (call_at old.seats seat) refl
    where
      by : (o : Option ActiveView) → call_at old.seats seat ≡ o → left_of o old ≤ MOST_STEPS_LEFT + MOST_CALL_STEPS
      by None none = omega arith
      by (Some a) there =
          let left = few_at hash base seat old old led sound a there few_left in
          let anew = few_anew (is_to_begin_anew a old.journal) in
          omega (arith, left, anew)

  module _ (did : Step) (new : KernelState K) (driven : IsDriven hash seat did old new) where
    few_moves : driven.moves ≤ MOST_STEPS_LEFT + MOST_CALL_STEPS
    few_moves =
        let so_far = nearer driven.moves driven.before driven.moved in
        let first = few_first in
        omega (arith, so_far, first)

    unspent : IsSpent seat driven.moves did driven.before new → ⊥
    unspent spent = let few = few_moves in let most = spent.most in omega (arith, few, most)

    cause : is_failure did ≡ true → HasRisen old.pool.faults new.pool.faults
    cause fails = by driven.ends
      where
        by : ComesToRest hash seat driven.moves did driven.before new
            ⊎ IsSpent seat driven.moves did driven.before new → HasRisen old.pool.faults new.pool.faults
        by (inl rests) =
            let last = rests.step.turn.run.rest.later in
            risen_within (later_moved (steps_lead_and_do together ends begins K) hash base seat driven.moves old
            driven.before driven.moved) last (omega arith)
            (step_risen (steps_lead_and_do together ends begins K) hash base seat did driven.before new
            (led_so_far driven.moves driven.before driven.moved) rests.step
            (sound_so_far driven.moves driven.before driven.moved) fails)
        by (inr spent) = absurd (unspent spent)

    pub comes_to_its_end : ComesToItsEnd hash seat did old new driven
    comes_to_its_end = record { few = few_moves; unspent = unspent; cause = cause }

pub drives_end : StepTogether → EndTogether → BeginTogether → HaveFewSteps → HaveFewStepsLeft → (K : Type 0) →
    DrivesEnd K
drives_end together ends begins few few_left K hash base seat did old new is led sound driven =
    comes_to_its_end together ends begins few few_left hash base seat old is led sound did new driven
