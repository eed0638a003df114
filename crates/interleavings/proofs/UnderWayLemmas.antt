-- The call that a seat has under way, and whether the journal has a stop, told by the outcomes of events.
use Rattle.std.proofs.Common.{ℕ, zero, suc, ◌≡◌, ◌↔◌, inl, inr, refl, sym, ap, ◌∙◌, subst, ◌==◌, Bool, true, false, ◌||◌, if◌then◌else◌, List, [], ◌∷◌, ◌++◌, Option, Some, None, length, arith}
use Rattle.std.specs.List.{list_any}
use Rattle.std.proofs.lemmas.Bool.{eqb-false, eqb-true}
use Rattle.std.proofs.lemmas.List.Elements.{All-head, All-tail}
use Rattle.std.proofs.lemmas.List.Sums.{sum_by-append, sum_by-cons}
use Rattle.std.specs.Prelude.{sum_by}
use Rattle.file_pages.specs.Fault.{IsOfPage}
use Rattle.file_pages.specs.declared.fault.FileFault.{FileFault}
use Rattle.file_pages.specs.declared.fault.FileFault.TheVariants.{Failed}
use Rattle.interleaving_core.proofs.PartLemmas.{AreOf, added_is_of}
use Rattle.interleaving_core.proofs.PlaceLemmas.{at_other, at_same}
use Rattle.interleaving_core.specs.Owing.{IsMove, failed, is_end, is_failure, told_of_failure}
use Rattle.interleaving_core.specs.declared.fault.StepFault.TheVariants as faults
use Rattle.interleaving_core.specs.declared.step.Step.TheVariants as steps
use Rattle.queue_model.specs.declared.entry.Entry.TheVariants.{Decided, Stopped}
use Rattle.interleavings.specs.Words.{ActiveView, Answer, Call, Entry, HasCall, IsDriven, IsRun, IsStopped, IsTurn, KernelState, Moves, RecordKey, Step, answer_told, call_at, call_of, with_call}
use Rattle.interleavings.specs.Runs.{AreOfSeats, Happens, IsOfSeat, IsSeatOf, Runs}
use Rattle.interleavings.specs.Moments.{is_stop, marked_by, once_if}
use Rattle.interleavings.specs.Outcomes.{call_along, call_left, unless_over}
use Rattle.interleavings.specs.declared.event.Event.{Event}
use Rattle.interleavings.specs.declared.event.Event.TheVariants as events
use Rattle.interleavings.specs.declared.event.Outcome.{Outcome}
use Rattle.interleavings.specs.declared.event.Outcome.TheVariants as outcomes
use Rattle.interleavings.proofs.EventLemmas.{event_keeps}

-- the call of a seat
abbrev pub call_on : {K : Type 0} → ℕ → KernelState K → Option Call
call_on seat k = call_of (call_at k.seats seat)

pub none_at : (at : Option ActiveView) → call_of at ≡ None → at ≡ None
none_at None none = refl
none_at (Some a) none = absurd cc

-- a call is told of a failure
pub told_where : (at : Option ActiveView) → (call_of at ≡ None → ⊥) → told_of_failure at ≡ failed
told_where None there = absurd (there refl)
told_where (Some a) there = refl

-- ---- what a stop leaves

pub stop_same : {K : Type 0} {X : Type 0} (get : KernelState K → X) (old new : KernelState K) → IsStopped old new →
    ((journal : List Entry) (room : ℕ) → get (record old { journal = journal; stopped = true; room = room })
    ≡ get old) →
    (b : Bool) → old.stopped ≡ b → get new ≡ get old
stop_same get old new stops kept true is = ap get (stops.again is)
stop_same get old new stops kept false is = ap get (stops.first is) ∙ kept (old.journal ++ Stopped ∷ []) new.room

-- ---- a step, and a drive

module _ {K : Type 0} (hash : RecordKey → ℕ) (seat : ℕ) (old : KernelState K) where
  pub turn_leaves : (did : Step) (new : KernelState K) → IsTurn seat did old new → (b : Bool) → is_end did ≡ b →
      call_on seat new ≡ (if b then None else call_on seat old)
  turn_leaves did new turn true is = ap call_of (turn.over is)
  turn_leaves did new turn false is = turn.goes is

  pub moves_leave : (moves : ℕ) (now : KernelState K) → Moves hash seat moves old now →
      call_on seat now ≡ call_on seat old
  moves_leave zero now same = ap (call_on seat) same
  moves_leave (suc n) now moved = moved.step.turn.goes refl ∙ moves_leave n moved.before moved.stands

  -- and no failure
  pub moves_fail_not : (moves : ℕ) (now : KernelState K) → Moves hash seat moves old now → now.failed ≡ old.failed
  moves_fail_not zero now same = ap (λ (k : KernelState K). k.failed) same
  moves_fail_not (suc n) now moved =
      moved.step.turn.failed ∙ or_nothing moved.before.failed ∙ moves_fail_not n moved.before moved.stands
    where
      or_nothing : (b : Bool) → (b || false) ≡ b
      or_nothing true = refl
      or_nothing false = refl

pub or_false : (b : Bool) → (b || false) ≡ b
or_false true = refl
or_false false = refl

pub or_true : (b : Bool) → (b || true) ≡ true
or_true true = refl
or_true false = refl

pub or_or : (a b c : Bool) → ((a || b) || c) ≡ (a || (b || c))
or_or true b c = refl
or_or false b c = refl

module _ {K : Type 0} (hash : RecordKey → ℕ) (seat : ℕ) (did : Step) (old new : KernelState K)
    (driven : IsDriven hash seat did old new) where
  still : call_on seat driven.before ≡ call_on seat old
  still = moves_leave hash seat old driven.moves driven.before driven.moved

  pub drive_leaves : call_on seat new ≡ unless_over did (call_on seat old)
  drive_leaves = elim driven.ends [
    | inl rests ↦ turn_leaves hash seat driven.before did new rests.step.turn (is_end did) refl
        ∙ ap (unless_over did) still
    | inr spent ↦ ap (call_on seat) spent.marked ∙ still
        ∙ ap (λ (d : Step). unless_over d (call_on seat old)) (sym spent.told)
  ]

  pub drive_fails : new.failed ≡ (old.failed || is_failure did)
  drive_fails = elim driven.ends [
    | inl rests ↦ rests.step.turn.failed ∙ ap (λ (b : Bool). b || is_failure did)
        (moves_fail_not hash seat old driven.moves driven.before driven.moved)
    | inr spent ↦ ap (λ (k : KernelState K). k.failed) spent.marked ∙ sym (or_true old.failed)
        ∙ ap (λ (d : Step). old.failed || is_failure d) (sym spent.told)
  ]

  -- it is idle where there is no call
  pub idle_driven : (did ≡ steps.Idle) ↔ (call_on seat old ≡ None)
  idle_driven = elim driven.ends [
    | inl rests ↦ (
      λ idle. sym still ∙ ap call_of (rests.step.turn.idle.0 idle),
      λ none. rests.step.turn.idle.1 (none_at (call_at driven.before.seats seat) (still ∙ none)),
    )
    | inr spent ↦ (
      λ idle. absurd (not_failed (sym spent.told ∙ idle)),
      λ none. absurd (unmoved driven.moves spent.most driven.before driven.moved none),
    )
  ]
    where
      not_failed : failed ≡ steps.Idle → ⊥
      not_failed clash = cc

      unmoved : (moves : ℕ) → moves ≡ 4000000 → (now : KernelState K) → Moves hash seat moves old now →
          call_on seat old ≡ None → ⊥
      unmoved zero most now moved none = omega (arith, most)
      unmoved (suc n) most now moved none =
          let idle = moved.step.turn.idle.1 (none_at (call_at moved.before.seats seat)
          (moves_leave hash seat old n moved.before moved.stands ∙ none)) in
          cc

  -- and fails where a step had failed
  pub drive_told : old.failed ≡ true → (call_on seat old ≡ None → ⊥) → did ≡ failed
  drive_told is there = elim driven.ends [
    | inl rests ↦ rests.step.turn.fails
        (moves_fail_not hash seat old driven.moves driven.before driven.moved ∙ is)
        ∙ told_where (call_at driven.before.seats seat) (λ none. there (sym still ∙ none))
    | inr spent ↦ spent.told
  ]

  -- of the file it is told what a page may come to
  pub drive_page : (fault : FileFault) → did ≡ steps.Fault (faults.File fault) → IsOfPage fault
  drive_page fault told = elim driven.ends [
    | inl rests ↦ rests.step.turn.page fault told
    | inr spent ↦ of_failed fault (sym spent.told ∙ told)
  ]
    where
      of_failed : (fault : FileFault) → failed ≡ steps.Fault (faults.File fault) → IsOfPage fault
      of_failed fault is =
          let same : Failed ≡ fault = cc in
          subst IsOfPage same tt

  pub drive_rests : IsMove did → ⊥
  drive_rests moves = elim driven.ends [
    | inl rests ↦ rests.rests moves
    | inr spent ↦ subst IsMove spent.told moves
  ]

-- ---- whichever seat it is

same_if : (b : Bool) (now was : Option Call) → now ≡ was → now ≡ (if b then was else was)
same_if true now was same = same
same_if false now was same = same

begun_if : {K : Type 0} (seat other : ℕ) (call : Call) (old new : KernelState K) → IsSeatOf (length old.seats) other →
    HasCall other call old new → (b : Bool) → (other == seat) ≡ b →
    call_on seat new ≡ (if b then Some call else call_on seat old)
begun_if {K} seat other call old new is has true same =
    ap (call_on seat) has.is
    ∙ ap (λ (n : ℕ). call_of (call_at (with_call old.seats other (Some has.active)) n)) (sym (eqb-true other seat same))
    ∙ ap call_of (at_same old.seats other (Some has.active) is.0 is.1)
    ∙ ap (λ (c : Call). Some c) has.begun.begins.call_is
begun_if {K} seat other call old new is has false same =
    ap (call_on seat) has.is
    ∙ ap call_of (at_other old.seats other seat (Some has.active) (λ is. eqb-false other seat same (sym is)))

ran_if : {K : Type 0} (seat other : ℕ) (did : Step) (old new : KernelState K) →
    call_on other new ≡ unless_over did (call_on other old) → IsRun other (answer_told did) old new →
    (b : Bool) → (other == seat) ≡ b →
    call_on seat new ≡ (if b then unless_over did (call_on seat old) else call_on seat old)
ran_if {K} seat other did old new own run true same =
    subst (λ (n : ℕ). call_on n new ≡ unless_over did (call_on n old)) (eqb-true other seat same) own
ran_if {K} seat other did old new own run false same =
    ap call_of (ap (λ (seats : List (Option ActiveView)). call_at seats seat) run.seats
    ∙ at_other old.seats other seat (call_at new.seats other) (λ is. eqb-false other seat same (sym is)))

pub event_leaves : {K : Type 0} (hash : RecordKey → ℕ) (seat : ℕ) (e : Event) (o : Outcome) (old new : KernelState K) →
    IsOfSeat (length old.seats) e → Happens hash e o old new →
    call_on seat new ≡ call_left seat e o (call_on seat old)
event_leaves hash seat (events.Begin other call) outcomes.Begun old new is has =
    begun_if seat other call old new is has (other == seat) refl
event_leaves hash seat (events.Begin other call) (outcomes.Refused back fault) old new is refused =
    same_if (other == seat) (call_on seat new) (call_on seat old) (ap (call_on seat) refused.same)
event_leaves hash seat (events.Step other) (outcomes.Stepped did) old new is step =
    ran_if seat other did old new (turn_leaves hash other old did new step.turn (is_end did) refl) step.turn.run
    (other == seat) refl
event_leaves hash seat (events.Drive other) (outcomes.Driven did) old new is drives =
    ran_if seat other did old new (drive_leaves hash other did old new drives.driven) drives.run (other == seat) refl
event_leaves hash seat events.Stop outcomes.Stopped old new is stops =
    stop_same (call_on seat) old new stops (λ journal room. refl) old.stopped refl
event_leaves hash seat _ _ old new is never = absurd never

-- ---- one event after the other

module _ {K : Type 0} (hash : RecordKey → ℕ) where
  pub seats_behind : (e : Event) (es : List Event) (o : Outcome) (old new : KernelState K) → Happens hash e o old new →
      AreOfSeats (length old.seats) (e ∷ es) → AreOfSeats (length new.seats) es
  seats_behind e es o old new happens are =
      subst (λ (n : ℕ). AreOfSeats n es) (sym (event_keeps hash e o old new happens).places)
      (All-tail (IsOfSeat (length old.seats)) e es are)

  pub leaves_along : (seat : ℕ) (es : List Event) (os : List Outcome) (old new : KernelState K) →
      AreOfSeats (length old.seats) es → Runs hash es os old new →
      call_on seat new ≡ call_along seat (call_on seat old) es os
  leaves_along seat [] [] old new are same = ap (call_on seat) same
  leaves_along seat [] (o ∷ os) old new are never = absurd never
  leaves_along seat (e ∷ es) [] old new are never = absurd never
  leaves_along seat (e ∷ es) (o ∷ os) old new are runs =
      leaves_along seat es os runs.between new (seats_behind e es o old runs.between runs.first are) runs.rest
      ∙ ap (λ (c : Option Call). call_along seat c es os) (event_leaves hash seat e o old runs.between
      (All-head (IsOfSeat (length old.seats)) e es are) runs.first)

-- ---- the stop

no_marks : (seat : ℕ) (es : List Entry) → AreOf seat es → sum_by marked_by es ≡ 0
no_marks seat [] all = refl
no_marks seat (Decided other call answer ∷ es) all =
    let both = sum_by-cons marked_by (Decided other call answer) es in
    let rest = no_marks seat es all.1 in
    omega (arith, both, rest)
no_marks seat (Stopped ∷ es) all = absurd (never all.0)
  where
    never : ◌≡◌ {A = Bool} false true → ⊥
    never clash = cc

abbrev marks : {K : Type 0} → KernelState K → ℕ
marks k = sum_by marked_by k.journal

-- it stands in the journal once where the system is stopped
pub record IsMarkedRight {K : Type 0} (stops : Bool) (old new : KernelState K) : Type 0 where
  pub marked : marks old ≡ once_if old.stopped → marks new ≡ once_if new.stopped
  pub stopped : new.stopped ≡ (old.stopped || stops)

ran_marked : {K : Type 0} (seat : ℕ) (answer : Option Answer) (old new : KernelState K) → IsRun seat answer old new →
    IsMarkedRight false old new
ran_marked seat answer old new run = record {
  marked = λ was.
      let grown = ap (sum_by marked_by) run.journal in
      let both = sum_by-append marked_by old.journal run.added in
      let none = no_marks seat run.added (added_is_of seat answer old new run) in
      let same = ap once_if run.rest.stopped in
      omega (arith, was, grown, both, none, same);
  stopped = run.rest.stopped ∙ sym (or_false old.stopped);
}

same_marked : {K : Type 0} (old new : KernelState K) → new.journal ≡ old.journal → new.stopped ≡ old.stopped →
    IsMarkedRight false old new
same_marked old new journal stopped = record {
  marked = λ was. ap (sum_by marked_by) journal ∙ was ∙ ap once_if (sym stopped);
  stopped = stopped ∙ sym (or_false old.stopped);
}

stop_marked : {K : Type 0} (old new : KernelState K) → IsStopped old new → (b : Bool) → old.stopped ≡ b →
    IsMarkedRight true old new
stop_marked {K} old new stops true is = record {
  marked = λ was. ap (λ (k : KernelState K). marks k) (stops.again is) ∙ was
      ∙ sym (ap (λ (k : KernelState K). once_if k.stopped) (stops.again is));
  stopped = ap (λ (k : KernelState K). k.stopped) (stops.again is) ∙ is ∙ sym (or_true old.stopped);
}
stop_marked {K} old new stops false is = record {
  marked = λ was.
      let grown = ap (λ (k : KernelState K). marks k) (stops.first is) in
      let both = sum_by-append marked_by old.journal (Stopped ∷ []) in
      let one = sum_by-cons marked_by Stopped [] in
      let none = ap once_if is in
      let marked = ap (λ (k : KernelState K). once_if k.stopped) (stops.first is) in
      omega (arith, was, grown, both, one, none, marked);
  stopped = ap (λ (k : KernelState K). k.stopped) (stops.first is) ∙ sym (or_true old.stopped);
}

event_marked : {K : Type 0} (hash : RecordKey → ℕ) (e : Event) (o : Outcome) (old new : KernelState K) →
    Happens hash e o old new → IsMarkedRight (is_stop e) old new
event_marked {K} hash (events.Begin seat call) outcomes.Begun old new has =
    same_marked old new (ap (λ (k : KernelState K). k.journal) has.is) (ap (λ (k : KernelState K). k.stopped) has.is)
event_marked {K} hash (events.Begin seat call) (outcomes.Refused back fault) old new refused =
    same_marked old new (ap (λ (k : KernelState K). k.journal) refused.same)
    (ap (λ (k : KernelState K). k.stopped) refused.same)
event_marked hash (events.Step seat) (outcomes.Stepped did) old new step =
    ran_marked seat (answer_told did) old new step.turn.run
event_marked hash (events.Drive seat) (outcomes.Driven did) old new drives =
    ran_marked seat (answer_told did) old new drives.run
event_marked hash events.Stop outcomes.Stopped old new stops = stop_marked old new stops old.stopped refl
event_marked hash _ _ old new never = absurd never

pub marked_along : {K : Type 0} (hash : RecordKey → ℕ) (es : List Event) (os : List Outcome) (old new : KernelState K) →
    Runs hash es os old new → IsMarkedRight (list_any is_stop es) old new
marked_along {K} hash [] [] old new same =
    same_marked old new (ap (λ (k : KernelState K). k.journal) same) (ap (λ (k : KernelState K). k.stopped) same)
marked_along hash [] (o ∷ os) old new never = absurd never
marked_along hash (e ∷ es) [] old new never = absurd never
marked_along hash (e ∷ es) (o ∷ os) old new runs =
    let first = event_marked hash e o old runs.between runs.first in
    let rest = marked_along hash es os runs.between new runs.rest in
    record {
      marked = λ was. rest.marked (first.marked was);
      stopped = rest.stopped ∙ ap (λ (b : Bool). b || list_any is_stop es) first.stopped
          ∙ or_or old.stopped (is_stop e) (list_any is_stop es);
    }
