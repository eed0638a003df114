-- A call holds locks only where it has moved or was blocked, by what its seat was told last.
use Rattle.std.proofs.Common.{ℕ, zero, suc, ◌≡◌, ◌≢◌, inl, inr, refl, sym, ap, ◌∙◌, subst, ◌==◌, Bool, true, false, true≢false, ◌||◌, if◌then◌else◌, IsSome, List, [], ◌∷◌, Option, Some, None, length}
use Rattle.std.proofs.lemmas.Bool.{eqb-false, eqb-true}
use Rattle.std.proofs.lemmas.List.Elements.{All-head}
use Rattle.std.proofs.lemmas.Option.{same_Some}
use Rattle.step_rules.specs.declared.progress.Progress.TheVariants as progress
use Rattle.xsi_calls.proofs.RowLemmas.{new_holds_nothing}
use Rattle.interleaving_core.proofs.AnewLemmas.{begins_from}
use Rattle.interleaving_core.proofs.PlaceLemmas.{at_other, at_same}
use Rattle.interleaving_core.proofs.RunLemmas.{others_stay}
use Rattle.interleaving_core.specs.Active.{is_waiting}
use Rattle.interleaving_core.specs.Kernel.{locks_of}
use Rattle.interleaving_core.specs.Owing.{is_failure}
use Rattle.interleaving_core.specs.Turn.{IsLeft, IsLeftWhenOver, MakesTurn, TakesTurn, TurnsAnew, told_of, told_when_over}
use Rattle.interleaving_core.specs.Waiting.{stays_waiting}
use Rattle.interleaving_core.specs.declared.step.Step.TheVariants as told
use Rattle.interleaving_core.specs.xsi_calls.Machine.{call_locks}
use Rattle.interleavings.specs.Words.{ActiveView, Answer, Call, Entry, FileFault, HasCall, IsDriven, IsStep, KernelState, Moves, PoolState, Progress, RecordKey, Step, Table, answer_of_call, call_at, conclusion_of, with_call}
use Rattle.interleavings.specs.Outcomes.{may_hold_locks, is_on_way, on_way_along, on_way_left}
use Rattle.interleavings.specs.Runs.{AreOfSeats, Happens, IsOfSeat, IsSeatOf, Runs}
use Rattle.interleavings.specs.declared.event.Event.{Event}
use Rattle.interleavings.specs.declared.event.Event.TheVariants as events
use Rattle.interleavings.specs.declared.event.Outcome.{Outcome}
use Rattle.interleavings.specs.declared.event.Outcome.TheVariants as outcomes
use Rattle.interleavings.proofs.SeatNameLemmas.{none_is}
use Rattle.interleavings.proofs.UnderWayLemmas.{drive_fails, seats_behind, stop_same}

-- ---- what is at a seat

-- unless it has moved, or was blocked, its call holds no lock; nor where it was told that it waits
pub record IsStill (on_way : Bool) (at : Option ActiveView) : Type 0 where
  pub unmoved : on_way ≡ false → locks_of at ≡ []
  pub asleep : (a : ActiveView) → at ≡ Some a → IsSome a.wait → call_locks a.machine ≡ []

none_still : (b : Bool) (at : Option ActiveView) → at ≡ None → IsStill b at
none_still b at none = subst (IsStill b) (sym none) (record {
  unmoved = λ not. refl;
  asleep = λ a there some. absurd (apart a there);
})
  where
    apart : (a : ActiveView) → ◌≡◌ {A = Option ActiveView} None (Some a) → ⊥
    apart a clash = cc

-- one that waits no more
awake_still : (b : Bool) (at : Option ActiveView) (a : ActiveView) → b ≡ true → at ≡ Some a → a.wait ≡ None →
    IsStill b at
awake_still b at a on_way is awake = record {
  unmoved = λ not. absurd (true≢false (sym on_way ∙ not));
  asleep = λ x there some. absurd (none_is x.wait
      (subst (λ (y : ActiveView). y.wait ≡ None) (same_Some a x (sym is ∙ there)) awake) some);
}

-- one that holds nothing
free_still : (b : Bool) (at : Option ActiveView) (a : ActiveView) → at ≡ Some a → call_locks a.machine ≡ [] →
    IsStill b at
free_still b at a is free = record {
  unmoved = λ not. ap locks_of is ∙ free;
  asleep = λ x there some.
      subst (λ (y : ActiveView). call_locks y.machine ≡ []) (same_Some a x (sym is ∙ there)) free;
}

-- ---- a step

module _ (hash : RecordKey → ℕ) (seat : ℕ) (stopped : Bool) (did : Step) (x : ActiveView) (left : Option ActiveView)
    (pool pool' : PoolState) (locks locks' : Table) (journal journal' : List Entry)
    (t : MakesTurn hash seat stopped did x left pool pool' locks locks' journal journal') (awake : did ≢ told.Waiting)
    (fine : is_failure did ≡ false) where
  over : (waits : Bool) (answer : Option Answer) → IsLeftWhenOver waits t.come left →
      did ≡ told_when_over waits answer → IsStill (is_on_way did) left
  over true answer is told = absurd (awake told)
  over false answer is told = none_still (is_on_way did) left is

  by_progress : (p : Progress FileFault) → IsLeft p t.come left → did ≡ told_of p t.come.machine →
      IsStill (is_on_way did) left
  by_progress (progress.Moved kind) is told =
      awake_still (is_on_way did) left t.come (ap is_on_way told) is t.marked.awake
  by_progress (progress.Blocked other) is told =
      awake_still (is_on_way did) left t.come (ap is_on_way told) is t.marked.awake
  by_progress (progress.Fault fault) is told = absurd (true≢false (sym (ap is_failure told) ∙ fine))
  by_progress progress.Ended is told =
      over (is_waiting (conclusion_of t.come.machine)) (answer_of_call t.come.machine) is told

  made_still : IsStill (is_on_way did) left
  made_still = by_progress t.did t.left_is t.told_is

some_wait : (wait : Option ℕ) (call : Call) (journal : List Entry) → stays_waiting wait call journal ≡ true →
    IsSome wait
some_wait None call journal stays = absurd cc
some_wait (Some since) call journal stays = refl

module _ (hash : RecordKey → ℕ) (seat : ℕ) (stopped : Bool) (did : Step) (a : ActiveView) (left : Option ActiveView)
    (pool pool' : PoolState) (locks locks' : Table) (journal journal' : List Entry)
    (fine : is_failure did ≡ false) where
  anew_still : TurnsAnew hash seat stopped did a left pool pool' locks locks' journal journal' →
      IsStill (is_on_way did) left
  anew_still anew = by (stays_waiting anew.again.wait anew.again.machine.call journal) refl
    where
      free : call_locks anew.again.machine ≡ []
      free = new_holds_nothing anew.again.machine (begins_from hash seat stopped a anew.again pool anew.between locks
          locks journal journal anew.ends).begins.new

      by : (b : Bool) → stays_waiting anew.again.wait anew.again.machine.call journal ≡ b → IsStill (is_on_way did) left
      by true stays = free_still (is_on_way did) left (record anew.again { wait = Some (length journal) })
          (anew.waits stays).left_is free
      by false woken = made_still hash seat stopped did anew.again left anew.between pool' locks locks' journal
          journal' (anew.goes woken).0 (anew.goes woken).1 fine

  takes_still : (b : Bool) → IsStill b (Some a) →
      TakesTurn hash seat stopped did a left pool pool' locks locks' journal journal' → IsStill (is_on_way did) left
  takes_still b was takes = by (stays_waiting a.wait a.machine.call journal) refl
    where
      by : (b : Bool) → stays_waiting a.wait a.machine.call journal ≡ b → IsStill (is_on_way did) left
      by true stays = free_still (is_on_way did) left (record a { wait = Some (length journal) })
          (takes.waits stays).left_is (was.asleep a refl (some_wait a.wait a.machine.call journal stays))
      by false woken = elim (takes.goes woken) [
        | inl made ↦ made_still hash seat stopped did a left pool pool' locks locks' journal journal' made.0 made.1 fine
        | inr anew ↦ anew_still anew
      ]

pub or_first : (a b : Bool) → (a || b) ≡ false → a ≡ false
or_first true b is = absurd cc
or_first false b is = refl

pub or_second : (a b : Bool) → (a || b) ≡ false → b ≡ false
or_second true b is = absurd cc
or_second false b is = is

module _ {K : Type 0} (hash : RecordKey → ℕ) (seat : ℕ) where
  step_still : (did : Step) (old new : KernelState K) → IsStep hash seat did old new → new.failed ≡ false → (b : Bool) →
      IsStill b (call_at old.seats seat) → IsStill (is_on_way did) (call_at new.seats seat)
  step_still did old new step sound b was = by (call_at old.seats seat) refl
    where
      sound_before : old.failed ≡ false
      sound_before = or_first old.failed (is_failure did) (sym step.turn.failed ∙ sound)

      fine : is_failure did ≡ false
      fine = or_second old.failed (is_failure did) (sym step.turn.failed ∙ sound)

      by : (at : Option ActiveView) → call_at old.seats seat ≡ at → IsStill (is_on_way did) (call_at new.seats seat)
      by None none = none_still (is_on_way did) (call_at new.seats seat)
          (ap (λ (k : KernelState K). call_at k.seats seat) (step.turn.spares none) ∙ none)
      by (Some a) there = takes_still hash seat old.stopped did a (call_at new.seats seat) old.pool new.pool old.locks
          new.locks old.journal new.journal fine b (subst (IsStill b) there was) (step.makes a there sound_before)

  -- after so many moves
  moves_still : (old : KernelState K) (b : Bool) → IsStill b (call_at old.seats seat) → (n : ℕ) (now : KernelState K) →
      Moves hash seat n old now → now.failed ≡ false → (c : Bool) × IsStill c (call_at now.seats seat)
  moves_still old b was zero now same sound =
      (b, subst (λ (k : KernelState K). IsStill b (call_at k.seats seat)) (sym same) was)
  moves_still old b was (suc n) now moved sound =
      let before = or_first moved.before.failed false (sym moved.step.turn.failed ∙ sound) in
      let so_far = moves_still old b was n moved.before moved.stands before in
      (true, step_still (told.Moved moved.kind) moved.before now moved.step sound so_far.0 so_far.1)

  drive_still : (did : Step) (old new : KernelState K) → IsDriven hash seat did old new → new.failed ≡ false →
      (b : Bool) → IsStill b (call_at old.seats seat) → IsStill (is_on_way did) (call_at new.seats seat)
  drive_still did old new driven sound b was = elim driven.ends [
    | inl rests ↦
        let before = or_first driven.before.failed (is_failure did) (sym rests.step.turn.failed ∙ sound) in
        let so_far = moves_still old b was driven.moves driven.before driven.moved before in
        step_still did driven.before new rests.step sound so_far.0 so_far.1
    | inr spent ↦ absurd (true≢false (sym (ap (λ (k : KernelState K). k.failed) spent.marked) ∙ sound))
  ]

-- ---- an event

-- the calls of a kernel, until a step fails
abbrev pub AreStill : {K : Type 0} → (ℕ → Bool) → KernelState K → Type 0
AreStill on_way k = k.failed ≡ false → (seat : ℕ) → IsStill (on_way seat) (call_at k.seats seat)

same_if : (b c : Bool) (at : Option ActiveView) → IsStill c at → IsStill (if b then c else c) at
same_if true c at is = is
same_if false c at is = is

module _ {K : Type 0} (hash : RecordKey → ℕ) (on_way : ℕ → Bool) (seat : ℕ) where
  -- an event of another seat, or of this one
  ran_still : (other : ℕ) (did : Step) (old new : KernelState K) → IsStill (on_way seat) (call_at old.seats seat) →
      (IsStill (on_way other) (call_at old.seats other) → IsStill (is_on_way did) (call_at new.seats other)) →
      (seat ≢ other → call_at new.seats seat ≡ call_at old.seats seat) → (b : Bool) → (other == seat) ≡ b →
      IsStill (if b then is_on_way did else on_way seat) (call_at new.seats seat)
  ran_still other did old new was own others true here =
      let same = eqb-true other seat here in
      subst (λ (n : ℕ). IsStill (is_on_way did) (call_at new.seats n)) same
      (own (subst (λ (n : ℕ). IsStill (on_way n) (call_at old.seats n)) (sym same) was))
  ran_still other did old new was own others false apart =
      subst (IsStill (on_way seat)) (sym (others (λ same. eqb-false other seat apart (sym same)))) was

  begun_still : (other : ℕ) (call : Call) (old new : KernelState K) → IsSeatOf (length old.seats) other →
      HasCall other call old new → IsStill (on_way seat) (call_at old.seats seat) → (b : Bool) → (other == seat) ≡ b →
      IsStill (if b then false else on_way seat) (call_at new.seats seat)
  begun_still other call old new is has was true here =
      let same = eqb-true other seat here in
      free_still false (call_at new.seats seat) has.active
      (ap (λ (k : KernelState K). call_at k.seats seat) has.is
      ∙ ap (call_at (with_call old.seats other (Some has.active))) (sym same)
      ∙ at_same old.seats other (Some has.active) is.0 is.1)
      (new_holds_nothing has.active.machine has.begun.begins.new)
  begun_still other call old new is has was false apart =
      subst (IsStill (on_way seat)) (sym (ap (λ (k : KernelState K). call_at k.seats seat) has.is
      ∙ at_other old.seats other seat (Some has.active) (λ same. eqb-false other seat apart (sym same)))) was

module _ {K : Type 0} (hash : RecordKey → ℕ) (on_way : ℕ → Bool) where
  event_still : (e : Event) (o : Outcome) (old new : KernelState K) → IsOfSeat (length old.seats) e →
      Happens hash e o old new → AreStill on_way old → AreStill (λ seat. on_way_left seat e o (on_way seat)) new
  event_still (events.Begin other call) outcomes.Begun old new is has was sound seat =
      begun_still hash on_way seat other call old new is has
      (was (sym (ap (λ (k : KernelState K). k.failed) has.is) ∙ sound) seat) (other == seat) refl
  event_still (events.Begin other call) (outcomes.Refused back fault) old new is refused was sound seat =
      same_if (other == seat) (on_way seat) (call_at new.seats seat)
      (subst (λ (k : KernelState K). IsStill (on_way seat) (call_at k.seats seat)) (sym refused.same)
      (was (sym (ap (λ (k : KernelState K). k.failed) refused.same) ∙ sound) seat))
  event_still (events.Step other) (outcomes.Stepped did) old new is step was sound seat =
      let before = or_first old.failed (is_failure did) (sym step.turn.failed ∙ sound) in
      ran_still hash on_way seat other did old new (was before seat)
      (step_still hash other did old new step sound (on_way other))
      (others_stay other seat _ old new step.turn.run) (other == seat) refl
  event_still (events.Drive other) (outcomes.Driven did) old new is drives was sound seat =
      let before = or_first old.failed (is_failure did)
      (sym (drive_fails hash other did old new drives.driven) ∙ sound) in
      ran_still hash on_way seat other did old new (was before seat)
      (drive_still hash other did old new drives.driven sound (on_way other))
      (others_stay other seat _ old new drives.run) (other == seat) refl
  event_still events.Stop outcomes.Stopped old new is stops was sound seat =
      subst (IsStill (on_way seat))
      (sym (stop_same (λ (k : KernelState K). call_at k.seats seat) old new stops (λ journal room. refl) old.stopped
      refl))
      (was (sym (stop_same (λ (k : KernelState K). k.failed) old new stops (λ journal room. refl) old.stopped refl)
      ∙ sound) seat)
  event_still _ _ old new is never was sound seat = absurd never

-- ---- events

pub still_along : {K : Type 0} (hash : RecordKey → ℕ) (on_way : ℕ → Bool) (es : List Event) (os : List Outcome)
    (old new : KernelState K) → AreOfSeats (length old.seats) es → Runs hash es os old new → AreStill on_way old →
    AreStill (λ seat. on_way_along seat (on_way seat) es os) new
still_along hash on_way [] [] old new are same was = subst (AreStill on_way) (sym same) was
still_along hash on_way [] (o ∷ os) old new are never was = absurd never
still_along hash on_way (e ∷ es) [] old new are never was = absurd never
still_along hash on_way (e ∷ es) (o ∷ os) old new are runs was =
    still_along hash (λ seat. on_way_left seat e o (on_way seat)) es os runs.between new
    (seats_behind hash e es o old runs.between runs.first are) runs.rest
    (event_still hash on_way e o old runs.between (All-head (IsOfSeat (length old.seats)) e es are) runs.first was)

-- from a kernel without calls
pub still_from_none : {K : Type 0} (hash : RecordKey → ℕ) (es : List Event) (os : List Outcome)
    (old new : KernelState K) → AreOfSeats (length old.seats) es → Runs hash es os old new →
    ((seat : ℕ) → call_at old.seats seat ≡ None) → AreStill (λ seat. may_hold_locks seat es os) new
still_from_none hash es os old new are runs none =
    still_along hash (λ seat. false) es os old new are runs
    (λ sound seat. none_still false (call_at old.seats seat) (none seat))
