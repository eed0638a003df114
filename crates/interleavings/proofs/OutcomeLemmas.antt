-- What comes of each event, told by what came of those before it: by the calls under way, by failures, and by how many
-- calls began.
use Rattle.std.proofs.Common.{ℕ, zero, suc, ◌≡◌, ◌+◌, refl, sym, ap, ◌∙◌, Bool, true, false, ◌||◌, inl, inr, List, [], ◌∷◌, Option, Some, None, length, length-append, arith}
use Rattle.std.specs.List.{list_any}
use Rattle.std.specs.Prelude.{IsSome}
use Rattle.std.proofs.lemmas.List.Elements.{All-head}
use Rattle.interleaving_core.specs.Active.{drafted}
use Rattle.interleaving_core.specs.Beginning.{IsFull, Refuses}
use Rattle.interleaving_core.specs.Kernel.{due_at, due_for_stop, entries_of}
use Rattle.interleaving_core.specs.Owing.{lapsed}
use Rattle.interleaving_core.specs.declared.active.Draft.{Draft}
use Rattle.interleaving_core.specs.declared.fault.BeginFault.{BeginFault}
use Rattle.interleaving_core.specs.declared.fault.BeginFault.TheVariants as refusals
use Rattle.interleaving_core.proofs.PlaceLemmas.{due_with}
use Rattle.queue_model.specs.declared.entry.Entry.TheVariants.{Stopped}
use Rattle.interleavings.specs.Words.{Call, HasCall, IsDriven, IsStopped, KernelState, Moves, RecordKey, Step, call_at, call_of}
use Rattle.interleavings.specs.Runs.{AreOfSeats, Happens, IsOfSeat, IsSeatOf, Runs}
use Rattle.interleavings.specs.Outcomes.{AreOutcomes, HasAllCalls, IsRefusedFor, MayCome, SoFar, begun_by, call_left, lapsed_by, so_far_behind, tells_failure}
use Rattle.interleavings.specs.declared.event.Event.{Event}
use Rattle.interleavings.specs.declared.event.Event.TheVariants as events
use Rattle.interleavings.specs.declared.event.Outcome.{Outcome}
use Rattle.interleavings.specs.declared.event.Outcome.TheVariants as outcomes
use Rattle.interleavings.proofs.UnderWayLemmas.{call_on, drive_fails, drive_page, drive_rests, drive_told, event_leaves, idle_driven, none_at, or_false, or_or, seats_behind, stop_same, told_where}

-- ---- how many entries stand or are due

draft_due : (d : Option Draft) → IsSome d → drafted d ≡ 1
draft_due None some = absurd cc
draft_due (Some d) some = refl

begin_counted : {K : Type 0} (seat : ℕ) (call : Call) (old new : KernelState K) →
    IsSeatOf (length old.seats) seat → HasCall seat call old new → entries_of new ≡ entries_of old + 1
begin_counted {K} seat call old new is has =
    let all = due_with old.seats seat (Some has.active) is.0 is.1 in
    let free = ap due_at has.may.free in
    let one = draft_due has.active.draft has.begun.draft in
    let same = ap (λ (k : KernelState K). entries_of k) has.is in
    omega (arith, all, free, one, same)

stop_counted : {K : Type 0} (old new : KernelState K) → IsStopped old new → (b : Bool) → old.stopped ≡ b →
    entries_of new ≡ entries_of old
stop_counted {K} old new stops true is = ap (λ (k : KernelState K). entries_of k) (stops.again is)
stop_counted {K} old new stops false is =
    let same = ap (λ (k : KernelState K). entries_of k) (stops.first is) in
    let long = length-append old.journal (Stopped ∷ []) in
    let due = ap due_for_stop is in
    omega (arith, same, long, due)

module _ {K : Type 0} (hash : RecordKey → ℕ) (seat : ℕ) (old : KernelState K) where
  moves_counted : (moves : ℕ) (now : KernelState K) → Moves hash seat moves old now → entries_of now ≡ entries_of old
  moves_counted zero now same = ap (λ (k : KernelState K). entries_of k) same
  moves_counted (suc n) now moved =
      let before = moves_counted n moved.before moved.stands in
      let last = moved.step.turn.entries in
      omega (arith, before, last)

  drive_counted : (did : Step) (new : KernelState K) → IsDriven hash seat did old new →
      entries_of new + lapsed did ≡ entries_of old
  drive_counted did new driven = elim driven.ends [
    | inl rests ↦
        let before = moves_counted driven.moves driven.before driven.moved in
        let last = rests.step.turn.entries in
        omega (arith, before, last)
    | inr spent ↦
        let before = moves_counted driven.moves driven.before driven.moved in
        let same = ap (λ (k : KernelState K). entries_of k) spent.marked in
        let none = ap lapsed spent.told in
        omega (arith, before, same, none)
  ]

event_counted : {K : Type 0} (hash : RecordKey → ℕ) (e : Event) (o : Outcome) (old new : KernelState K) →
    IsOfSeat (length old.seats) e → Happens hash e o old new →
    entries_of new + lapsed_by o ≡ entries_of old + begun_by o
event_counted hash (events.Begin seat call) outcomes.Begun old new is has =
    let more = begin_counted seat call old new is has in
    omega (arith, more)
event_counted {K} hash (events.Begin seat call) (outcomes.Refused back fault) old new is refused =
    let same = ap (λ (k : KernelState K). entries_of k) refused.same in
    omega (arith, same)
event_counted hash (events.Step seat) (outcomes.Stepped did) old new is step =
    let same = step.turn.entries in
    omega (arith, same)
event_counted hash (events.Drive seat) (outcomes.Driven did) old new is drives =
    let same = drive_counted hash seat old did new drives.driven in
    omega (arith, same)
event_counted hash events.Stop outcomes.Stopped old new is stops =
    let same = stop_counted old new stops old.stopped refl in
    omega (arith, same)
event_counted hash _ _ old new is never = absurd never

-- what is told so far of a kernel
pub record Tells {K : Type 0} (s : SoFar) (k : KernelState K) : Type 0 where
  pub broken : s.broken ≡ k.failed
  pub under_way : (seat : ℕ) → s.under_way seat ≡ call_on seat k
  pub counted : entries_of k + s.lapsed ≡ s.begun + 1

module _ {K : Type 0} (s : SoFar) (k : KernelState K) (tells : Tells s k) where
  all_calls : IsFull k → HasAllCalls s
  all_calls full = let counted = tells.counted in omega (arith, full, counted)

  is_full : HasAllCalls s → IsFull k
  is_full all = let counted = tells.counted in omega (arith, all, counted)

-- ---- why a call did not begin

module _ {K : Type 0} (seat : ℕ) (s : SoFar) (old : KernelState K) (tells : Tells s old) where
  none_here : call_at old.seats seat ≡ None → s.under_way seat ≡ None
  none_here none = tells.under_way seat ∙ ap call_of none

  refused_for : (fault : BeginFault) → Refuses seat old fault → IsRefusedFor fault (s.under_way seat) s
  refused_for refusals.Failed cause = tells.broken ∙ cause
  refused_for refusals.Busy cause = (
    tells.broken ∙ cause.0,
    λ none. cause.1 (none_at (call_at old.seats seat) (sym (tells.under_way seat) ∙ none)),
  )
  refused_for refusals.SessionFull cause =
      (tells.broken ∙ cause.0, none_here cause.1, all_calls s old tells cause.2)
  refused_for refusals.NoMemory cause = record {
    sound = tells.broken ∙ cause.0;
    free = none_here cause.1;
    few = λ all. cause.2 (is_full s old tells all);
  }

-- ---- one event after the other

module _ {K : Type 0} (hash : RecordKey → ℕ) where
  event_fails : (e : Event) (o : Outcome) (old new : KernelState K) → Happens hash e o old new →
      new.failed ≡ (old.failed || tells_failure o)
  event_fails (events.Begin seat call) outcomes.Begun old new has =
      ap (λ (k : KernelState K). k.failed) has.is ∙ sym (or_false old.failed)
  event_fails (events.Begin seat call) (outcomes.Refused back fault) old new refused =
      ap (λ (k : KernelState K). k.failed) refused.same ∙ sym (or_false old.failed)
  event_fails (events.Step seat) (outcomes.Stepped did) old new step = step.turn.failed
  event_fails (events.Drive seat) (outcomes.Driven did) old new drives = drive_fails hash seat did old new drives.driven
  event_fails events.Stop outcomes.Stopped old new stops =
      stop_same (λ (k : KernelState K). k.failed) old new stops (λ journal room. refl) old.stopped refl
      ∙ sym (or_false old.failed)
  event_fails _ _ old new never = absurd never

  -- ---- each outcome is one of its event

  may_come : (e : Event) (o : Outcome) (old new : KernelState K) (s : SoFar) → Tells s old → Happens hash e o old new →
      MayCome s e o
  may_come (events.Begin seat call) outcomes.Begun old new s tells has = record {
    sound = tells.broken ∙ has.may.sound;
    free = none_here seat s old tells has.may.free;
    few = λ all. has.may.few (is_full s old tells all);
  }
  may_come (events.Begin seat call) (outcomes.Refused back fault) old new s tells refused =
      (refused.back, refused_for seat s old tells fault refused.cause)
  may_come (events.Step seat) (outcomes.Stepped did) old new s tells step = record {
    idle = (
      λ idle. none_here seat s old tells (step.turn.idle.0 idle),
      λ none. step.turn.idle.1 (none_at (call_at old.seats seat) (sym (tells.under_way seat) ∙ none)),
    );
    failed = λ is there. step.turn.fails (sym tells.broken ∙ is)
        ∙ told_where (call_at old.seats seat) (λ none. there (tells.under_way seat ∙ none));
    page = step.turn.page;
  }
  may_come (events.Drive seat) (outcomes.Driven did) old new s tells drives =
      let idle = idle_driven hash seat did old new drives.driven in (
        record {
          idle = (λ is. tells.under_way seat ∙ idle.0 is, λ none. idle.1 (sym (tells.under_way seat) ∙ none));
          failed = λ is there. drive_told hash seat did old new drives.driven (sym tells.broken ∙ is)
              (λ none. there (tells.under_way seat ∙ none));
          page = drive_page hash seat did old new drives.driven;
        },
        drive_rests hash seat did old new drives.driven,
      )
  may_come events.Stop outcomes.Stopped old new s tells stops = tt
  may_come _ _ old new s tells never = absurd never

  tells_behind : (e : Event) (o : Outcome) (old new : KernelState K) (s : SoFar) → Tells s old →
      IsOfSeat (length old.seats) e → Happens hash e o old new → Tells (so_far_behind e o s) new
  tells_behind e o old new s tells is happens = record {
    broken = ap (λ (b : Bool). b || tells_failure o) tells.broken ∙ sym (event_fails e o old new happens);
    under_way = λ seat. ap (call_left seat e o) (tells.under_way seat)
        ∙ sym (event_leaves hash seat e o old new is happens);
    counted =
        let was = tells.counted in
        let now = event_counted hash e o old new is happens in
        omega (arith, was, now);
  }

  pub come_along : (es : List Event) (os : List Outcome) (old new : KernelState K) (s : SoFar) → Tells s old →
      AreOfSeats (length old.seats) es → Runs hash es os old new → AreOutcomes s es os
  come_along [] [] old new s tells are runs = tt
  come_along [] (o ∷ os) old new s tells are never = absurd never
  come_along (e ∷ es) [] old new s tells are never = absurd never
  come_along (e ∷ es) (o ∷ os) old new s tells are runs = (
    may_come e o old runs.between s tells runs.first,
    come_along es os runs.between new (so_far_behind e o s)
        (tells_behind e o old runs.between s tells (All-head (IsOfSeat (length old.seats)) e es are) runs.first)
        (seats_behind hash e es o old runs.between runs.first are) runs.rest,
  )

  -- ---- failures

  pub fails_along : (es : List Event) (os : List Outcome) (old new : KernelState K) → Runs hash es os old new →
      new.failed ≡ (old.failed || list_any tells_failure os)
  fails_along [] [] old new same = ap (λ (k : KernelState K). k.failed) same ∙ sym (or_false old.failed)
  fails_along [] (o ∷ os) old new never = absurd never
  fails_along (e ∷ es) [] old new never = absurd never
  fails_along (e ∷ es) (o ∷ os) old new runs =
      fails_along es os runs.between new runs.rest
      ∙ ap (λ (b : Bool). b || list_any tells_failure os) (event_fails e o old runs.between runs.first)
      ∙ or_or old.failed (tells_failure o) (list_any tells_failure os)
