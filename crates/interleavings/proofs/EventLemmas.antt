-- What an event on a kernel leaves, and what a seat is told by it.
use Rattle.std.proofs.Common.{◌≡◌, ◌≢◌, ◌≤◌, refl, sym, ap, ◌∙◌, subst, ℕ, zero, suc, ◌==◌, if◌then◌else◌, Bool, true, false, IsSome, inl, inr, List, [], ◌∷◌, ◌++◌, Option, Some, None, length, append-nil, get_or-set_same, length-set, arith}
use Rattle.std.proofs.lemmas.Bool.{cases_lt, eqb-false, eqb-true}
use Rattle.std.proofs.lemmas.List.{get_or_past}
use Rattle.std.proofs.lemmas.List.Elements.{All-head, All-tail}
use Rattle.queue_model.specs.declared.entry.Entry.TheVariants.{Stopped}
use Rattle.page_locks.proofs.ChangeLemmas.{length-with_row}
use Rattle.interleaving_core.proofs.PlaceLemmas.{Seats, at_other, length-with_call}
use Rattle.interleaving_core.proofs.TurnLemmas.{new_unanswered}
use Rattle.interleavings.specs.Words.{ActiveView, Answer, BeginFault, Call, Entry, HasCall, IsDriven, IsRefused, IsRun, IsStopped, KernelState, Moves, RecordKey, Step, answer_told, call_at, call_of, entry_of, part_of, told, untold, with_call}
use Rattle.interleavings.specs.Runs.{AreOfSeats, Happens, IsOfSeat, Runs, answer_in, call_begun, last_call, told_by}
use Rattle.interleavings.specs.declared.event.Event.{Event}
use Rattle.interleavings.specs.declared.event.Event.TheVariants as events
use Rattle.interleavings.specs.declared.event.Outcome.{Outcome}
use Rattle.interleavings.specs.declared.event.Outcome.TheVariants as outcomes
use Rattle.interleaving_core.proofs.PartLemmas.{added_is_of, entry_of_none, part_other, part_own}

-- ---- what no event changes

-- who sits at how many places, whether the device is honest, and how many pages there are; and the count of its faults
-- does not fall
pub record KeepsPlaces {K : Type 0} (old new : KernelState K) : Type 0 where
  pub keys : new.keys ≡ old.keys
  pub callers : new.callers ≡ old.callers
  pub seats : length new.locks ≡ length old.locks
  pub places : length new.seats ≡ length old.seats
  pub honest : new.pool.honest ≡ old.pool.honest
  pub later : old.pool.faults ≤ new.pool.faults
  pub pages : length new.pool.images ≡ length old.pool.images

itself : {K : Type 0} (k : KernelState K) → KeepsPlaces k k
itself k = record {
  keys = refl;
  callers = refl;
  seats = refl;
  places = refl;
  honest = refl;
  later = omega arith;
  pages = refl;
}

-- whatever calls, the journal, the stop mark and the room are
beside : {K : Type 0} (old : KernelState K) (seats : Seats) (journal : List Entry) (stopped : Bool) (room : ℕ) →
    length seats ≡ length old.seats →
    KeepsPlaces old (record old { seats = seats; journal = journal; stopped = stopped; room = room })
beside old seats journal stopped room many =
    record {
      keys = refl;
      callers = refl;
      seats = refl;
      places = many;
      honest = refl;
      later = omega arith;
      pages = refl;
    }

run_keeps : {K : Type 0} (seat : ℕ) (answer : Option Answer) (old new : KernelState K) →
    IsRun seat answer old new → KeepsPlaces old new
run_keeps seat answer old new r = record {
  keys = r.rest.keys;
  callers = r.rest.callers;
  seats = ap length r.locks ∙ length-with_row old.locks seat _;
  places = ap length r.seats ∙ length-with_call old.seats seat (call_at new.seats seat);
  honest = r.rest.honest;
  later = r.rest.later;
  pages = r.rest.pages;
}

stop_keeps : {K : Type 0} (old new : KernelState K) → IsStopped old new → (b : Bool) → old.stopped ≡ b →
    KeepsPlaces old new
stop_keeps old new stops true is = subst (KeepsPlaces old) (sym (stops.again is)) (itself old)
stop_keeps old new stops false is = subst (KeepsPlaces old) (sym (stops.first is))
    (beside old old.seats (old.journal ++ Stopped ∷ []) true new.room refl)

pub event_keeps : {K : Type 0} (hash : RecordKey → ℕ) (e : Event) (o : Outcome) (old new : KernelState K) →
    Happens hash e o old new → KeepsPlaces old new
event_keeps hash (events.Begin seat call) outcomes.Begun old new has = subst (KeepsPlaces old) (sym has.is)
    (beside old (with_call old.seats seat (Some has.active)) old.journal old.stopped new.room
    (length-with_call old.seats seat (Some has.active)))
event_keeps hash (events.Begin seat call) (outcomes.Refused back fault) old new is =
    subst (KeepsPlaces old) (sym is.same) (beside old old.seats old.journal old.stopped new.room refl)
event_keeps hash (events.Step seat) (outcomes.Stepped did) old new step =
    run_keeps seat (answer_told did) old new step.turn.run
event_keeps hash (events.Drive seat) (outcomes.Driven did) old new drives =
    run_keeps seat (answer_told did) old new drives.run
event_keeps hash events.Stop outcomes.Stopped old new stops = stop_keeps old new stops old.stopped refl
event_keeps hash _ _ old new never = absurd never

pub places_along : {K : Type 0} (hash : RecordKey → ℕ) (es : List Event) (os : List Outcome)
    (old new : KernelState K) → Runs hash es os old new → KeepsPlaces old new
places_along hash [] [] old new same = subst (KeepsPlaces old) (sym same) (itself old)
places_along hash (e ∷ es) (o ∷ os) old new runs =
    let first = event_keeps hash e o old runs.between runs.first in
    let rest = places_along hash es os runs.between new runs.rest in
    record {
      keys = rest.keys ∙ first.keys;
      callers = rest.callers ∙ first.callers;
      seats = rest.seats ∙ first.seats;
      places = rest.places ∙ first.places;
      honest = rest.honest ∙ first.honest;
      later = let before = first.later in let more = rest.later in omega (arith, before, more);
      pages = rest.pages ∙ first.pages;
    }
places_along hash _ _ old new never = absurd never

-- ---- what each event keeps

module _ {K : Type 0} (hash : RecordKey → ℕ) where
  pub rows_behind : (e : Event) (es : List Event) (o : Outcome) (old new : KernelState K) → Happens hash e o old new →
      AreOfSeats (length old.locks) (e ∷ es) → AreOfSeats (length new.locks) es
  rows_behind e es o old new happens are =
      subst (λ (n : ℕ). AreOfSeats n es) (sym (event_keeps hash e o old new happens).seats)
      (All-tail (IsOfSeat (length old.locks)) e es are)

  -- all of them keep
  pub along : (P : KernelState K → Type 0) → ((e : Event) (o : Outcome) (old new : KernelState K) →
      IsOfSeat (length old.locks) e → Happens hash e o old new → P old → P new) → (es : List Event)
      (os : List Outcome) (old new : KernelState K) → AreOfSeats (length old.locks) es → Runs hash es os old new →
      P old → P new
  along P keeps [] [] old new are same so = subst P (sym same) so
  along P keeps (e ∷ es) (o ∷ os) old new are runs so =
      along P keeps es os runs.between new (rows_behind e es o old runs.between runs.first are) runs.rest
      (keeps e o old runs.between (All-head (IsOfSeat (length old.locks)) e es are) runs.first so)
  along P keeps _ _ old new are never so = absurd never

-- ---- a seat without a call

-- it is never moved
module _ {K : Type 0} (hash : RecordKey → ℕ) (seat : ℕ) (old : KernelState K)
    (none : call_at old.seats seat ≡ None) where
  unmoved : (moves : ℕ) (now : KernelState K) → Moves hash seat moves old now → now ≡ old
  unmoved zero now same = same
  unmoved (suc n) now moved =
      let before : moved.before ≡ old = unmoved n moved.before moved.stands in
      let idle = moved.step.turn.idle.1 (ap (λ (k : KernelState K). call_at k.seats seat) before ∙ none) in
      absurd cc

  pub no_answer_driven : (did : Step) (new : KernelState K) → IsDriven hash seat did old new →
      answer_told did ≡ None
  no_answer_driven did new driven =
      let same : driven.before ≡ old = unmoved driven.moves driven.before driven.moved in
      elim driven.ends [
        | inl rests ↦ ap answer_told
            (rests.step.turn.idle.1 (ap (λ (k : KernelState K). call_at k.seats seat) same ∙ none))
        | inr spent ↦ ap answer_told spent.told
      ]

-- ---- what a seat is told

-- a call of the seat is the one that was begun last
abbrev pub HasLast : {K : Type 0} → ℕ → Option Call → KernelState K → Type 0
HasLast seat last k = IsSome (call_of (call_at k.seats seat)) → call_of (call_at k.seats seat) ≡ last

-- the seat is told these entries, which are its part of those that join the journal, now or later
pub record IsTold {K : Type 0} (seat : ℕ) (entries : List Entry) (old new : KernelState K) : Type 0 where
  pub added : List Entry
  pub journal : new.journal ≡ old.journal ++ added
  pub owed : entries ++ untold seat (call_at new.seats seat)
      ≡ untold seat (call_at old.seats seat) ++ part_of seat added

-- and a call of it is this one after that
pub record IsToldAndHas {K : Type 0} (seat : ℕ) (entries : List Entry) (last : Option Call) (old new : KernelState K)
    : Type 0 where
  pub told : IsTold seat entries old new
  pub has : HasLast seat last new

-- nothing happens at the seat
away : {K : Type 0} (seat : ℕ) (last : Option Call) (old new : KernelState K) (added : List Entry) →
    HasLast seat last old → call_at new.seats seat ≡ call_at old.seats seat → new.journal ≡ old.journal ++ added →
    part_of seat added ≡ [] → IsToldAndHas seat [] last old new
away seat last old new added has same journal none = record {
  told = record {
    added = added;
    journal = journal;
    owed = ap (untold seat) same ∙ sym (append-nil (untold seat (call_at old.seats seat)))
        ∙ ap (λ (es : List Entry). untold seat (call_at old.seats seat) ++ es) (sym none);
  };
  has = subst (λ (at : Option ActiveView). IsSome (call_of at) → call_of at ≡ last) (sym same) has;
}

-- steps of the seat
own_run : {K : Type 0} (seat : ℕ) (last : Option Call) (answer : Option Answer) (old new : KernelState K) →
    HasLast seat last old → (call_at old.seats seat ≡ None → answer ≡ None) → IsRun seat answer old new →
    IsToldAndHas seat (entry_of seat last answer) last old new
own_run seat last answer old new has idle r = record {
  told = record {
    added = r.added;
    journal = r.journal;
    owed = ap (λ (es : List Entry). es ++ untold seat (call_at new.seats seat)) (its_call (call_at old.seats seat) refl)
        ∙ sym r.owed
        ∙ ap (λ (es : List Entry). untold seat (call_at old.seats seat) ++ es)
        (sym (part_own seat r.added (added_is_of seat answer old new r)));
  };
  has = λ some. r.call some ∙ has (subst IsSome (r.call some) some);
}
  where
    its_call : (at : Option ActiveView) → call_at old.seats seat ≡ at →
        entry_of seat last answer ≡ told seat (call_at old.seats seat) answer
    its_call None is =
        let none = idle is in
        ap (entry_of seat last) none ∙ entry_of_none seat last
        ∙ sym (ap (λ (x : Option ActiveView). told seat x answer) is)
    its_call (Some a) is =
        ap (λ (x : Option Call). entry_of seat x answer)
        (sym (has (subst (λ (x : Option ActiveView). IsSome (call_of x)) (sym is) refl)))

-- steps of another
other_run : {K : Type 0} (seat other : ℕ) (last : Option Call) (answer : Option Answer) (old new : KernelState K) →
    other ≢ seat → HasLast seat last old → IsRun other answer old new → IsToldAndHas seat [] last old new
other_run seat other last answer old new not has r =
    away seat last old new r.added has
    (ap (λ (x : Seats). call_at x seat) r.seats
    ∙ at_other old.seats other seat (call_at new.seats other) (λ is. not (sym is)))
    r.journal (part_other seat other r.added not (added_is_of other answer old new r))

-- what is so of no call and of the one that a seat is left is so of its call
at_own : (P : Option ActiveView → Type 0) (seats : Seats) (seat : ℕ) (left : Option ActiveView) → P None → P left →
    P (call_at (with_call seats seat left) seat)
at_own P seats zero left none some = none
at_own P seats (suc place) left none some =
    elim (cases_lt place (length seats)) [
      | inl within ↦ subst P (sym (get_or-set_same seats place left None within)) some
      | inr past ↦ subst P (sym (get_or_past _ place None
          (let long = length-set seats place left in omega (arith, past, long)))) none
    ]

begun_own : {K : Type 0} (seat : ℕ) (call : Call) (last : Option Call) (old new : KernelState K) →
    HasCall seat call old new → IsToldAndHas seat (entry_of seat last None) (Some call) old new
begun_own {K} seat call last old new b =
    let seats : new.seats ≡ with_call old.seats seat (Some b.active) = ap (λ (k : KernelState K). k.seats) b.is in
    record {
      told = record {
        added = [];
        journal = ap (λ (k : KernelState K). k.journal) b.is ∙ sym (append-nil old.journal);
        owed = ap (λ (es : List Entry). es ++ untold seat (call_at new.seats seat)) (entry_of_none seat last)
            ∙ subst (λ (x : Seats). untold seat (call_at x seat) ≡ []) (sym seats)
            (at_own (λ (at : Option ActiveView). untold seat at ≡ []) old.seats seat (Some b.active) refl
            (ap (entry_of seat (Some b.active.machine.call)) (new_unanswered b.active.machine b.begun.begins.new)))
            ∙ sym (append-nil (untold seat (call_at old.seats seat)) ∙ ap (untold seat) b.may.free);
      };
      has = subst (λ (x : Seats). IsSome (call_of (call_at x seat)) → call_of (call_at x seat) ≡ Some call) (sym seats)
          (at_own (λ (at : Option ActiveView). IsSome (call_of at) → call_of at ≡ Some call) old.seats seat
          (Some b.active) (λ some. absurd cc)
          (λ some. ap (λ (c : Call). Some c) b.begun.begins.call_is));
    }

begun_other : {K : Type 0} (seat other : ℕ) (call : Call) (last : Option Call) (old new : KernelState K) →
    other ≢ seat → HasLast seat last old → HasCall other call old new → IsToldAndHas seat [] last old new
begun_other {K} seat other call last old new not has b =
    away seat last old new [] has
    (ap (λ (k : KernelState K). call_at k.seats seat) b.is
    ∙ at_other old.seats other seat (Some b.active) (λ is. not (sym is)))
    (ap (λ (k : KernelState K). k.journal) b.is ∙ sym (append-nil old.journal)) refl

refused_there : {K : Type 0} (seat other : ℕ) (call : Call) (last : Option Call) (back : Call × BeginFault)
    (old new : KernelState K) → HasLast seat last old → IsRefused other call back old new →
    IsToldAndHas seat [] last old new
refused_there {K} seat other call last back old new has is =
    away seat last old new [] has (ap (λ (k : KernelState K). call_at k.seats seat) is.same)
    (ap (λ (k : KernelState K). k.journal) is.same ∙ sym (append-nil old.journal)) refl

stopped_there : {K : Type 0} (seat : ℕ) (last : Option Call) (old new : KernelState K) → HasLast seat last old →
    IsStopped old new → (b : Bool) → old.stopped ≡ b → IsToldAndHas seat [] last old new
stopped_there {K} seat last old new has stops true is =
    let same = stops.again is in
    away seat last old new [] has (ap (λ (k : KernelState K). call_at k.seats seat) same)
    (ap (λ (k : KernelState K). k.journal) same ∙ sym (append-nil old.journal)) refl
stopped_there {K} seat last old new has stops false is =
    let marked = stops.first is in
    away seat last old new (Stopped ∷ []) has (ap (λ (k : KernelState K). call_at k.seats seat) marked)
    (ap (λ (k : KernelState K). k.journal) marked) refl

-- ---- whichever seat it is

-- by whether the event is one of this seat
abbrev pub IsToldIf : {K : Type 0} → Bool → ℕ → Event → Outcome → Option Call → (old new : KernelState K) → Type 0
IsToldIf b seat e o last old new =
    IsToldAndHas seat (if b then entry_of seat last (answer_in o) else []) (if b then call_begun e o last else last)
    old new

begun_if : {K : Type 0} (seat other : ℕ) (call : Call) (last : Option Call) (old new : KernelState K) →
    HasLast seat last old → HasCall other call old new → (b : Bool) → (other == seat) ≡ b →
    IsToldIf b seat (events.Begin other call) outcomes.Begun last old new
begun_if seat other call last old new has happens true is =
    begun_own seat call last old new
    (subst (λ (n : ℕ). HasCall n call old new) (eqb-true other seat is) happens)
begun_if seat other call last old new has happens false is =
    begun_other seat other call last old new (eqb-false other seat is) has happens

run_if : {K : Type 0} (seat other : ℕ) (e : Event) (o : Outcome) (last : Option Call) (old new : KernelState K) →
    HasLast seat last old → (call_at old.seats other ≡ None → answer_in o ≡ None) →
    IsRun other (answer_in o) old new → call_begun e o last ≡ last → (b : Bool) → (other == seat) ≡ b →
    IsToldIf b seat e o last old new
run_if seat other e o last old new has idle r same true is =
    let here : other ≡ seat = eqb-true other seat is in
    subst (λ (x : Option Call). IsToldAndHas seat (entry_of seat last (answer_in o)) x old new) (sym same)
    (own_run seat last (answer_in o) old new has
    (subst (λ (n : ℕ). call_at old.seats n ≡ None → answer_in o ≡ None) here idle)
    (subst (λ (n : ℕ). IsRun n (answer_in o) old new) here r))
run_if seat other e o last old new has idle r same false is =
    other_run seat other last (answer_in o) old new (eqb-false other seat is) has r

refused_if : {K : Type 0} (seat other : ℕ) (call back : Call) (fault : BeginFault) (last : Option Call)
    (old new : KernelState K) → HasLast seat last old → IsRefused other call (back, fault) old new → (b : Bool) →
    IsToldIf b seat (events.Begin other call) (outcomes.Refused back fault) last old new
refused_if seat other call back fault last old new has is true =
    subst (λ (es : List Entry). IsToldAndHas seat es last old new) (sym (entry_of_none seat last))
    (refused_there seat other call last (back, fault) old new has is)
refused_if seat other call back fault last old new has is false =
    refused_there seat other call last (back, fault) old new has is

-- what each seat is told by an event, and which call it then has
pub event_tells : {K : Type 0} (hash : RecordKey → ℕ) (seat : ℕ) (e : Event) (o : Outcome) (last : Option Call)
    (old new : KernelState K) → HasLast seat last old → Happens hash e o old new →
    IsToldAndHas seat (told_by seat e o last) (last_call seat e o last) old new
event_tells hash seat (events.Begin other call) outcomes.Begun last old new has begun =
    begun_if seat other call last old new has begun (other == seat) refl
event_tells hash seat (events.Begin other call) (outcomes.Refused back fault) last old new has is =
    refused_if seat other call back fault last old new has is (other == seat)
event_tells hash seat (events.Step other) (outcomes.Stepped did) last old new has step =
    run_if seat other (events.Step other) (outcomes.Stepped did) last old new has
    (λ none. ap answer_told (step.turn.idle.1 none)) step.turn.run refl (other == seat) refl
event_tells hash seat (events.Drive other) (outcomes.Driven did) last old new has drives =
    run_if seat other (events.Drive other) (outcomes.Driven did) last old new has
    (λ none. no_answer_driven hash other old none did new drives.driven) drives.run refl (other == seat) refl
event_tells hash seat events.Stop outcomes.Stopped last old new has stops =
    stopped_there seat last old new has stops old.stopped refl
event_tells hash seat _ _ last old new has never = absurd never
