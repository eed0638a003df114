-- What events of many seats do to a kernel, one after the other, and what each seat is told by them.
-- docs/STEPS.md, "Calls"; docs/QUEUES.md, "Journals".
use Rattle.std.specs.Prelude.{ℕ, ◌≡◌, ◌≤◌, ◌==◌, Bool, false, if◌then◌else◌, List, [], ◌∷◌, ◌++◌, Option, None, Some, drop, take, ⊤}
use Rattle.std.specs.List.{All}
use Rattle.interleavings.specs.Words.{Answer, Call, Entry, HasCall, IsDriven, IsRefused, IsRun, IsStep, IsStopped, KernelState, RecordKey, Step, answer_told, call_at, call_of, entry_of, part_of, untold}
use Rattle.interleavings.specs.declared.event.Event.{Event}
use Rattle.interleavings.specs.declared.event.Event.TheVariants as events
use Rattle.interleavings.specs.declared.event.Outcome.{Outcome}
use Rattle.interleavings.specs.declared.event.Outcome.TheVariants as outcomes

-- ---- the seats of events

-- seats count from 1
abbrev pub IsSeatOf : ℕ → ℕ → Type 0
IsSeatOf seats seat = (1 ≤ seat) × (seat ≤ seats)

-- the seat that it names is one of so many
abbrev pub IsOfSeat : ℕ → Event → Type 0
IsOfSeat seats (events.Begin seat call) = IsSeatOf seats seat
IsOfSeat seats (events.Step seat) = IsSeatOf seats seat
IsOfSeat seats (events.Drive seat) = IsSeatOf seats seat
IsOfSeat seats events.Stop = ⊤

abbrev pub AreOfSeats : ℕ → List Event → Type 0
AreOfSeats seats es = All (IsOfSeat seats) es

-- ---- what happens

-- a drive, at the pseudokeys that this function gives
pub record Drives {K : Type 0} (hash : RecordKey → ℕ) (seat : ℕ) (did : Step) (old new : KernelState K)
    : Type 0 where
  -- its steps are those of one seat
  pub run : IsRun seat (answer_told did) old new
  -- each but the last one moves
  pub driven : IsDriven hash seat did old new

-- an event with this outcome, as the kernel promises it
abbrev pub Happens : {K : Type 0} → (RecordKey → ℕ) → Event → Outcome → (old new : KernelState K) → Type 0
Happens hash (events.Begin seat call) outcomes.Begun old new = HasCall seat call old new
Happens hash (events.Begin seat call) (outcomes.Refused back fault) old new =
    IsRefused seat call (back, fault) old new
Happens hash (events.Step seat) (outcomes.Stepped did) old new = IsStep hash seat did old new
Happens hash (events.Drive seat) (outcomes.Driven did) old new = Drives hash seat did old new
Happens hash events.Stop outcomes.Stopped old new = IsStopped old new
Happens hash _ _ old new = ⊥

-- this happens first, and the rest goes on from the kernel that it leaves
pub record HappensBefore {K : Type 0} (First Rest : KernelState K → Type 0) : Type 0 where
  pub between : KernelState K
  pub first : First between
  pub rest : Rest between

-- events happen one after the other, each with its outcome
abbrev pub Runs : {K : Type 0} → (RecordKey → ℕ) → List Event → List Outcome → (old new : KernelState K) → Type 0
Runs hash [] [] old new = new ≡ old
Runs hash (e ∷ es) (o ∷ os) old new = HappensBefore (Happens hash e o old) (λ between. Runs hash es os between new)
Runs hash _ _ old new = ⊥

-- ---- what a seat is told

-- it is an event of this seat
abbrev pub is_at : ℕ → Event → Bool
is_at seat (events.Begin other call) = other == seat
is_at seat (events.Step other) = other == seat
is_at seat (events.Drive other) = other == seat
is_at seat events.Stop = false

-- the call that was begun last at its seat, where another was begun before it
abbrev pub call_begun : Event → Outcome → Option Call → Option Call
call_begun (events.Begin seat call) outcomes.Begun last = Some call
call_begun _ _ last = last

-- the call that was begun last at this seat
abbrev pub last_call : ℕ → Event → Outcome → Option Call → Option Call
last_call seat e o last = if is_at seat e then call_begun e o last else last

abbrev pub answer_in : Outcome → Option Answer
answer_in (outcomes.Stepped did) = answer_told did
answer_in (outcomes.Driven did) = answer_told did
answer_in _ = None

-- the entry of which a seat is told by an event with this outcome
abbrev pub told_by : ℕ → Event → Outcome → Option Call → List Entry
told_by seat e o last = if is_at seat e then entry_of seat last (answer_in o) else []

-- the entries of which it is told by events with these outcomes, in their order
abbrev pub told_along : ℕ → Option Call → List Event → List Outcome → List Entry
told_along seat last (e ∷ es) (o ∷ os) = told_by seat e o last ++ told_along seat (last_call seat e o last) es os
told_along seat last _ _ = []

-- a seat is told its part of what joins the journal, in the journal's order, each entry once, now or later
pub record IsToldItsPart {K : Type 0} (seat : ℕ) (es : List Event) (os : List Outcome) (old new : KernelState K)
    : Type 0 where
  pub added : List Entry
  pub journal : new.journal ≡ old.journal ++ added
  -- it was owed its last call's entry before, and may still be owed one
  pub told : told_along seat (call_of (call_at old.seats seat)) es os ++ untold seat (call_at new.seats seat)
      ≡ untold seat (call_at old.seats seat) ++ part_of seat added

-- ---- real time

-- a moment of a run, after so many of its events: what a seat was told until then stands in the journal that there is
-- then, and what it is told later joins that journal, but for the one entry that it may be owed then
pub record HasMoment {K : Type 0} (hash : RecordKey → ℕ) (many : ℕ) (es : List Event) (os : List Outcome)
    (old new : KernelState K) : Type 0 where
  pub between : KernelState K
  pub before : Runs hash (take many es) (take many os) old between
  pub behind : Runs hash (drop many es) (drop many os) between new
  pub told_before : (seat : ℕ) → IsToldItsPart seat (take many es) (take many os) old between
  pub told_behind : (seat : ℕ) → IsToldItsPart seat (drop many es) (drop many os) between new

-- the journal is a linearization (Herlihy and Wing 1990): a call that began after another was answered stands after it
abbrev pub IsLinearized : {K : Type 0} → (RecordKey → ℕ) → List Event → List Outcome → (old new : KernelState K) →
    Type 0
IsLinearized hash es os old new = (many : ℕ) → HasMoment hash many es os old new
