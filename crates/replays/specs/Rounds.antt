-- Rounds after a schedule: of which events they are made, and where they end. docs/SCRIPTS.md, "Schedules".
use Rattle.std.specs.Prelude.{ℕ, ◌+◌, ◌*◌, ◌≡◌, ◌≤◌, ◌⊎◌, Bool, true, false, List, [], ◌∷◌, length}
use Rattle.std.specs.List.{list_all, list_any}
use Rattle.replays.specs.Events.{IsEvent, ReplayState, Stops, Times}
use Rattle.replays.specs.Places.{is_idle_for_good}
use Rattle.replays.specs.declared.deed.Deed.{Deed}
use Rattle.replays.specs.declared.deed.Deed.TheVariants as deeds
use Rattle.replays.specs.declared.replay.TheConstants.{MOST_STEPS}

-- no seat has a line that is left or under way
abbrev pub is_over : ReplayState → Bool
is_over s = list_all is_idle_for_good s.script.places

-- ---- a round

-- an event has moved its seat: a line was begun or replied, or a step was made
abbrev pub has_moved : Deed → Bool
has_moved deeds.Nothing = false
has_moved deeds.Begun = true
has_moved (deeds.Moved kind) = true
has_moved (deeds.Blocked other) = false
has_moved deeds.Waits = false
has_moved deeds.Replied = true

-- one event of each seat from this one on, in ascending order, and what came of each
abbrev pub InTurn : ℕ → List Deed → ReplayState → ReplayState → Type 0
InTurn seat [] old new = new ≡ old
InTurn seat (did ∷ more) old new = (next : ReplayState) × IsEvent seat did old next × InTurn (seat + 1) more next new

-- one event of each of so many seats, from seat 1 on; somebody moves, or nobody
pub record TakesTurns (seats : ℕ) (moves : Bool) (old new : ReplayState) : Type 0 where
  pub deeds : List Deed
  pub each : length deeds ≡ seats
  pub in_turn : InTurn 1 deeds old new
  pub moves_is : moves ≡ list_any has_moved deeds

-- where a line is left, one event of each seat
pub record IsRound (moves : Bool) (old new : ReplayState) : Type 0 where
  pub left : is_over old ≡ false
  pub turns : TakesTurns (length old.script.places) moves old new

-- ---- rounds one after the other

-- so many rounds that each move somebody
abbrev pub MovesOn : ℕ → ReplayState → ReplayState → Type 0
MovesOn rounds old new = Times (IsRound true) rounds old new

-- rounds that each move somebody, up to where no line is left, or as many were made as may be
pub record MovesToEnd (most : ℕ) (old new : ReplayState) : Type 0 where
  pub rounds : ℕ
  pub few : rounds ≤ most
  pub moves : MovesOn rounds old new
  pub ends : (is_over new ≡ true) ⊎ (rounds ≡ most)

-- so many rounds, of which the last moves nobody and each before it somebody; a line is left
pub record ComesToRest (rounds : ℕ) (old new : ReplayState) : Type 0 where
  pub moving : ℕ
  pub many : rounds ≡ moving + 1
  pub before : ReplayState
  pub moves : MovesOn moving old before
  pub rests : IsRound false before new
  pub left : is_over new ≡ false

-- such rounds, so many at most
pub record GetsStuck (most : ℕ) (old new : ReplayState) : Type 0 where
  pub rounds : ℕ
  pub few : rounds ≤ most
  pub comes : ComesToRest rounds old new

-- after the first round that moves nobody the system is stopped, and rounds go on: up to the end, or up to one that
-- again moves nobody
pub record GoesOnStopped (most : ℕ) (old new : ReplayState) : Type 0 where
  pub rounds : ℕ
  pub rest : ReplayState
  pub comes : ComesToRest rounds old rest
  pub stopped : ReplayState
  pub stops : Stops rest stopped
  -- so many may be made behind it
  pub more : ℕ
  pub all : rounds + more ≡ most
  pub goes_on : MovesToEnd more stopped new ⊎ GetsStuck more stopped new

-- ---- the whole of it

-- so many rounds may be made for the lines of a script
abbrev pub most_rounds : ReplayState → ℕ
most_rounds s = length s.script.lines * MOST_STEPS

-- the rounds after a schedule: in all of them somebody moves, or there is a stop among them
abbrev pub MakesRounds : ReplayState → ReplayState → Type 0
MakesRounds old new = MovesToEnd (most_rounds old) old new ⊎ GoesOnStopped (most_rounds old) old new
