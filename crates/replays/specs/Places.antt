-- Where each seat is in a script, and what the lines were replied. docs/SCRIPTS.md, "Schedules".
use Rattle.std.specs.Prelude.{ℕ, zero, suc, ◌≡◌, ◌≢◌, ◌<◌, ◌≤◌, ◌+◌, ◌==◌, ◌&&◌, not, Bool, IsSome, List, [], ◌∷◌, ◌++◌, length, drop, replicate, Option, Some, None, is_some, slice_get, slice_index_or, slice_set}
use Rattle.std.specs.List.{position}
use Rattle.std.specs.Option.{option_map}
use Rattle.msgq_cli.specs.declared.line.Line.{Line}
use Rattle.msgq_cli.specs.declared.reply.Reply.{Reply}
use Rattle.replays.specs.declared.progress.Place.{Place}

pub record ProgressState : Type 0 where
  -- the lines of a script that have commands
  pub lines : List Line
  -- where each seat is, from seat 1 on, and what each line was replied, if it was
  pub places : List Place
  pub replies : List (Option Reply)

-- ---- where a seat is

abbrev pub nowhere : Place
nowhere = record { next = None; under_way = None }

-- seats count from 1; a number that is no seat's has no lines
abbrev pub place_of : List Place → ℕ → Place
place_of places zero = nowhere
place_of places (suc n) = slice_index_or places n nowhere

abbrev pub with_place : List Place → ℕ → Place → List Place
with_place places zero place = places
with_place places (suc n) place = slice_set places n place

abbrev pub is_of : ℕ → Line → Bool
is_of seat line = line.seat == seat

-- the place of a seat's first line at or behind a place
abbrev pub line_from : ℕ → ℕ → List Line → Option ℕ
line_from seat from lines = option_map (λ further. from + further) (position (is_of seat) (drop from lines))

-- no line of it is under way or left
abbrev pub is_idle_for_good : Place → Bool
is_idle_for_good place = not (is_some place.next) && not (is_some place.under_way)

-- ---- the beginning

-- so many seats, of which no line was begun
abbrev pub places_at : List Line → ℕ → List Place
places_at lines zero = []
places_at lines (suc n) = places_at lines n ++ record { next = line_from (suc n) 0 lines; under_way = None } ∷ []

abbrev pub start : List Line → ℕ → ProgressState
start lines seats =
    record { lines = lines; places = places_at lines seats; replies = replicate (length lines) None }

-- ---- a line is begun, and replied

-- the next line of a seat, that at a place, is under way
abbrev pub begun : ℕ → ℕ → ProgressState → ProgressState
begun seat line s = record s {
  places = with_place s.places seat (record { next = line_from seat (line + 1) s.lines; under_way = Some line });
}

-- it is replied, and the seat is idle
abbrev pub replied : ℕ → ℕ → Reply → ProgressState → ProgressState
replied seat line reply s = record s {
  places = with_place s.places seat (record (place_of s.places seat) { under_way = None });
  replies = slice_set s.replies line (Some reply);
}

-- ---- what is always so

-- what the line at a place was replied
abbrev pub reply_at : List (Option Reply) → ℕ → Option Reply
reply_at replies line = slice_index_or replies line None

-- the line at a place is one of the seat
abbrev pub IsLineOf : List Line → ℕ → ℕ → Type 0
IsLineOf lines seat place = (line : Line) × (slice_get lines place ≡ Some line) × (line.seat ≡ seat)

-- the lines of a seat are begun in the order of the script, and each of them is replied before the next is begun
pub record IsInOrder (lines : List Line) (replies : List (Option Reply)) (seat : ℕ) (at : Place) : Type 0 where
  -- its lines before this place were begun, and no others
  pub from : ℕ
  pub next : at.next ≡ line_from seat from lines
  pub ahead : (line : ℕ) → IsLineOf lines seat line → from ≤ line → reply_at replies line ≡ None
  -- of those that were begun all are replied but the one that is under way
  pub behind : (line : ℕ) → IsLineOf lines seat line → line < from → at.under_way ≢ Some line →
      IsSome (reply_at replies line)
  pub under_way : (line : ℕ) → at.under_way ≡ Some line →
      IsLineOf lines seat line × (line < from) × (reply_at replies line ≡ None)
  -- which was begun last
  pub last : (line other : ℕ) → at.under_way ≡ Some line → IsLineOf lines seat other → other < from → other ≤ line

pub record IsSound (s : ProgressState) : Type 0 where
  pub as_many : length s.replies ≡ length s.lines
  pub in_order : (seat : ℕ) → 1 ≤ seat → seat ≤ length s.places →
      IsInOrder s.lines s.replies seat (place_of s.places seat)
