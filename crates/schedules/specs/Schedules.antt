-- The words of a schedule together. docs/SCRIPTS.md, "Schedules".
use Rattle.std.specs.Prelude.{ℕ, ◌+◌, ◌==◌, ◌||◌, not, Bool, List, [], ◌∷◌, ◌++◌, length, Option, Some, None, Result, Ok, Err}
use Rattle.std.specs.List.{filter, slice_split}
use Rattle.schedules.specs.Events.{event_of}
use Rattle.schedules.specs.declared.event.Event.{Event}

-- a space, a tab, a CR or an LF
abbrev pub is_gap : ℕ → Bool
is_gap byte = byte == 32 || byte == 9 || byte == 13 || byte == 10

-- what stands between gaps
abbrev pub schedule_words : List ℕ → List (List ℕ)
schedule_words text = filter (λ word. not (length word == 0)) (slice_split is_gap text)

-- the reading goes on behind a word of this number, or ends at it
abbrev pub or_wrong : ℕ → Option Event → (Event → Result (List Event) ℕ) → Result (List Event) ℕ
or_wrong number None read_on = Err number
or_wrong number (Some event) read_on = read_on event

-- what these words ask for, the first of which has this number, behind what was read; or the number of the first wrong
-- word
abbrev pub schedule_from : ℕ → List Event → List (List ℕ) → Result (List Event) ℕ
schedule_from number events [] = Ok events
schedule_from number events (word ∷ words) =
    or_wrong number (event_of word) (λ event. schedule_from (number + 1) (events ++ event ∷ []) words)

-- what the bytes ask for, word by word, or the number of the first wrong word
abbrev pub schedule_of : List ℕ → Result (List Event) ℕ
schedule_of bytes = schedule_from 1 [] (schedule_words bytes)
