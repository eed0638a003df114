-- The searches that a call begins, told by its steps and the locks that its seat then holds. docs/STEPS.md, "Search".
use Rattle.std.specs.Prelude.{ℕ, ◌+◌, Bool, false, min, List, if◌then◌else◌}
use Rattle.step_rules.specs.declared.kind.Kind.TheVariants as kinds
use Rattle.call_writes.specs.WriteRuns.{is_to_search, last_of}
use Rattle.xsi_calls.specs.QuestionWords.{Lock, Progress, Moved}

-- by the step, behind which the seat has this row, it was granted that lock: a search has begun
abbrev pub enters_directory : {F : Type 0} → Progress F → List Lock → Bool
enters_directory (Moved kinds.Grant) row = is_to_search (last_of row)
enters_directory did row = false

-- the greatest number that is counted
abbrev pub MOST_FINDS : ℕ
MOST_FINDS = 4294967295

-- the searches behind the step, of which there were so many before it
abbrev pub finds_behind : {F : Type 0} → Progress F → List Lock → ℕ → ℕ
finds_behind did row finds = if enters_directory did row then min (finds + 1) MOST_FINDS else finds
