-- The law of calls up to their Decide, which is the contract of the function of undecided_laws.rt.
use Rattle.std.specs.Prelude.{ℕ, ◌≤◌}
use Rattle.xsi_calls.specs.Undecided.{UndecidedCall, IsFresh, undecided_left}
use Rattle.xsi_calls.specs.UndecidedWords.{Call, Store}

-- the steps of a call that has just begun, if no other seat steps
abbrev pub MOST_UNDECIDED_STEPS : ℕ
MOST_UNDECIDED_STEPS = 294598

abbrev pub HaveFewSteps : Type 0
HaveFewSteps = (call : Call) (u : UndecidedCall) (s : Store) → IsFresh call u →
    undecided_left call u s ≤ MOST_UNDECIDED_STEPS
