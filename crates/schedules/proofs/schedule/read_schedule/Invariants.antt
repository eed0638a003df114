use Rattle.std.proofs.Common.{◌≡◌, ◌+◌}
use Rattle.std.specs.Prelude.{drop}
use Rattle.schedules.specs.Words.{texts}
use Rattle.schedules.specs.Schedules.{schedule_from, schedule_of}
use Rattle.schedules.proofs.schedule.read_schedule.Given as goal

-- the words that are left go on to what all of them give
abbrev pub invariant-loop-place : goal.invariant-loop-place
invariant-loop-place l =
    schedule_from (l.place + 1) l.events.items (texts (drop l.place l.word-items)) ≡ schedule_of l.bytes
