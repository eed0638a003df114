-- The seat of an entry.
use Rattle.std.specs.Prelude.{ℕ, Option, Some, None}
use Rattle.queue_model.specs.declared.entry.Entry.TheVariants.{Decided, Stopped}
use Rattle.workers.specs.Words.{Entry}

-- a stop is of none
abbrev pub seat_of : Entry → Option ℕ
seat_of (Decided seat call answer) = Some seat
seat_of Stopped = None
