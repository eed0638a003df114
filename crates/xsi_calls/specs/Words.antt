-- Words of the crates below, under one name.
pub use Rattle.call_writes.specs.PaymentWords.{RecordKey, PoolState, Table, Lock, Change, Store, Known, Turn, row_of, store_of, Exclusive, LockName, kind_of, IsReady, IsSeat, Step, OnlyWrites, NearsOrSpares, Progress, Moved, Ended, Fault, is_fault, is_write, Call, Caller, State, guard_of, record_of, Plan, Records, Owes, OwesUnder, overlaid, Settled, AreAlike, World, world, IsCarrying}
pub use Rattle.call_writes.specs.declared.due.Due.TheVariants.{Trying, Full}
pub use Rattle.call_writes.specs.declared.writes.CallWrites.{CallWrites}
pub use Rattle.call_writes.specs.Payments.{IsPaid, begun_payment, owes_now, payment_facts, payment_left, payment_locks, payment_turn}
pub use Rattle.call_writes.specs.Paying.{IsPaying}
pub use Rattle.xsi_calls.specs.PaySteps.{KeepsPayment, MakesPayment, Pays}
pub use Rattle.call_writes.specs.PaymentStages.{Stage as PaymentStage}
pub use Rattle.xsi_calls.specs.UndecidedWords.{Agrees, AreNames, AreNamesOf, AskStep, AsksAtOnce, At, Blocked, IsBare, Kind, KnowsNear, MAX_NAMES, MovesAlong, QuestionsView, SearchesOnce, Sees, TrialLacksRoom, Way, Writes, WritesAtOnce, at, caller_of, finds_behind, locked_of, nothing, stops_on, stops_through, with_row}
pub use Rattle.xsi_calls.specs.Undecided.{CanDecide, IsCalm, IsFresh, has_no_room, its_plan, undecided_facts, undecided_left, trials_of, undecided_locks, undecided_owes, undecided_turn}
pub use Rattle.xsi_calls.specs.Knowing.{IsUndecided}
pub use Rattle.xsi_calls.specs.UndecidedSteps.{AsksOn, GoesOn, IsBehind, KeepsUndecided}
pub use Rattle.xsi_calls.specs.Deciding.{IsDecided}
pub use Rattle.xsi_calls.specs.declared.decided.Decided.{Decided}
pub use Rattle.xsi_calls.specs.Undecided.{Trials}
pub use Rattle.xsi_calls.specs.Undecided.{UndecidedCall}
pub use Rattle.xsi_inquiry.specs.Rooms.{HasRoom}
pub use Rattle.xsi_inquiry.specs.Telling.{most_asked}
pub use Rattle.xsi_inquiry.specs.declared.decision.Sweep.{Sweep}
