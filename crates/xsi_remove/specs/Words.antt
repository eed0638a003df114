-- Words of the crates below, under one name.
pub use Rattle.record_file.specs.AccessWords.{RecordKey, PoolState, Table, Lock, Change, Store, row_of, store_of, IsReady, OnlyWrites, Progress, Moved, Blocked, Fault, Ended, WriteRecord, World, Known, Turn as StepTurn, is_fault, EndsRow, HasNoFileLock, Sees, Step, StepHasCause, IsSeat, world, FollowsRow, NearsOrSpares, HasEnded, IsKeyed, MOST_STEPS, Look, Record, RecordWrite, Remove, Write, Delete, kind_of}
pub use Rattle.record_file.specs.Purposes.{Purpose, ToFind, ToWrite, StandsAt, aimed_at, is_write}
pub use Rattle.record_file.specs.Accesses.{AccessView, Allows, HasFound, Serves, access_answer, access_facts, access_key, access_left, access_locks, access_turn, begun, searches_under}
pub use Rattle.page_locks.specs.declared.lock.LockKind.TheVariants.{Exclusive}
pub use Rattle.numbers.specs.declared.limits.TheConstants.{MAX_MESSAGES}
pub use Rattle.queue_model.specs.declared.queue.Queue.{Queue}
pub use Rattle.queue_model.specs.State.{State}
pub use Rattle.queue_records.specs.Keys.{key_of_message, key_of_type}
pub use Rattle.call_decisions.specs.Owing.{Owes, Sweeps, is_swept, overlaid}
pub use Rattle.xsi_inquiry.specs.Sweeping.{IsTurn, swept, unswept}
pub use Rattle.xsi_inquiry.specs.Telling.{IsFiled}
pub use Rattle.xsi_inquiry.specs.Writing.{Records, with_at}
pub use Rattle.xsi_inquiry.specs.declared.decision.Sweep.{Sweep}
pub use Rattle.xsi_control.specs.Turns.{IsAtTurn, begun_turn, read_of, turn_next, turn_plan}
pub use Rattle.xsi_control.specs.declared.turn.MessageRead.{MessageRead}
pub use Rattle.xsi_control.specs.declared.turn.Turn.{Turn}
