-- Words of the crates below, under one name.
pub use Rattle.file_pages.specs.Files.{IsFilePool}
pub use Rattle.interleavings.specs.Serving.{ComesBy}
pub use Rattle.interleavings.specs.LoneCallWords.{Answer, Begins, Call, CallView, Caller, Change, Conclusion, FileFault, HasFittingCall, HasFittingCaller, IsCalling, IsFileAtRest, IsFiled, IsOver, IsSeat, MakesCall, PoolState, Progress, RecordKey, Records, StandsAt, State, Table, answer_of, call_locks, call_owes, conclusion_of, is_fault, outcome, overlaid, record_of, row_of, store_of, world}
pub use Rattle.call_decisions.specs.Owing.{Owes, Writes, owes_at}
pub use Rattle.queue_records.specs.Keys.{key_of_key, key_of_queue}
pub use Rattle.interleavings.specs.AlikeLaws.{IsUncounted}
pub use Rattle.interleavings.specs.Apart.{IsKeptApart}
pub use Rattle.interleavings.specs.SeatWords.{Counter, IsSoundWorld, Lock, UndecidedCall, counter_key}
pub use Rattle.interleavings.specs.xsi_calls.Stages.{Stage}
