-- Words of the crates below, under one name.
pub use Rattle.files_at_rest.specs.file_check.Whole.{IsFileOf}
pub use Rattle.interleaving_core.specs.Active.{ActiveView}
pub use Rattle.interleaving_core.specs.Beginning.{HasCall, HasSystem, IsOpened, IsRefused, IsStopped}
pub use Rattle.interleaving_core.specs.Closing.{IsFlushedTo}
pub use Rattle.interleaving_core.specs.Driving.{IsDriven, IsSpent, IsStep, Moves}
pub use Rattle.interleaving_core.specs.Kernel.{KernelState, call_at, with_call}
pub use Rattle.interleaving_core.specs.Owing.{IsRun, IsTurn, answer_told, call_of, entry_of, told, untold}
pub use Rattle.interleaving_core.specs.Words.{Answer, Call, CallView, Caller, Entry, IsSeat, PoolState, Progress, RecordKey, Table, answer_of_call, caller_at, conclusion_of}
pub use Rattle.interleaving_core.specs.declared.fault.BeginFault.{BeginFault}
pub use Rattle.interleaving_core.specs.declared.step.Step.{Step}
pub use Rattle.interleavings.specs.LoneCallWords.{Begins, FileFault, HasFittingCall, HasFittingCaller, IsFileAtRest, IsOver, State, answer_of, is_fault, outcome, store_of}
pub use Rattle.interleavings.specs.Serving.{lacks_room}
pub use Rattle.files_at_rest.specs.OpenedLaws.{restarted}
pub use Rattle.page_locks.specs.declared.lock_table.TheConstants.{MAX_SEATS}
pub use Rattle.queue_model.specs.Journal.{IsLegal, LeadsAlong, after, is_of, outcome_for, part_of}
pub use Rattle.queue_model.specs.Lawful.{IsLawful}
pub use Rattle.queue_model.specs.Order.{IsFifo}
