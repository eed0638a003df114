-- Words of the crates below, under one name.
pub use Rattle.step_rules.specs.queue_records.bucket_page.directory.page_device.Device.{HasRisen}
pub use Rattle.files_at_rest.specs.OpenedLaws.{restarted}
pub use Rattle.files_at_rest.specs.Resting.{IsFileAtRest}
pub use Rattle.interleaving_core.specs.file_check.Whole.{IsFileOf}
pub use Rattle.interleavings.specs.LoneCalls.{FoundNoRoom, IsServed}
pub use Rattle.interleavings.specs.Serving.{lacks_room}
pub use Rattle.interleavings.specs.LoneCallWords.{Answer, Begins, Call, CallView, Caller, Conclusion, FileFault, HasFittingCall, HasFittingCaller, IsOver, IsSeat, MakesCall, PoolState, Progress, RecordKey, State, Table, call_left, conclusion_of, outcome, store_of}
pub use Rattle.interleaving_core.specs.Words.{caller_at}
pub use Rattle.interleaving_core.specs.Active.{ActiveView, is_waiting}
pub use Rattle.interleaving_core.specs.Beginning.{HasCall, IsOpened, IsRefused, IsStopped}
pub use Rattle.interleaving_core.specs.Closing.{IsFlushedTo}
pub use Rattle.interleaving_core.specs.Driving.{IsDriven, IsSpent, IsStep, Moves}
pub use Rattle.interleaving_core.specs.Kernel.{IsWhole, KernelState, call_at, with_call}
pub use Rattle.interleaving_core.specs.Owing.{IsMove, IsTurn, is_failure}
pub use Rattle.interleaving_core.specs.Turn.{IsLeft, IsLeftWhenOver, MakesTurn, StaysWaiting, TakesTurn, TurnsAnew, told_of, told_when_over}
pub use Rattle.interleaving_core.specs.Waiting.{is_woken, stays_waiting}
pub use Rattle.interleaving_core.specs.declared.fault.BeginFault.{BeginFault}
pub use Rattle.interleaving_core.specs.declared.step.Step.{Step}
pub use Rattle.interleaving_core.specs.xsi_calls.Laws.{HaveFewSteps, MOST_CALL_STEPS}
