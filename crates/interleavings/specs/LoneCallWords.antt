-- Words of the crates below, under one name.
pub use Rattle.files_at_rest.specs.Resting.{IsFileAtRest}
pub use Rattle.queue_model.specs.declared.answer.Answer.{Answer}
pub use Rattle.queue_model.specs.Rules.{outcome}
pub use Rattle.type_chains.specs.Fits.{HasFittingCall, HasFittingCaller}
pub use Rattle.file_pages.specs.declared.fault.FileFault.{FileFault}
pub use Rattle.xsi_calls.specs.Below.{IsFiled, StandsAt, answer_of}
pub use Rattle.xsi_calls.specs.Calling.{IsCalling}
pub use Rattle.xsi_calls.specs.CallSteps.{MakesCall}
pub use Rattle.xsi_calls.specs.Machine.{Begins, CallView, IsOver, call_left, call_locks, call_owes, conclusion_of}
pub use Rattle.xsi_calls.specs.Words.{Blocked, Call, Caller, Change, IsSeat, NearsOrSpares, PoolState, Progress, RecordKey, Records, State, Table, TrialLacksRoom, has_no_room, is_fault, its_plan, overlaid, record_of, row_of, store_of, trials_of, world}
pub use Rattle.xsi_calls.specs.declared.conclusion.Conclusion.{Conclusion}
