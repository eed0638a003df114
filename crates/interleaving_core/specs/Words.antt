-- Words of the crates below, under one name.
pub use Rattle.buffer_pool.specs.Pool.{PoolState, TellsChanged, spared}
pub use Rattle.file_pages.specs.Files.{IsReady}
pub use Rattle.page_locks.specs.Table.{IsSeat, Table, row_of, with_row}
pub use Rattle.page_locks.specs.declared.lock.Lock.{Lock}
pub use Rattle.bucket_page.specs.declared.record_key.RecordKey.{RecordKey}
pub use Rattle.queue_model.specs.declared.answer.Answer.{Answer}
pub use Rattle.queue_model.specs.declared.call.Call.{Call}
pub use Rattle.queue_model.specs.declared.caller.Caller.{Caller}
pub use Rattle.queue_model.specs.declared.entry.Entry.{Entry}
pub use Rattle.queue_model.specs.Journal.{caller_at}
pub use Rattle.step_rules.specs.declared.progress.Progress.{Progress}
pub use Rattle.xsi_calls.specs.call_writes.WriteWords.{StepHasCause}
pub use Rattle.xsi_calls.specs.Machine.{CallView, IsOver, answer_of_call, call_locks, conclusion_of}
pub use Rattle.xsi_inquiry.specs.Rooms.{Roomful}
pub use Rattle.type_chains.specs.Fits.{HasFittingCall, HasFittingCaller}
