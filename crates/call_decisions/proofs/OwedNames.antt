-- Words of the crates below, under one name.
pub use Rattle.bucket_page.specs.Keys.{is_same}
pub use Rattle.bucket_page.specs.declared.record_key.RecordKey.{RecordKey}
pub use Rattle.page_locks.specs.declared.lock.LockName.{LockName}
pub use Rattle.queue_model.specs.Rules.{has_id}
pub use Rattle.queue_model.specs.State.{State}
pub use Rattle.queue_model.specs.declared.call.Call.{Call}
pub use Rattle.queue_model.specs.declared.caller.Caller.{Caller}
pub use Rattle.queue_model.specs.declared.message.Message.{Message}
pub use Rattle.queue_model.specs.declared.queue.Queue.{Queue}
pub use Rattle.queue_records.specs.Keys.{guard_of}
pub use Rattle.queue_records.specs.Spelling.{key_of}
pub use Rattle.queue_records.specs.declared.layout.TheConstants.{TYPE, MESSAGE}
pub use Rattle.queue_records.specs.declared.record.Record.{Record}
pub use Rattle.xsi_inquiry.specs.type_chains.RecordOf.{has_serial, message_record, record_of, type_record}
pub use Rattle.xsi_inquiry.proofs.LeadLemmas.{same_keys}
pub use Rattle.xsi_inquiry.specs.Deciding.{IsAnswered, IsSwept}
pub use Rattle.xsi_inquiry.specs.Sweeping.{has_type_number, message_left, swept, type_left}
pub use Rattle.xsi_inquiry.specs.Writing.{Plan, Records, inserted, key_written, with_at, writes_of, written}
pub use Rattle.xsi_inquiry.specs.declared.decision.Sweep.{Sweep}
pub use Rattle.xsi_inquiry.specs.declared.verdict.Verdict.{Verdict}
pub use Rattle.xsi_inquiry.specs.declared.write.Write.{Write}
