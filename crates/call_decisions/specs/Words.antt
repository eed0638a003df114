-- Words of the crates below, under one name.
pub use Rattle.bucket_page.specs.declared.record_key.RecordKey.{RecordKey}
pub use Rattle.page_locks.specs.declared.lock.LockName.{LockName}
pub use Rattle.queue_model.specs.declared.answer.Answer.{Answer}
pub use Rattle.queue_model.specs.declared.call.Call.{Call}
pub use Rattle.queue_model.specs.declared.caller.Caller.{Caller}
pub use Rattle.queue_model.specs.declared.queue.Queue.{Queue}
pub use Rattle.queue_model.specs.Rules.{has_id, outcome}
pub use Rattle.queue_model.specs.State.{State}
pub use Rattle.queue_records.specs.declared.record.Record.{Record}
pub use Rattle.queue_records.specs.Keys.{guard_of}
pub use Rattle.queue_records.specs.Range.{IsInRange}
pub use Rattle.queue_records.specs.Spelling.{key_of}
pub use Rattle.type_chains.specs.Lists.{serials}
pub use Rattle.type_chains.specs.Neighbours.{first_of}
pub use Rattle.type_chains.specs.RecordOf.{record_of}
pub use Rattle.xsi_inquiry.specs.declared.decision.Decision.{Decision}
pub use Rattle.xsi_inquiry.specs.declared.decision.Sweep.{Sweep}
pub use Rattle.xsi_inquiry.specs.declared.verdict.Verdict.{Verdict}
pub use Rattle.xsi_inquiry.specs.declared.write.Write.{Write}
pub use Rattle.xsi_inquiry.specs.Deciding.{Decides, IsAnswered, IsPutOff, IsSwept, answer_of}
pub use Rattle.xsi_inquiry.specs.Writing.{AreAbsent, CanAllBe, CanBe, HasRange, Plan, Records, inserted, key_written, nothing, with_at, writes_of, written_by}
pub use Rattle.call_decisions.specs.Owing.{Owes, OwesUnder, overlaid, without_swept}
