-- Words of the crates below, under one name.
pub use Rattle.queue_records.specs.bucket_page.Keys.{is_same}
pub use Rattle.queue_records.specs.bucket_page.declared.record_key.RecordKey.{RecordKey}
pub use Rattle.numbers.specs.declared.limits.TheConstants.{END_OF_IDS, MAX_QBYTES, MAX_QUEUES, SUPERUSER}
pub use Rattle.page_locks.specs.declared.lock.LockName.{LockName}
pub use Rattle.queue_model.specs.Access.{is_owner, lacks_access}
pub use Rattle.queue_model.specs.Lawful.{IsLawful}
pub use Rattle.queue_model.specs.Places.{IsFreshKey}
pub use Rattle.queue_model.specs.Rules.{Outcome, create, get_by, get_found, has_id, has_key, info_of, is_key, new_queue, on_queue, outcome, outcome_of_get, raises, refuse, set_to, stat_of, with_queue, with_settings}
pub use Rattle.queue_model.specs.State.{State}
pub use Rattle.queue_model.specs.declared.call.Call.TheVariants.{Get, Set}
pub use Rattle.queue_model.specs.declared.call.GetArguments.{GetArguments}
pub use Rattle.queue_model.specs.declared.call.SetArguments.{SetArguments}
pub use Rattle.queue_model.specs.declared.caller.Caller.{Caller}
pub use Rattle.queue_model.specs.declared.errno.Errno.{Errno}
pub use Rattle.queue_model.specs.declared.errno.Errno.TheVariants.{EACCES, EEXIST, EINVAL, ENOENT, ENOSPC, EPERM}
pub use Rattle.queue_model.specs.declared.permissions.Access.TheVariants.{Read}
pub use Rattle.queue_model.specs.declared.queue.Queue.{Queue}
pub use Rattle.queue_records.specs.Keys.{guard_of, key_of_key, key_of_queue}
pub use Rattle.queue_records.specs.Spelling.{counter_key, key_of}
pub use Rattle.queue_records.specs.declared.counter.Counter.{Counter}
pub use Rattle.queue_records.specs.declared.queue_entry.QueueEntry.{QueueEntry}
pub use Rattle.queue_records.specs.declared.record.Record.{Record}
pub use Rattle.std.specs.List.{All, Contains, find}
pub use Rattle.std.specs.Prelude.{Err, Ok, Result, nat_lt, not, option_map}
pub use Rattle.xsi_inquiry.specs.type_chains.Entries.{counter_of, key_entry, queue_entry}
pub use Rattle.xsi_inquiry.specs.type_chains.Reading.{info_in, permissions_in}
pub use Rattle.xsi_inquiry.specs.type_chains.RecordOf.{at_counter, at_key, at_queue, at_queue_of, message_record, record_of, type_record}
pub use Rattle.xsi_inquiry.specs.Deciding.{IsAnswered, refuses}
pub use Rattle.xsi_inquiry.specs.Owning.{AscendOnTrial, IsBefore, trial_rank}
pub use Rattle.xsi_inquiry.specs.Seeking.{IsEntryOf, sought_next}
pub use Rattle.xsi_inquiry.specs.Telling.{IsFiled, IsTold, IsToldGiven}
pub use Rattle.xsi_inquiry.specs.Writing.{AreAbsent, IsSmall, Leads, Plan, key_written, nothing, value_length}
pub use Rattle.xsi_inquiry.specs.declared.write.Write.{Write}
pub use Rattle.xsi_inquiry.specs.declared.write.Write.TheVariants.{Replace}
