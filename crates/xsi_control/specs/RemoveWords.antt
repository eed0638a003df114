-- Words of the crates below, under one name.
pub use Rattle.queue_records.specs.bucket_page.Keys.{is_same}
pub use Rattle.queue_records.specs.bucket_page.declared.record_key.RecordKey.{RecordKey}
pub use Rattle.numbers.proofs.Tests.{both_true}
pub use Rattle.numbers.specs.declared.limits.TheConstants.{MAX_MESSAGES}
pub use Rattle.page_locks.specs.declared.lock.LockName.{LockName}
pub use Rattle.queue_model.proofs.ListLemmas.{find-Some}
pub use Rattle.queue_model.specs.Lawful.{AreKeysApart, IsLawful, IsLawfulMessage, IsLawfulQueue}
pub use Rattle.queue_model.specs.Rules.{has_id, has_key, is_key, outcome, with_message, with_settings, without_message, without_queue}
pub use Rattle.queue_model.specs.State.{State}
pub use Rattle.queue_model.specs.declared.answer.Answer.{Answer}
pub use Rattle.queue_model.specs.declared.answer.Answer.TheVariants.{Done, Id, Info, Received, Refused, Sent}
pub use Rattle.queue_model.specs.declared.call.Call.{Call}
pub use Rattle.queue_model.specs.declared.call.Call.TheVariants.{Get, Receive, Remove, Send, Set, Stat}
pub use Rattle.queue_model.specs.declared.caller.Caller.{Caller}
pub use Rattle.queue_model.specs.declared.message.Message.{Message}
pub use Rattle.queue_model.specs.declared.queue.Queue.{Queue}
pub use Rattle.queue_records.specs.Fields.{type_number}
pub use Rattle.queue_records.specs.Keys.{guard_of, key_of_key, key_of_message, key_of_queue, key_of_type}
pub use Rattle.queue_records.specs.Range.{IsInRange}
pub use Rattle.queue_records.specs.Spelling.{counter_key, key_of}
pub use Rattle.queue_records.specs.declared.counter.Counter.{Counter}
pub use Rattle.queue_records.specs.declared.layout.TheConstants.{COUNTER, KEY, MESSAGE, QUEUE, TYPE}
pub use Rattle.queue_records.specs.declared.message_entry.MessageEntry.{MessageEntry}
pub use Rattle.queue_records.specs.declared.queue_entry.QueueEntry.{QueueEntry}
pub use Rattle.queue_records.specs.declared.record.Record.{Record}
pub use Rattle.std.specs.List.{All, AllPairs, Contains, filter, find, list_any, position_or_len, remove}
pub use Rattle.xsi_inquiry.proofs.of_type_chains.Cases.{found_id}
pub use Rattle.xsi_inquiry.proofs.of_type_chains.Limits.{in_range, lawful_queue}
pub use Rattle.xsi_inquiry.proofs.of_type_chains.Members.{contains_tail, head_or_tail, in_map}
pub use Rattle.xsi_inquiry.proofs.of_type_chains.TypesStand.{are_types_of}
pub use Rattle.xsi_inquiry.proofs.of_type_chains.Unique.{PassesOnce, find_one, key_has, pairs_head, pairs_tail, pairs_unmap}
pub use Rattle.xsi_inquiry.specs.type_chains.Entries.{counter_of, key_entry, message_entry, queue_entry, type_entry}
pub use Rattle.xsi_inquiry.specs.type_chains.Image.{key_records, message_records, queue_records, type_records}
pub use Rattle.xsi_inquiry.specs.type_chains.Lists.{is_of_type, serials, types}
pub use Rattle.xsi_inquiry.specs.type_chains.Neighbours.{first_of}
pub use Rattle.xsi_inquiry.specs.type_chains.Others.{queue_of}
pub use Rattle.xsi_inquiry.specs.type_chains.RecordOf.{at_counter, at_key, at_queue, at_queue_of, has_number, has_serial, message_record, record_of, type_record}
pub use Rattle.xsi_inquiry.proofs.LeadLemmas.{Fills, IsNew, Misses, leads_by}
pub use Rattle.xsi_inquiry.proofs.SeekLemmas.{clash, found_told, none_found, queue_is_taken}
pub use Rattle.xsi_inquiry.specs.Deciding.{IsSwept}
pub use Rattle.xsi_inquiry.specs.Owning.{Ascend, IsBefore}
pub use Rattle.xsi_inquiry.specs.Seeking.{IsEntryOf, IsKeyed}
pub use Rattle.xsi_inquiry.specs.Sweeping.{IsTurn, has_type_number, message_left, swept, type_left}
pub use Rattle.xsi_inquiry.specs.Telling.{IsFiled, IsTold}
pub use Rattle.xsi_inquiry.specs.Writing.{Leads, Plan, Records, key_written, value_length, writes_of}
pub use Rattle.xsi_inquiry.specs.declared.wanted.Wanted.TheVariants.{At}
pub use Rattle.xsi_inquiry.specs.declared.write.Write.{Write}
pub use Rattle.xsi_inquiry.specs.declared.write.Write.TheVariants.{Delete, Replace}
