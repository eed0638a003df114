-- Words of the crates below, under one name.
pub use Rattle.queue_records.specs.bucket_page.declared.record_key.RecordKey.{RecordKey}
pub use Rattle.numbers.specs.declared.limits.TheConstants.{END_OF_SERIALS, MAX_MESSAGES}
pub use Rattle.queue_model.specs.Lawful.{IsLawful, IsLawfulMessage, IsLawfulQueue}
pub use Rattle.queue_model.specs.Rules.{has_id, with_message, with_queue}
pub use Rattle.queue_model.specs.State.{State}
pub use Rattle.queue_model.specs.declared.answer.Answer.TheVariants.{Sent}
pub use Rattle.queue_model.specs.declared.call.Call.TheVariants.{Send}
pub use Rattle.queue_model.specs.declared.call.SendArguments.{SendArguments}
pub use Rattle.queue_model.specs.declared.caller.Caller.{Caller}
pub use Rattle.queue_model.specs.declared.message.Message.{Message}
pub use Rattle.queue_model.specs.declared.queue.Queue.{Queue}
pub use Rattle.queue_records.specs.Fields.{type_number}
pub use Rattle.queue_records.specs.Keys.{guard_of, key_of_message, key_of_type}
pub use Rattle.queue_records.specs.Range.{IsInRange, IsType}
pub use Rattle.queue_records.specs.Relinking.{linked, relinked, with_message_links, with_type_links}
pub use Rattle.queue_records.specs.Spelling.{key_of}
pub use Rattle.queue_records.specs.declared.layout.TheConstants.{MESSAGE, QUEUE, TYPE}
pub use Rattle.queue_records.specs.declared.links.Link.TheVariants.{LeadsTo, Stays}
pub use Rattle.queue_records.specs.declared.queue_entry.QueueEntry.{QueueEntry}
pub use Rattle.queue_records.specs.declared.record.Record.{Record}
pub use Rattle.queue_records.specs.declared.type_entry.TypeEntry.{TypeEntry}
pub use Rattle.std.specs.Int.{w64}
pub use Rattle.std.specs.List.{All, AllPairs, Contains, filter, find, fold, position_or_len}
pub use Rattle.std.specs.Ordering.{int_eq}
pub use Rattle.std.specs.Prelude.{int_lt, option_and_then, option_map, slice_index, unwrap_or}
pub use Rattle.type_chains.specs.Entries.{is_number, is_same_type, message_entry, queue_entry, type_entry}
pub use Rattle.type_chains.specs.Lists.{is_of_type, serials, serials_of_type, types, with_type}
pub use Rattle.type_chains.specs.Neighbours.{before, before_place, behind, first_of, last_of}
pub use Rattle.type_chains.specs.RecordOf.{has_number, has_serial, message_record, record_of, type_record}
pub use Rattle.type_chains.specs.Sending.{last_message, message_of, with_one_more}
pub use Rattle.xsi_inquiry.specs.Owning.{Ascend, IsOrdered, IsUnder, trial_rank, write_rank}
pub use Rattle.xsi_inquiry.specs.Telling.{IsFiled, IsTold}
pub use Rattle.xsi_inquiry.specs.Writing.{Leads, Plan, key_written, somes, value_length}
pub use Rattle.xsi_inquiry.specs.declared.wanted.Wanted.TheVariants.{At}
pub use Rattle.xsi_inquiry.specs.declared.write.Write.{Write}
pub use Rattle.xsi_inquiry.specs.declared.write.Write.TheVariants.{Relink, Replace}
