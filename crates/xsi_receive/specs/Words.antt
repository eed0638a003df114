-- Words of the crates below, under one name.
pub use Rattle.queue_records.specs.bucket_page.declared.record_key.RecordKey.{RecordKey}
pub use Rattle.queue_model.proofs.ListLemmas.{find-None-All, find-Some, map-remove}
pub use Rattle.queue_model.specs.Lawful.{IsLawful, IsLawfulMessage, IsLawfulQueue}
pub use Rattle.queue_model.specs.Rules.{has_id, outcome, put_off, receive_found, receive_from, refuse, with_queue, without_message}
pub use Rattle.queue_model.specs.Selection.{has_type, lowest_type, selected, selects, total_bytes}
pub use Rattle.queue_model.specs.State.{State}
pub use Rattle.queue_model.specs.declared.call.Call.TheVariants.{Receive}
pub use Rattle.queue_model.specs.declared.call.ReceiveArguments.{ReceiveArguments}
pub use Rattle.queue_model.specs.declared.caller.Caller.{Caller}
pub use Rattle.queue_model.specs.declared.message.Message.{Message}
pub use Rattle.queue_model.specs.declared.queue.Queue.{Queue}
pub use Rattle.queue_records.specs.Fields.{type_number}
pub use Rattle.queue_records.specs.Keys.{guard_of, key_of_message, key_of_queue, key_of_type}
pub use Rattle.queue_records.specs.declared.message_entry.MessageEntry.{MessageEntry}
pub use Rattle.queue_records.specs.declared.queue_entry.QueueEntry.{QueueEntry}
pub use Rattle.queue_records.specs.declared.record.Record.{Record}
pub use Rattle.queue_records.specs.declared.type_entry.TypeEntry.{TypeEntry}
pub use Rattle.std.specs.List.{All, AllPairs, Contains, filter, find, position_or_len, remove}
pub use Rattle.std.specs.Ordering.{int_eq}
pub use Rattle.std.specs.Prelude.{FitsSigned, nat_abs, option_and_then, option_map, slice_get, take}
pub use Rattle.type_chains.proofs.Limits.{all_types, in_range, lawful_queue}
pub use Rattle.type_chains.proofs.Members.{contains_head, contains_tail, head_or_tail}
pub use Rattle.type_chains.proofs.OneQueueChanged.{agree_but, found_new}
pub use Rattle.type_chains.proofs.Tests.{key_is, mapped}
pub use Rattle.type_chains.proofs.TypesStand.{are_types_of}
pub use Rattle.type_chains.proofs.Unique.{find_one, numbers_apart, pairs_head, pairs_tail, types_ascend}
pub use Rattle.type_chains.specs.Entries.{is_number, is_same_type, message_entry, queue_entry, type_entry}
pub use Rattle.type_chains.specs.Lists.{is_of_type, serials, serials_of_type, types}
pub use Rattle.type_chains.specs.Neighbours.{before, before_place, behind, first_of, last_of}
pub use Rattle.type_chains.specs.RecordOf.{has_number, has_serial, message_record, record_of, type_record}
pub use Rattle.xsi_inquiry.proofs.LeadLemmas.{Fills, Misses, leads_by}
pub use Rattle.xsi_inquiry.proofs.SlotLemmas.{Climb, HasRank, InSlot, all_each, each_all, ranked_ascend, somes_each}
pub use Rattle.xsi_inquiry.specs.Owning.{Ascend, IsBefore, write_rank}
pub use Rattle.xsi_inquiry.specs.Rooms.{Roomful}
pub use Rattle.xsi_inquiry.specs.Telling.{IsFiled, IsTold}
pub use Rattle.xsi_inquiry.specs.Writing.{Leads, key_written, somes, value_length}
pub use Rattle.xsi_inquiry.specs.declared.write.Write.{Write}
pub use Rattle.xsi_inquiry.specs.declared.write.Write.TheVariants.{Delete, Relink, Replace}
