-- Words of the crates below, under one name for the proofs of this one.
pub use Rattle.queue_records.specs.bucket_page.Keys.{is_same}
pub use Rattle.page_locks.specs.declared.lock.LockName.{LockName}
pub use Rattle.queue_model.proofs.LawfulLemmas.{IsLawful-set, IsLawfulQueue-remove}
pub use Rattle.queue_model.proofs.ListLemmas.{find-None, position_None}
pub use Rattle.queue_model.proofs.LowestLemmas.{SelectsLowestWithin-selected}
pub use Rattle.queue_model.specs.Access.{lacks_access}
pub use Rattle.queue_model.specs.Laws.{SelectsLowestWithin}
pub use Rattle.queue_model.specs.declared.errno.Errno.TheVariants.{E2BIG, ENOMSG}
pub use Rattle.queue_model.specs.declared.permissions.Access.TheVariants.{Read}
pub use Rattle.queue_records.proofs.Lengths.{length-queue}
pub use Rattle.queue_records.specs.Relinking.{linked, relinked, with_message_links, with_type_links}
pub use Rattle.queue_records.specs.declared.links.Link.TheVariants.{Stays}
pub use Rattle.queue_records.specs.declared.links.MessageLinks.{MessageLinks}
pub use Rattle.queue_records.specs.declared.links.TypeLinks.{TypeLinks}
pub use Rattle.std.proofs.Common.{Bool, List, None, Option, Some, [], ap, arith, cond, false, get_or, inl, inr, length, negsuc, pos, refl, rules, subst, suc, sym, true, w64, zero, ℕ, ℤ, ◌+◌, ◌-◌, ◌<ℤ◌, ◌<◌, ◌∙◌, ◌∷◌, ◌≡◌, ◌≤ℤ◌, ◌≤◌, ◌⊎◌}
pub use Rattle.std.proofs.lemmas.Bool.Decides.{Decides-eqb, Decides-int_eq, nat_tests}
pub use Rattle.std.proofs.lemmas.Bool.{cases_lt, eqb-true}
pub use Rattle.std.proofs.lemmas.Int.{clamps, ints, to_z-of_z}
pub use Rattle.std.proofs.lemmas.List.Edits.{get_or-remove_above, get_or-remove_below, length-remove}
pub use Rattle.std.proofs.lemmas.List.Elements.{All-cons, All-contains, All-nil}
pub use Rattle.std.proofs.lemmas.List.Folds.{find_at}
pub use Rattle.std.proofs.lemmas.List.Quantifiers.{all_pairs_remove}
pub use Rattle.std.proofs.lemmas.List.Sums.{fails_before_first, position_or_len_is, sum_by-remove}
pub use Rattle.std.proofs.lemmas.List.{get_or-map, length-map, length-take, take_all}
pub use Rattle.std.proofs.lemmas.Option.{get_or_from_slice_get, same_Some, slice_get-get_or, slice_get-map, slice_get_within}
pub use Rattle.std.specs.Prelude.{Err, IsSome, Ok, Result, int_lt, is_none, nat_abs, nat_le, option_and_then, option_map, slice_get, slice_index, take, ◌&&◌, ◌==◌, ◌≢◌}
pub use Rattle.type_chains.proofs.Elements.{filter_holds}
pub use Rattle.type_chains.specs.Reading.{permissions_in}
pub use Rattle.xsi_inquiry.proofs.SeekLemmas.{clash}
pub use Rattle.xsi_inquiry.proofs.SlotLemmas.{slot_all}
pub use Rattle.xsi_inquiry.proofs.StandLemmas.{by_number, by_serial, fine, message_stands, numbers_ascend, queue_stands, same_number, short, type_absent, type_stands, typed}
pub use Rattle.xsi_inquiry.specs.Deciding.{Decides, IsAnswered}
pub use Rattle.xsi_inquiry.specs.Seeking.{IsEntryOf}
pub use Rattle.xsi_inquiry.specs.declared.decision.Decision.TheVariants.{Answers}
pub use Rattle.xsi_inquiry.specs.declared.wanted.Wanted.TheVariants.{At}
pub use Rattle.xsi_receive.specs.Asking.{is_long, put_off_at, received}
pub use Rattle.xsi_receive.specs.Heads.{head_of}
pub use Rattle.xsi_receive.specs.Knowing.{HasRoomFor, IsItsType, KnowsAt, KnowsHead, KnowsRemoval, KnowsSerial, SelectsMessage, SelectsType}
pub use Rattle.xsi_receive.specs.Removing.{deletion_by, higher_by, is_counted, left_by, link_to, lowest_left, next_write, own_by, previous_write, queue_left, removal_plan, slots_of, to_first, to_higher, to_lower, to_next, to_previous, type_deletion, where_none}
pub use Rattle.xsi_receive.specs.Words.{All, AllPairs, Ascend, Caller, Climb, Contains, Delete, Fills, FitsSigned, HasRank, InSlot, IsBefore, IsFiled, IsLawful, IsLawfulQueue, IsTold, Leads, Message, MessageEntry, Misses, Queue, QueueEntry, Receive, ReceiveArguments, Record, RecordKey, Relink, Replace, Roomful, State, TypeEntry, Write, agree_but, all_each, are_types_of, before, before_place, behind, contains_head, contains_tail, each_all, filter, find, find-None-All, find-Some, first_of, found_new, guard_of, has_id, has_number, has_serial, has_type, head_or_tail, in_range, int_eq, is_number, is_of_type, is_same_type, key_is, key_of_message, key_of_queue, key_of_type, key_written, last_of, leads_by, lowest_type, map-remove, mapped, message_entry, message_record, outcome, pairs_head, pairs_tail, position_or_len, put_off, queue_entry, ranked_ascend, receive_found, receive_from, record_of, refuse, remove, selected, selects, serials, serials_of_type, somes, somes_each, total_bytes, type_entry, type_number, type_record, types, types_ascend, value_length, with_queue, without_message, write_rank}
pub use Rattle.xsi_receive.specs.declared.head.MessageHead.{MessageHead}
pub use Rattle.xsi_receive.specs.declared.removal.Removal.{Removal}
pub use Rattle.xsi_receive.specs.declared.removal.TypeLeft.TheVariants.{Begins, Goes}
pub use Rattle.xsi_receive.specs.declared.removal.TypeLeft.{TypeLeft}
