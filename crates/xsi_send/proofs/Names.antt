-- Words of the crates below, under one name for the proofs of this one.
pub use Rattle.queue_model.proofs.ListLemmas.{find-None, find-Some, position_None}
pub use Rattle.type_chains.proofs.Limits.{all_types, in_range, lawful_queue, types_stand}
pub use Rattle.type_chains.proofs.Members.{contains_head, contains_tail, head_or_tail, in_map}
pub use Rattle.type_chains.proofs.OneQueueChanged.{agree_but, found_new}
pub use Rattle.type_chains.proofs.Pairs.{all_of}
pub use Rattle.type_chains.proofs.Unique.{find_one, pairs_head, pairs_tail, types_ascend}
pub use Rattle.xsi_inquiry.proofs.LeadLemmas.{Fills, IsNew, Misses, MissesRecord, leads_by}
pub use Rattle.xsi_inquiry.proofs.SeekLemmas.{clash}
pub use Rattle.xsi_inquiry.proofs.SlotLemmas.{InSlot, all_each, each_all, ranked_ascend, slot_all}
pub use Rattle.queue_records.specs.bucket_page.Keys.{is_same}
pub use Rattle.queue_model.proofs.EffectLemmas.{Effect-outcome}
pub use Rattle.queue_model.proofs.LawfulLemmas.{IsLawful-Effect}
pub use Rattle.queue_model.specs.Selection.{total_bytes}
pub use Rattle.queue_records.proofs.Lengths.{length-queue}
pub use Rattle.queue_records.specs.declared.links.TypeLinks.{TypeLinks}
pub use Rattle.queue_records.specs.declared.message_entry.MessageEntry.{MessageEntry}
pub use Rattle.std.proofs.Common.{Bool, List, None, Option, Some, [], ap, arith, cond, false, get_or, inl, inr, length, map, of_z, pos, refl, rules, subst, suc, sym, to_z, true, zero, ℕ, ℤ, ◌++◌, ◌+◌, ◌-◌, ◌<ℤ◌, ◌<◌, ◌∙◌, ◌∷◌, ◌≡◌, ◌≤ℤ◌, ◌≤◌, ◌⊎◌}
pub use Rattle.std.proofs.lemmas.Bool.Decides.{Decides-eqb, Decides-int_eq, nat_tests}
pub use Rattle.std.proofs.lemmas.Bool.{eqb-true}
pub use Rattle.std.proofs.lemmas.Int.{ints, to_z-of_z}
pub use Rattle.std.proofs.lemmas.List.Elements.{All-cons, All-contains, All-contains_itself, All-filter, All-head, All-map, All-nil, All-push, All-tail, All-weaker, Contains-append_cases, Contains-append_left, Contains-append_right, filter-append, filter_passes}
pub use Rattle.std.proofs.lemmas.List.Sums.{fold_push}
pub use Rattle.std.proofs.lemmas.List.{append-nil, append_assoc, get_or-append-add, length-append, length-map, map-append}
pub use Rattle.std.proofs.lemmas.Option.{same_Some, slice_get-get_or, slice_get-map}
pub use Rattle.std.specs.Option.{option_eq}
pub use Rattle.std.specs.Prelude.{FitsSigned, nat_eq, nat_le, nat_lt, option_and_then, option_map, slice_get, slice_index, ◌==◌, ◌^◌, ◌≢◌}
pub use Rattle.type_chains.proofs.Elements.{All-types}
pub use Rattle.type_chains.proofs.Sends.{made_of_the_queue}
pub use Rattle.type_chains.proofs.Tests.{mapped}
pub use Rattle.type_chains.proofs.TypesStand.{are_types_of}
pub use Rattle.type_chains.specs.Fits.{HasFittingMessage, HasFittingQueue}
pub use Rattle.xsi_inquiry.proofs.StandLemmas.{message_stands, none_of_type, numbers_ascend, queue_stands, same_number, serial_tells, stands, type_found, type_stands}
pub use Rattle.xsi_inquiry.specs.Deciding.{IsAnswered}
pub use Rattle.xsi_send.specs.Knowing.{IsOpen, KnowsAt}
pub use Rattle.xsi_send.specs.Places.{IsBetween, IsPlaceOf, IsWalked}
pub use Rattle.xsi_send.specs.Planning.{behind_end, higher_write, link_if, links_behind, lower_write, new_type, plan_at, queue_write, takes_more, type_write}
pub use Rattle.xsi_send.specs.Words.{All, AllPairs, Ascend, At, Caller, Contains, END_OF_SERIALS, IsFiled, IsInRange, IsLawful, IsLawfulMessage, IsLawfulQueue, IsOrdered, IsTold, IsType, IsUnder, Leads, LeadsTo, MAX_MESSAGES, MESSAGE, Message, Plan, QUEUE, Queue, QueueEntry, Record, RecordKey, Relink, Replace, Send, SendArguments, Sent, State, Stays, TYPE, TypeEntry, Write, before, before_place, behind, filter, find, first_of, fold, guard_of, has_id, has_number, has_serial, int_eq, int_lt, is_number, is_of_type, is_same_type, key_of, key_of_message, key_of_type, key_written, last_message, last_of, linked, message_entry, message_of, message_record, position_or_len, queue_entry, record_of, relinked, serials, serials_of_type, somes, trial_rank, type_entry, type_number, type_record, types, unwrap_or, value_length, w64, with_message, with_message_links, with_one_more, with_queue, with_type, with_type_links, write_rank}
pub use Rattle.xsi_send.specs.declared.stage.Stage.TheVariants.{Done}
pub use Rattle.xsi_send.specs.declared.stage.Walk.{Walk}
pub use Rattle.xsi_send.specs.declared.type_place.TypePlace.TheVariants.{Between, Standing}
pub use Rattle.xsi_send.specs.declared.type_place.TypePlace.{TypePlace}
pub use mir.Val.{SFits}
