-- Words of the crates below, under one name for the proofs of this one.
pub use Rattle.queue_model.proofs.LawfulLemmas.{IsLawful-Effect, IsLawful-create}
pub use Rattle.queue_records.proofs.Lengths.{length-counter, length-queue}
pub use Rattle.xsi_inquiry.proofs.of_type_chains.Limits.{in_range}
pub use Rattle.xsi_inquiry.proofs.of_type_chains.Tests.{by_guard, mapped}
pub use Rattle.xsi_inquiry.proofs.DecisionLemmas.{decides_left, decides_refused}
pub use Rattle.xsi_inquiry.proofs.LeadLemmas.{Fills, IsNew, Misses, MissesRecord, leads_by}
pub use Rattle.numbers.proofs.Tests.{both_true}
pub use Rattle.queue_model.proofs.EffectLemmas.{Effect-outcome}
pub use Rattle.queue_model.proofs.ListLemmas.{find-None, position_None}
pub use Rattle.queue_model.specs.declared.answer.Answer.TheVariants.{Info}
pub use Rattle.queue_model.specs.declared.call.Call.TheVariants.{Stat}
pub use Rattle.queue_model.specs.declared.permissions.Permissions.{Permissions}
pub use Rattle.queue_records.specs.declared.key_entry.KeyEntry.{KeyEntry}
pub use Rattle.queue_records.specs.declared.layout.TheConstants.{COUNTER, KEY, MESSAGE, QUEUE, TYPE}
pub use Rattle.std.proofs.Common.{Bool, List, None, Option, Some, [], ap, arith, cond, false, length, refl, subst, sym, true, ℕ, ◌++◌, ◌+◌, ◌<◌, ◌∙◌, ◌∷◌, ◌≡◌, ◌≤◌}
pub use Rattle.std.proofs.lemmas.Bool.{eqb-true}
pub use Rattle.std.proofs.lemmas.Bool.Decides.{Decides-eqb, nat_tests}
pub use Rattle.std.proofs.lemmas.List.{length-append}
pub use Rattle.std.proofs.lemmas.List.Elements.{All-cons, All-head, All-nil, All-tail}
pub use Rattle.std.proofs.lemmas.List.Folds.{find-append}
pub use Rattle.std.specs.Option.{option_or}
pub use Rattle.std.specs.Prelude.{IsSome, if◌then◌else◌, option_and_then, option_map, ◌&&◌, ◌==◌}
pub use Rattle.xsi_inquiry.proofs.of_type_chains.Elements.{image_has}
pub use Rattle.xsi_inquiry.proofs.of_type_chains.OneQueueChanged.{agree_but, found_new}
pub use Rattle.xsi_inquiry.proofs.of_type_chains.Pairs.{all_of}
pub use Rattle.xsi_inquiry.proofs.of_type_chains.Unique.{key_has}
pub use Rattle.xsi_control.specs.Getting.{IsToMake, KnowsOfGet, absent_or_counted, get_locked, get_plan, id_found, key_made, key_names, key_wanted, made_names, one_more, plan_made, with_new_queue}
pub use Rattle.xsi_control.specs.Setting.{plan_by, set_entry, set_plan}
pub use Rattle.xsi_control.specs.Words.{All, AreAbsent, AscendOnTrial, Caller, Contains, Counter, EACCES, EINVAL, END_OF_IDS, ENOENT, EPERM, Err, Errno, Get, GetArguments, IsAnswered, IsBefore, IsEntryOf, IsFiled, IsFreshKey, IsLawful, IsTold, Leads, LockName, MAX_QBYTES, MAX_QUEUES, Ok, Outcome, Plan, Queue, QueueEntry, Read, Record, RecordKey, Replace, Result, Set, SetArguments, State, Write, at_counter, at_key, at_queue, at_queue_of, counter_key, counter_of, create, find, get_by, get_found, guard_of, has_id, has_key, info_in, info_of, is_key, is_owner, is_same, key_entry, key_of, key_of_key, key_of_queue, key_written, lacks_access, message_record, nat_lt, new_queue, not, nothing, on_queue, outcome, outcome_of_get, permissions_in, queue_entry, raises, record_of, refuse, set_to, stat_of, trial_rank, type_record, value_length, with_queue, with_settings}
pub use Rattle.xsi_control.specs.declared.get_inquiry.Getting.TheVariants.{Counted}
pub use Rattle.xsi_inquiry.proofs.SeekLemmas.{clash}
pub use Rattle.xsi_inquiry.specs.declared.sought.Sought.TheVariants.{Found}
pub use Rattle.xsi_inquiry.specs.declared.wanted.Wanted.TheVariants.{At}
