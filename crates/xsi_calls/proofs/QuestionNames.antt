-- Words of the crates below, under one name.
pub use Rattle.call_writes.specs.call_decisions.Anything.{IsOfKind}
pub use Rattle.call_writes.specs.call_decisions.InquiryWords.{Plan, nothing}
pub use Rattle.xsi_calls.proofs.of_call_decisions.AskLemmas.{ask_under_names}
pub use Rattle.xsi_calls.proofs.of_call_decisions.GrowLemmas.{names_grow}
pub use Rattle.xsi_calls.proofs.of_call_decisions.NamesLemmas.{take_in_order}
pub use Rattle.xsi_calls.proofs.of_call_decisions.Words.{GetInquiry, Getting, Lock, ReceiveInquiry, RemoveInquiry, SendInquiry, SetInquiry, Sought, StatInquiry, get_locked, get_wanted, if_of, key_of_key, key_of_message, key_of_queue, key_of_type, key_wanted, of_get, of_receive, of_remove, of_send, of_set, of_stat, set_wanted, sought_next}
pub use Rattle.xsi_calls.proofs.of_call_decisions.WriteLemmas.{write_under_names}
pub use Rattle.xsi_calls.specs.call_decisions.NameLaws.{KeepsNames}
pub use Rattle.xsi_calls.specs.call_decisions.Names.{by_phase, exclusively, queue_for}
pub use Rattle.queue_model.specs.numbers.declared.limits.TheConstants.{MAX_QBYTES}
pub use Rattle.page_locks.specs.Locks.{kind_of}
pub use Rattle.page_locks.specs.declared.lock.LockKind.{LockKind}
pub use Rattle.queue_model.specs.Rules.{has_id}
pub use Rattle.queue_model.specs.declared.call.GetArguments.{GetArguments}
pub use Rattle.queue_model.specs.declared.call.ReceiveArguments.{ReceiveArguments}
pub use Rattle.queue_model.specs.declared.call.SendArguments.{SendArguments}
pub use Rattle.queue_model.specs.declared.call.SetArguments.{SetArguments}
pub use Rattle.queue_model.specs.declared.errno.Errno.{Errno}
pub use Rattle.queue_records.specs.declared.layout.TheConstants.{COUNTER, KEY, MESSAGE, QUEUE, TYPE}
pub use Rattle.queue_records.specs.declared.queue_entry.QueueEntry.{QueueEntry}
pub use Rattle.step_rules.specs.Searching.{WalksTo}
pub use Rattle.xsi_control.specs.Getting.{get_left, get_plan, one_more, plan_made}
pub use Rattle.xsi_control.specs.Setting.{plan_by, plan_on, set_entry, set_plan}
pub use Rattle.xsi_inquiry.specs.Seeking.{Tells, asks_of_sought, reads_left}
pub use Rattle.xsi_control.specs.Removing.{key_deletion, names_of}
