-- Words of the crates below, under one name.
pub use Rattle.call_decisions.specs.Anything.{asked_of, if_of, left_of, locked_of, of_get, of_receive, of_remove, of_send, of_set, of_stat, plan_of}
pub use Rattle.call_decisions.specs.InquiryWords.{GetInquiry, Plan, ReceiveInquiry, RemoveInquiry, SendInquiry, SetInquiry, StatInquiry, Wanted, get_locked, get_wanted, nothing, set_wanted, sought_next}
pub use Rattle.call_decisions.specs.declared.any_inquiry.AnyInquiry.{AnyInquiry}
pub use Rattle.bucket_page.specs.declared.record_key.RecordKey.{RecordKey}
pub use Rattle.page_locks.specs.Locks.{is_same, kind_of}
pub use Rattle.page_locks.specs.declared.lock.Lock.{Lock}
pub use Rattle.page_locks.specs.declared.lock.LockKind.{LockKind}
pub use Rattle.page_locks.specs.declared.lock.LockKind.TheVariants.{Exclusive, Read}
pub use Rattle.page_locks.specs.declared.lock.LockName.{LockName}
pub use Rattle.queue_model.specs.declared.call.Call.{Call}
pub use Rattle.queue_records.specs.Keys.{guard_of, key_of_key, key_of_message, key_of_queue, key_of_type}
pub use Rattle.queue_records.specs.Spelling.{counter_key}
pub use Rattle.queue_records.specs.declared.counter.Counter.{Counter}
pub use Rattle.xsi_control.specs.Getting.{key_names, key_wanted, made_names, making_names, one_more}
pub use Rattle.xsi_control.specs.declared.get_inquiry.Getting.{Getting}
pub use Rattle.xsi_inquiry.specs.declared.sought.Sought.{Sought}
pub use Rattle.xsi_inquiry.specs.declared.wanted.Wanted.TheVariants.{At}
pub use Rattle.xsi_control.specs.Asking.{locked_at}
pub use Rattle.xsi_control.specs.Removing.{names_of}
