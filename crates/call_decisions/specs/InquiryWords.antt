-- Words of the crates below, under one name.
pub use Rattle.page_locks.specs.declared.lock.LockName.{LockName}
pub use Rattle.queue_model.specs.State.{State}
pub use Rattle.queue_model.specs.declared.call.Call.{Call}
pub use Rattle.queue_model.specs.declared.caller.Caller.{Caller}
pub use Rattle.xsi_control.specs.queue_records.declared.record.Record.{Record}
pub use Rattle.xsi_control.specs.GetAsked.{few_of_get, get_asks, get_asks_given, get_inserts}
pub use Rattle.xsi_control.specs.Getting.{KnowsOfGet, get_decided, get_left, get_locked, get_plan, get_wanted}
pub use Rattle.xsi_control.specs.SetAsked.{few_of_set, set_asks, set_asks_given, set_inserts}
pub use Rattle.xsi_control.specs.Setting.{set_decided, set_plan, set_wanted}
pub use Rattle.xsi_control.specs.Stating.{stat_decided}
pub use Rattle.xsi_control.specs.declared.get_inquiry.GetInquiry.{GetInquiry}
pub use Rattle.xsi_control.specs.declared.set_inquiry.SetInquiry.{SetInquiry}
pub use Rattle.xsi_control.specs.declared.stat_inquiry.StatInquiry.{StatInquiry}
pub use Rattle.xsi_control.specs.xsi_inquiry.Agreeing.{AgreesFor, IsCovered}
pub use Rattle.xsi_control.specs.xsi_inquiry.Deciding.{InsertsOnlyFor}
pub use Rattle.xsi_control.specs.xsi_inquiry.Rooms.{Roomful}
pub use Rattle.xsi_control.specs.xsi_inquiry.Seeking.{Tells, reads_left, sought_next}
pub use Rattle.xsi_control.specs.xsi_inquiry.Telling.{IsTold, IsToldGiven}
pub use Rattle.xsi_control.specs.xsi_inquiry.Writing.{IsSmall, Plan, nothing}
pub use Rattle.xsi_control.specs.xsi_inquiry.declared.decision.Decision.{Decision}
pub use Rattle.xsi_control.specs.xsi_inquiry.declared.inquiry.NotASystem.{NotASystem}
pub use Rattle.xsi_control.specs.xsi_inquiry.declared.wanted.Wanted.{Wanted}
pub use Rattle.xsi_receive.specs.declared.receive_inquiry.ReceiveInquiry.{ReceiveInquiry}
pub use Rattle.xsi_send.specs.declared.send_inquiry.SendInquiry.{SendInquiry}
pub use Rattle.xsi_control.specs.declared.remove_inquiry.RemoveInquiry.{RemoveInquiry}
