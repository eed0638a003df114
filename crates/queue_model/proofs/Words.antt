-- The words that these proofs speak of, from one place.
pub use Rattle.queue_model.specs.declared.answer.Answer.{Answer}
pub use Rattle.queue_model.specs.declared.answer.Answer.TheVariants.{Id, Sent, Received, Info, Done, Refused}
pub use Rattle.queue_model.specs.declared.call.Call.{Call}
pub use Rattle.queue_model.specs.declared.call.Call.TheVariants.{Get, Send, Receive, Stat, Set, Remove}
pub use Rattle.queue_model.specs.declared.call.GetArguments.{GetArguments}
pub use Rattle.queue_model.specs.declared.call.SendArguments.{SendArguments}
pub use Rattle.queue_model.specs.declared.call.ReceiveArguments.{ReceiveArguments}
pub use Rattle.queue_model.specs.declared.call.SetArguments.{SetArguments}
pub use Rattle.queue_model.specs.declared.caller.Caller.{Caller}
pub use Rattle.queue_model.specs.declared.entry.Entry.{Entry}
pub use Rattle.queue_model.specs.declared.entry.Entry.TheVariants.{Decided, Stopped}
pub use Rattle.queue_model.specs.declared.errno.Errno.{Errno}
pub use Rattle.queue_model.specs.declared.message.Message.{Message}
pub use Rattle.queue_model.specs.declared.queue.Queue.{Queue}
pub use Rattle.queue_model.specs.State.{State}
