-- The words of the queues' rules, from one place.
pub use Rattle.queue_model.specs.Access.{lacks_access, is_owner}
pub use Rattle.queue_model.specs.Rules.{with_settings, Outcome, outcome, refuse, put_off, on_found, on_queue, has_id, has_key, get_found, get_by, create, lacks_room, send_to, receive_found, receive_from, stat_of, set_to, remove_from, raises, with_queue, with_message}
pub use Rattle.queue_model.specs.Selection.{selected, is_too_long}
pub use Rattle.queue_model.specs.State.{State}
pub use Rattle.queue_model.specs.declared.call.Call.{Call}
pub use Rattle.queue_model.specs.declared.call.Call.TheVariants.{Get, Send, Receive, Stat, Set, Remove}
pub use Rattle.queue_model.specs.declared.call.GetArguments.{GetArguments}
pub use Rattle.queue_model.specs.declared.call.SendArguments.{SendArguments}
pub use Rattle.queue_model.specs.declared.call.ReceiveArguments.{ReceiveArguments}
pub use Rattle.queue_model.specs.declared.call.SetArguments.{SetArguments}
pub use Rattle.queue_model.specs.declared.caller.Caller.{Caller}
pub use Rattle.queue_model.specs.declared.errno.Errno.{Errno}
pub use Rattle.queue_model.specs.declared.errno.Errno.TheVariants.{EACCES, EAGAIN, EINVAL, ENOENT, ENOMSG, EPERM}
pub use Rattle.queue_model.specs.declared.permissions.Access.TheVariants.{Read, Write}
pub use Rattle.queue_model.specs.declared.message.Message.{Message}
pub use Rattle.queue_model.specs.declared.queue.Queue.{Queue}
