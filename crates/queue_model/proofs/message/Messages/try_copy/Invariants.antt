use Rattle.std.proofs.Common.{◌≡◌, take}
use Rattle.queue_model.proofs.message.Messages.try_copy.Given as goal

-- the messages so far are copied
abbrev pub invariant-loop-message : goal.invariant-loop-message
invariant-loop-message l = l.items.items ≡ take l.message-index l.message-items
