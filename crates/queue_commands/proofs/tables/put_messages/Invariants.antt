-- The messages so far were put.
use Rattle.std.proofs.Common.{◌≡◌, ◌++◌, take}
use Rattle.queue_commands.specs.Tables.{message_rows}
use Rattle.queue_commands.proofs.tables.put_messages.Given as goal

abbrev pub invariant-loop-place : goal.invariant-loop-place
invariant-loop-place l = l.text ≡ l.initial.text ++ message_rows (take l.place l.messages)
