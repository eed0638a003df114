-- Which queue is named. docs/SHELL.md.
use Rattle.std.specs.Prelude.{Bool}
use Rattle.queue_model.specs.Rules.{has_id, has_key}
use Rattle.queue_model.specs.declared.queue.Queue.{Queue}
use Rattle.queue_commands.specs.declared.queue_name.QueueName.{QueueName}
use Rattle.queue_commands.specs.declared.queue_name.QueueName.TheVariants.{Key, Id}

abbrev pub is_named : QueueName → Queue → Bool
is_named (Key key) queue = has_key key queue
is_named (Id id) queue = has_id id queue
