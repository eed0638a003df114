-- How many bytes the records of a system are. docs/FORMAT.md, "Records".
use Rattle.std.specs.Prelude.{ℕ, ◌+◌, ◌*◌, length, option_to_list, sum_by}
use Rattle.queue_model.specs.declared.queue.Queue.{Queue}
use Rattle.queue_model.specs.Selection.{total_bytes}
use Rattle.queue_model.specs.State.{State}
use Rattle.type_chains.specs.Lists.{types}

-- those of a queue: one of 114 bytes, one of 19 for its key, one of 47 for each type, and for each message one of 51
-- and its body
abbrev pub bytes_of_queue : Queue → ℕ
bytes_of_queue q = 114 + 19 * length (option_to_list q.key) + 47 * length (types q.messages)
    + (51 * length q.messages + total_bytes q.messages)

-- beside the Counter
abbrev pub bytes_of_system : State → ℕ
bytes_of_system s = 23 + sum_by bytes_of_queue s.queues
