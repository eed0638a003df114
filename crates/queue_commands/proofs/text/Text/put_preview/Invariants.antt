-- The bytes so far were put.
use Rattle.std.proofs.Common.{◌≡◌, ◌++◌, map, take}
use Rattle.queue_commands.specs.Cells.{printable}
use Rattle.queue_commands.proofs.text.Text.put_preview.Given as goal

abbrev pub invariant-loop-byte : goal.invariant-loop-byte
invariant-loop-byte l = l.self ≡ l.initial.self ++ map printable (take l.byte-index l.byte-items)
