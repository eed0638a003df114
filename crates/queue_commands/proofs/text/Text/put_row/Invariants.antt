-- The cells so far were put.
use Rattle.std.proofs.Common.{◌≡◌, ◌++◌, map, take}
use Rattle.queue_commands.specs.Cells.{cell_text, tabbed}
use Rattle.queue_commands.proofs.text.Text.put_row.Given as goal

abbrev pub invariant-loop-cell : goal.invariant-loop-cell
invariant-loop-cell l = l.self ≡ l.initial.self ++ tabbed (map cell_text (take l.cell-index l.rest))
