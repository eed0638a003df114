use Rattle.std.proofs.Common.{rules, ◌<◌, length}
use Rattle.queue_commands.specs.Cells.{cell_text}
use Rattle.queue_commands.proofs.TableLemmas.{put-cell}
use Rattle.queue_commands.proofs.text.Text.put_row.Goals as goal

-- a tab and the next cell were put
pub loop-cell-preserved : goal.loop-cell-preserved
loop-cell-preserved c =
    let i = c.loop-cell.cell-index in
    let below : i < length c.in-Some.rest.now = search rules in
    put-cell c.put_cell.new.self c.loop-cell.self c.put-in-loop-cell.new.self c.put_cell-in-loop-cell.new.self
    cell_text c.in-Some.rest.now i _ below c.loop-cell.invariant c.in_ok-put.ensures c.in_ok-put_cell-2.ensures
