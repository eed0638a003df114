use Rattle.std.proofs.Common.{rules, ◌∙◌, ◌++◌, ◌<◌, ap, length}
use Rattle.queue_commands.specs.Cells.{row_text}
use Rattle.queue_commands.proofs.TableLemmas.{put-message}
use Rattle.queue_commands.proofs.tables.put_messages.Goals as goal

-- the row of the next message was put
pub loop-place-preserved : goal.loop-place-preserved
loop-place-preserved c =
    let messages = c.args.messages.now in
    let before = c.loop-place.text in
    let below : c.loop-place.place < length messages = search rules in
    put-message c.put_row.new.self before c.put_row-in-loop-place.new.self messages c.loop-place.place
    c.get.result.now below c.get.ensures c.loop-place.invariant
    (c.in_ok-put_row-2.ensures ∙ ap (λ cells. before ++ row_text cells) c.cells_of_message.ensures)
