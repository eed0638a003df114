use Rattle.std.proofs.Common.{rules, ◌≡◌, ◌∙◌, ◌++◌, ◌+◌, ◌<◌, ap, length, subst, sym, take}
use Rattle.queue_commands.specs.Cells.{row_text}
use Rattle.queue_commands.specs.Tables.{queue_rows}
use Rattle.queue_commands.proofs.TableLemmas.{no_queue, put-queue}
use Rattle.queue_commands.proofs.tables.put_queues.Goals.{in-Some+in_ok-put_row-2, in_default}
use Rattle.queue_commands.proofs.tables.put_queues.Goals as goal

-- the row of the next queue was put; there is a queue at each place
pub loop-place-preserved : goal.loop-place-preserved
loop-place-preserved c =
    let queues = c.args.system.now.queues in
    let first = c.put_row.new.self in
    let before = c.loop-place.text in
    let place = c.loop-place.place in
    let below : place < length queues = search rules in
    elim c.match-info.branch [
      | in-Some+in_ok-put_row-2 w ↦
          subst (λ text. text ≡ first ++ queue_rows (take (place + 1) queues)) (sym w.text-is)
          (put-queue first before w.put_row-in-Some.new.self queues place w.in-Some.info
          (sym c.info.ensures ∙ w.in-Some.is) c.loop-place.invariant
          (w.in_ok-put_row-2.ensures ∙ ap (λ cells. before ++ row_text cells) w.cells_of_queue.ensures))
      | in_default w ↦ absurd (no_queue queues place below (sym c.info.ensures ∙ w.in_default.is))
    ]
