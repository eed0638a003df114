use Rattle.std.proofs.Common.{rules, ◌≡◌, ◌∙◌, ◌++◌, ap, map, take, take_all}
use Rattle.queue_commands.specs.Cells.{printable}
use Rattle.queue_commands.proofs.text.Text.put_preview.Goals as goal

-- all bytes of the front were put
pub returns : goal.returns
returns c =
    let items = c.front-byte-items.result.now in
    let all : take c.loop-byte.byte-index items ≡ items = take_all c.loop-byte.byte-index items (search rules) in
    c.loop-byte.invariant ∙ ap (λ l. c.args.self.now ++ map printable l) (all ∙ c.front-byte-items.ensures)
