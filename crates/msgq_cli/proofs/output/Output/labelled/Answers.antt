-- The name, and what stands in the braces.
use Rattle.msgq_cli.proofs.OutputLemmas.{Prints-then}
use Rattle.msgq_cli.proofs.output.Output.labelled.Goals as goal

pub returns : goal.returns
returns g c =
    let start = c.args.self.now in
    let id = rw c.from.ensures at c.number.ensures in
    let named = Prints-then start c.put.new.self c.put-2.new.self _ _ c.put.ensures c.put-2.ensures in
    let with_id = Prints-then start c.put-2.new.self c.number.new.self _ _ named id in
    let between = Prints-then start c.number.new.self c.put-3.new.self _ _ with_id c.put-3.ensures in
    let with_key = Prints-then start c.put-3.new.self c.key.new.self _ _ between c.key.ensures in
    Prints-then start c.key.new.self c.put-4.new.self _ _ with_key c.put-4.ensures
