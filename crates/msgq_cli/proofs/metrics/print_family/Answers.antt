-- What it is, its kind, and its values.
use Rattle.msgq_cli.proofs.OutputLemmas.{Prints-then}
use Rattle.msgq_cli.proofs.metrics.print_family.Goals as goal

pub returns : goal.returns
returns g c =
    let start = c.args.output.now in
    let kind = c.print_kind.new.output in
    let head = Prints-then start c.print_help.new.output kind _ _ c.print_help.ensures c.print_kind.ensures in
    Prints-then start kind c.print_samples.new.output _ _ head c.print_samples.ensures
