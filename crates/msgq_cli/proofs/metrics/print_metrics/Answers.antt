-- One metric behind the other.
use Rattle.msgq_cli.proofs.OutputLemmas.{Prints-then}
use Rattle.msgq_cli.proofs.metrics.print_metrics.Goals as goal

pub returns : goal.returns
returns g c =
    let start = c.args.output.now in
    let first = c.print_family.new.output in
    let second = c.print_family-2.new.output in
    let third = c.print_family-3.new.output in
    let fourth = c.print_family-4.new.output in
    let fifth = c.print_family-5.new.output in
    let sixth = c.print_family-6.new.output in
    let two = Prints-then start first second _ _ c.print_family.ensures c.print_family-2.ensures in
    let three = Prints-then start second third _ _ two c.print_family-3.ensures in
    let four = Prints-then start third fourth _ _ three c.print_family-4.ensures in
    let five = Prints-then start fourth fifth _ _ four c.print_family-5.ensures in
    let six = Prints-then start fifth sixth _ _ five c.print_family-6.ensures in
    Prints-then start sixth c.print_family-7.new.output _ _ six c.print_family-7.ensures
