use Rattle.msgq_cli.proofs.OutputLemmas.{Prints-then}
use Rattle.msgq_cli.proofs.output.Output.mode.Goals as goal

-- one digit behind the other
pub returns : goal.returns
returns g c =
    let first = rw c.from.ensures at c.number.ensures in
    let second = rw c.from-2.ensures at c.number-2.ensures in
    let third = rw c.from-3.ensures at c.number-3.ensures in
    Prints-then c.args.self.now c.number-2.new.self c.number-3.new.self _ _
    (Prints-then c.args.self.now c.number.new.self c.number-2.new.self _ _ first second) third
