-- The text, and the line end behind it.
use Rattle.msgq_cli.proofs.OutputLemmas.{Prints-then}
use Rattle.msgq_cli.proofs.map_json.put_line.Goals as goal

pub returns : goal.returns
returns g c = Prints-then _ _ _ _ _ c.put.ensures c.put-2.ensures
