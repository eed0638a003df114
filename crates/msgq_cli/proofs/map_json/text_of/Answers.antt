-- Its members are numbers and lists of numbers.
use Rattle.msgq_cli.specs.Maps.{map_data}
use Rattle.msgq_cli.proofs.MapLemmas.{map_whole}
use Rattle.msgq_cli.proofs.map_json.text_of.Goals as goal

pub returns : goal.returns
returns c = c.written.ensures (map_data c.args.map.now) c.in_ok-value.ensures (map_whole c.args.map.now)
