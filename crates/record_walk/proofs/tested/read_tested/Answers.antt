-- A payload that was read as a bucket is read so again.
use Rattle.std.proofs.Common.{◌∙◌, ap}
use Rattle.page_device.specs.Sealed.{payload_of}
use Rattle.record_walk.specs.Tested.{tested_in}
use Rattle.record_walk.proofs.TestedLemmas.{tested_again}
use Rattle.record_walk.proofs.tested.read_tested.Goals as goal

pub returns-clause-ok : goal.returns-clause-ok
returns-clause-ok c = λ bucket read.
    c.tested_in.ensures.value ∙ ap tested_in c.split_at.ensures.front
    ∙ tested_again (payload_of c.args.page.now) bucket read
