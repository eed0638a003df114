-- One by one.
use Rattle.std.proofs.Common.{◌∙◌}
use Rattle.queue_model.specs.Rules.{has_id}
use Rattle.file_check.proofs.NeedsLemmas.{is_found}
use Rattle.file_check.proofs.needs.has_queue.Goals as goal

pub returns : goal.returns
returns c = c.is_some.ensures ∙ is_found (has_id c.args.id) c.args.system.now.queues c.place_of.result
    c.place_of.ensures.some c.place_of.ensures.none
