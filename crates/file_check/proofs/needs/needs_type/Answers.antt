-- The messages of a lawful queue ascend.
use Rattle.std.proofs.Common.{sym, subst}
use Rattle.queue_model.specs.Lawful.{IsLawfulQueue}
use Rattle.file_check.proofs.needs.needs_type.Goals as goal

pub names_message-requires : goal.names_message-requires
names_message-requires c =
    let found = c.in-Some.ensures.some in
    let lawful = c.keeps_limits.ensures.queues_lawful c.in-Some.place c.queue.result.now found.within in
    (subst IsLawfulQueue (sym c.queue.ensures) lawful).serials_ascend
