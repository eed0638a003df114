use Rattle.queue_model.proofs.LawfulLemmas.{IsLawfulQueue-remove}
use Rattle.queue_model.proofs.queue.Queue.give.Goals as goal

-- a queue with a message less is lawful
pub returns-clause-lawful : goal.returns-clause-lawful
returns-clause-lawful c =
    rw c.remove-message.ensures.rest
    (IsLawfulQueue-remove _ c.args.place c.args.pid c.args.arguments.now.moment c.requires.selected.within
    c.requires.lawful)
