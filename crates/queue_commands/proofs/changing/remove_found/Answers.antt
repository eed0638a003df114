use Rattle.queue_commands.proofs.AskLemmas.{removes}
use Rattle.queue_commands.proofs.changing.remove_found.Goals as goal

-- a Remove is done, or refused
pub returns : goal.returns
returns g c = λ o a s stands. rw c.done_in.ensures (
    removes a s (g.A.Answering.stands c.answer.new.self o a) (g.A.Answering.lacks c.answer.new.self o a)
    c.answer.result c.args.id (c.answer.ensures o a s stands))
