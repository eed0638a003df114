use Rattle.queue_commands.proofs.AskLemmas.{gets}
use Rattle.queue_commands.proofs.finding.get.Goals as goal

-- a Get is answered by an id, or refused
pub returns : goal.returns
returns g c = λ o a s stands. rw c.id_in.ensures (
    gets a s (g.A.Answering.stands c.answer.new.self o a) (g.A.Answering.lacks c.answer.new.self o a)
    c.answer.result c.args.call (c.answer.ensures o a s stands))
