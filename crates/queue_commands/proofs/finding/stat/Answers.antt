use Rattle.queue_commands.proofs.AskLemmas.{stats}
use Rattle.queue_commands.proofs.finding.stat.Goals as goal

-- a Stat is answered by what is known of the queue, or refused
pub returns : goal.returns
returns g c = λ o a s stands. rw c.info_in.ensures (
    stats a s (g.A.Answering.stands c.answer.new.self o a) (g.A.Answering.lacks c.answer.new.self o a)
    c.answer.result c.args.id (c.answer.ensures o a s stands))
