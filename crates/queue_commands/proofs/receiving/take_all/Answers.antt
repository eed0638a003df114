use Rattle.queue_commands.specs.Receiving.{receive_call}
use Rattle.queue_commands.proofs.ReceiveLemmas.{TakesOn-push}
use Rattle.queue_commands.proofs.receiving.take_all.Goals as goal

-- one more was taken
pub loop-taken-preserved : goal.loop-taken-preserved
loop-taken-preserved g c = λ o.
    TakesOn-push (receive_call c.args.moment c.args.receiving.now c.args.id) c.loop-taken.text
    (g.A.Answering.stands c.args.answers.now o) (g.A.Answering.stands c.loop-taken.answers o)
    (g.A.Answering.stands c.take.new.answers o) (g.A.Answering.lacks c.take.new.answers o) c.args.receiving.now.heads
    c.loop-taken.taken c.put_message.new.text c.in-Ok.message (c.loop-taken.invariant o) (c.in-Ok.ensures o)
    c.in_ok-put_message-in-Ok.ensures
