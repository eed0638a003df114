use Rattle.std.proofs.Common.{rules, w64}
use Rattle.std.proofs.lemmas.Int.{to_z-of_z}
use mir.Val.{SFits}
use Rattle.queue_commands.proofs.AskLemmas.{takes}
use Rattle.queue_commands.proofs.receiving.take.Goals as goal

-- a Receive that does not wait is answered by a message, or refused
pub returns : goal.returns
returns g c = λ o a s stands.
    let receiving = c.args.receiving.now in
    let fits : SFits w64 receiving.mtype = search rules in
    rw c.message_in.ensures (
    takes a c.args.moment s (g.A.Answering.stands c.answer.new.self o a)
    (g.A.Answering.lacks c.answer.new.self o a) c.answer.result receiving c.args.id _
    (to_z-of_z w64 receiving.mtype fits) (c.answer.ensures o a s stands))
