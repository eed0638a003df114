use Rattle.std.proofs.Common.{w64}
use Rattle.std.proofs.lemmas.Int.{to_z-of_z}
use Rattle.queue_commands.proofs.AskLemmas.{sends}
use Rattle.queue_commands.proofs.sending.send_one.Goals as goal

-- a Send that does not wait is answered by a serial, or refused
pub returns : goal.returns
returns g c = λ o a s stands. rw c.serial_in.ensures (
    sends a c.args.moment s (g.A.Answering.stands c.answer.new.self o a) (g.A.Answering.lacks c.answer.new.self o a)
    c.answer.result c.args.mtype c.args.id c.args.body.now _ c.in_ok-try_copy.field-0
    (to_z-of_z w64 c.args.mtype c.ranges.mtype) c.in_ok-try_copy.ensures (c.answer.ensures o a s stands))
