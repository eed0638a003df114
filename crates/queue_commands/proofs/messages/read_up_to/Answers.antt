use Rattle.std.proofs.Common.{◌≤◌, arith, length}
use Rattle.queue_commands.proofs.ReadLemmas.{all_are_read, limit_cuts}
use Rattle.queue_commands.proofs.messages.read_up_to.Goals as goal

-- where no more was read than is wanted, the byte more that could be read was not there
pub returns-in-Ok-2-clause-ok : goal.returns-in-Ok-2-clause-ok
returns-in-Ok-2-clause-ok g c =
    let text = c.read_to_end.new.buf.items in
    let few : length text ≤ c.args.most = omega (arith, c.if-len-most.false, c.len.ensures) in
    let read = limit_cuts c.take-limited.result.inner _ (λ r. g.R.Read.remaining r.now) c.args.most
    c.take-limited.result.limit c.new-text.result.items text c.take-limited.ensures.inner c.take-limited.ensures.limit
    c.new-text.ensures.items c.in-Ok.ensures.bytes in
    record { all = all_are_read c.args.most (g.R.Read.remaining c.args.reader.now) text read few; few = few }
