-- Messages, bytes and limits are all that makes a queue lawful.
use Rattle.std.proofs.Common.{refl, arith}
use Rattle.queue_model.proofs.PartsLemmas.{few_bytes}
use Rattle.queue_model.proofs.queue.Queue.is_lawful.Goals as goal

pub total_bytes-requires : goal.total_bytes-requires
total_bytes-requires c =
    let lawful = c.if-not-are_lawful.ensures.0 refl in
    few_bytes c.args.self.now.messages c.args.self.now.next_serial
    (let few = c.if-len.false in omega (arith, c.len.ensures)) lawful
