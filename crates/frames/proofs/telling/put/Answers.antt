use Rattle.std.proofs.Common.{ℕ, ◌+◌, ap}
use Rattle.frames.proofs.ToldLaws.{put_is}
use Rattle.frames.proofs.telling.put.Goals as goal

-- the parts stand behind what stood there, one after the other
pub returns-clause-ok : goal.returns-clause-ok
returns-clause-ok c =
    put_is c.args.into.now.items c.reserve.new.self.items c.put_four.new.into.items c.put_four-2.new.into.items
    c.put_four-3.new.into.items c.put_reply.new.into.items (8 + c.len_of-len.result) c.args.connection c.args.number
    c.args.reply.now c.reserve.ensures.items c.put_four.ensures.value c.put_four-2.ensures.value
    c.put_four-3.ensures.value c.put_reply.ensures (ap (λ (n : ℕ). 8 + n) c.len_of-len.ensures.value)
