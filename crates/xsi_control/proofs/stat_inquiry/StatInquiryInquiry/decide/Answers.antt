use Rattle.xsi_control.proofs.Names.{EACCES, Permissions, Read, [], ap, decides_left, decides_refused, info_in, lacks_access, stat_of, sym, ◌∙◌}
use Rattle.queue_model.specs.declared.call.Call.TheVariants as calls
use Rattle.xsi_inquiry.specs.declared.verdict.Verdict.TheVariants as verdicts
use Rattle.xsi_control.proofs.StatLemmas.{stat_refused, stat_told}
use Rattle.xsi_control.proofs.stat_inquiry.StatInquiryInquiry.decide.Goals as goal

-- the mode keeps the caller out
pub returns-then-keeps_out-clause-right : goal.returns-then-keeps_out-clause-right
returns-then-keeps_out-clause-right c room s filed knows =
    let who = c.args.self.now.caller in
    let id = c.args._id.now in
    let lacks = ap (λ (p : Permissions). lacks_access Read who p) (sym c.permissions_in.ensures)
    ∙ sym c.keeps_out.ensures ∙ c.if-keeps_out.true in
    rw c.refuses.ensures (decides_refused who (calls.Stat id) [] room.bytes s EACCES
    (stat_refused who id s c.in-Found.queue (rw c.in-Found.is at knows) lacks))

-- the queue is told of
pub returns-else-keeps_out-clause-right : goal.returns-else-keeps_out-clause-right
returns-else-keeps_out-clause-right c room s filed knows =
    let who = c.args.self.now.caller in
    let id = c.args._id.now in
    let lacks = ap (λ (p : Permissions). lacks_access Read who p) (sym c.permissions_in.ensures)
    ∙ sym c.keeps_out.ensures ∙ c.if-keeps_out.false in
    rw c.info_in.ensures
    (decides_left who (calls.Stat id) [] room.bytes s (verdicts.Info (info_in c.in-Found.queue))
    (stat_told who id s c.in-Found.queue (rw c.in-Found.is at knows) lacks))

-- the id has no queue
pub returns-in-Refused-clause-right : goal.returns-in-Refused-clause-right
returns-in-Refused-clause-right c room s filed knows =
    let who = c.args.self.now.caller in
    let refused = rw c.in-Refused.is at knows in
    rw c.refuses-in-Refused.ensures (decides_refused who (calls.Stat c.args._id.now) [] room.bytes s
    c.in-Refused.errno (refused (stat_of who s)))
