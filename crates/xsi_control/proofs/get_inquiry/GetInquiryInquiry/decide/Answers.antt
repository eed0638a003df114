use Rattle.xsi_control.proofs.Names.{sym, ◌∙◌}
use Rattle.xsi_control.proofs.CreatingLemmas.{made}
use Rattle.xsi_control.proofs.get_inquiry.GetInquiryInquiry.decide.Goals as goal

-- a queue is made
pub returns-in-Some-clause-right : goal.returns-in-Some-clause-right
returns-in-Some-clause-right c room s filed knows =
    let who = c.args.self.now.caller in
    let a = c.args.arguments.now in
    let (makes, is) = rw c.in-Counted.is at knows in
    rw c.in-Counted.is (made who a s filed c.in-Counted.counter makes is c.in-Some.field-0
    (sym c.one_more.ensures ∙ c.in-Some.is) room.bytes)
