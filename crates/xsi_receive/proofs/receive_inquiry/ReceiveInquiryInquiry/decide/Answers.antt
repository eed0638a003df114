use Rattle.xsi_receive.proofs.receive_inquiry.ReceiveInquiryInquiry.decide.Goals as goal
use Rattle.xsi_receive.proofs.DecidingLemmas.{decides_taken}

-- the message is given, and taken off its queue
pub returns-in-Taken-clause-right : goal.returns-in-Taken-clause-right
returns-in-Taken-clause-right c room s filed knows =
    let known = rw c.in-Taken.is at knows in
    rw (c.in-Taken.is, c.received.ensures) (decides_taken c.args.self.now.caller c.args._arguments.now
    c.in-Taken.removal room s filed known)
