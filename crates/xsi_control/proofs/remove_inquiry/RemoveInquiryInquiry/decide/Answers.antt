use Rattle.xsi_control.proofs.remove_inquiry.RemoveInquiryInquiry.decide.Goals as goal
use Rattle.xsi_control.proofs.DecidingLemmas.{decides_removal}

-- the messages are swept, and then the queue goes
pub returns-in-Removing-clause-right : goal.returns-in-Removing-clause-right
returns-in-Removing-clause-right c room s filed knows =
    let known = rw c.in-Removing.is at knows in
    rw c.in-Removing.is (decides_removal c.args.self.now.caller c.args.id.now c.in-Removing.removal s filed known)
