use Rattle.xsi_send.proofs.Names.{Bool, KnowsAt, false, subst, sym, takes_more, true, ◌∙◌, ◌≡◌}
use Rattle.xsi_send.proofs.Sent.{answered}
use Rattle.xsi_send.proofs.Walked.{more_taken}
use Rattle.xsi_send.proofs.send_inquiry.SendInquiryInquiry.decide.Goals as goal

-- the counts of a queue with room stay numbers
pub returns-else-takes_more-clause-right : goal.returns-else-takes_more-clause-right
returns-else-takes_more-clause-right c room s filed knows =
    let who = c.args.self.now.caller in
    let a = c.args.arguments.now in
    let (known, of) = subst (λ stage. KnowsAt who a stage s) c.in-Done.is knows in
    let more = more_taken who a c.in-Done.queue s filed known in
    let taken = subst (λ n. takes_more n c.in-Done.queue ≡ true) (sym c.len.ensures) more in
    let clash : ◌≡◌ {A = Bool} false true = sym c.if-takes_more.false ∙ c.takes_more.ensures ∙ taken in
    absurd cc

-- all is read, and the plan leads to the records after the call
pub returns-then-takes_more-clause-right : goal.returns-then-takes_more-clause-right
returns-then-takes_more-clause-right c room s filed knows =
    let who = c.args.self.now.caller in
    let a = c.args.arguments.now in
    let (known, of) = subst (λ stage. KnowsAt who a stage s) c.in-Done.is knows in
    rw c.in-Done.is (answered who a c.in-Done.queue s filed known room.bytes c.in-Done._types of)
