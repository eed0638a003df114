use Rattle.std.proofs.Common.{refl, subst, inl, inr, Bool}
use Rattle.interleavings.specs.LoneKernelWords.{Call}
use Rattle.msgq_cli.specs.declared.reply.Reply.TheVariants as replies
use Rattle.session_runs.specs.Taking.{Asks, TakesCallIf}
use Rattle.session_runs.proofs.runs.call_as.Goals as goal

-- the run is full
pub returns-then-is_full : goal.returns-then-is_full
returns-then-is_full g c =
    subst
    (λ (b : Bool). TakesCallIf b c.args.caller c.args.call.now (replies.Failed 61) c.args.session.now
    c.args.session.now)
    c.if-is_full.ensures (refl, refl)

-- there is no memory for it
pub returns-in_default : goal.returns-in_default
returns-in_default g c =
    subst
    (λ (b : Bool). TakesCallIf b c.args.caller c.args.call.now (replies.Failed 60) c.args.session.now
    c.args.session.now)
    c.if-is_full.ensures (inr (record { told = refl; same = refl }))

pub returns : goal.returns
returns g c =
    subst (λ (b : Bool). TakesCallIf b c.args.caller c.args.call.now c.reply_to.result c.args.session.now
    c.ask.new.session) c.if-is_full.ensures
    (inl (record {
      result = c.ask.result;
      asks = subst (λ (m : Call). Asks c.args.caller m c.ask.result c.args.session.now c.ask.new.session)
          c.in-Ok.ensures c.ask.ensures;
      told = c.reply_to.ensures;
    }))
