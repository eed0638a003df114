use Rattle.std.proofs.Common.{◌≡◌, ◌∙◌, ap, sym}
use Rattle.msgq_c.specs.Arguments.{send_of}
use Rattle.msgq_c.proofs.HandleLemmas.{not_made}
use Rattle.msgq_c.proofs.calls.msgq_session_send.Goals as goal

-- the call that is made is that of the bytes
pub returns : goal.returns
returns c =
    let call_is : c.call.result ≡ send_of c.args.call.now c.args.body.now =
    c.call.ensures ∙ ap (send_of c.args.call.now) (c.new.ensures ∙ c.in-Ok.ensures.items) in
    rw (← call_is) c.put.ensures

-- there is no memory for the bytes
pub returns-in_default : goal.returns-in_default
returns-in_default c =
    not_made _ _ c.args.handle.now.held.session (sym c.args.handle.now.agrees ∙ c.if-not-handle.false)
