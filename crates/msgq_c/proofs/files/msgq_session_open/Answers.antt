-- A handle without a session keeps what was opened.
use Rattle.msgq_c.proofs.HandleLemmas.{opened_in, opened_so}
use Rattle.msgq_c.proofs.files.msgq_session_open.Goals as goal

pub returns : goal.returns
returns c =
    rw (← c.caller-caller.ensures) (opened_in _ c.args.handle.now.is_open _ c.args.handle.now.held.session _
    c.args.handle.now.agrees c.if-handle.false
    (opened_so _ _ c.open.result c.keep.result c.keep.new.handle.held.session c.open.ensures.ok c.keep.ensures))
