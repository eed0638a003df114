use Rattle.std.proofs.Common.{None, Some, sym, ◌∙◌}
use Rattle.frames.proofs.GivenLaws.{request_is}
use Rattle.frames.proofs.reading.request.Goals as goal

-- the frame is wrong
pub returns-in_default-operation-2 : goal.returns-in_default-operation-2
returns-in_default-operation-2 c =
    request_is _ c.args.head.now _ _ None c.as_slice.ensures (sym c.read.ensures ∙ c.in-Some.is)
    (sym c.in_default-operation-2.is ∙ c.in-Ok.ensures)

-- the frame is an operation's
pub returns : goal.returns
returns c =
    request_is _ c.args.head.now _ _ (Some _) c.as_slice.ensures (sym c.read.ensures ∙ c.in-Some.is)
    (sym c.in-Some-operation.is ∙ c.in-Ok.ensures)
