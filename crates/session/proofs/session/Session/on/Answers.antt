use Rattle.session.proofs.PageLemmas.{is_opened}
use Rattle.session.proofs.session.Session.on.Goals as goal

pub returns-in-Ok-open-clause-ok : goal.returns-in-Ok-open-clause-ok
returns-in-Ok-open-clause-ok g c =
    is_opened c.a_kernel_opens_at_rest.ensures c.args.caller _ _ _ _ _ c.in-Ok-open.kernel
    c.in-Ok-open.ensures.ok c.in-Ok-open.ensures.file c.in-Ok-open.ensures.cause.0
