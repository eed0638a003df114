use Rattle.std.proofs.Common.{◌∙◌, sym, arith}
use Rattle.digests.proofs.PageWords.{page_digest-is}
use Rattle.digests.proofs.run.ends_in_digest.Goals as goal

pub returns : goal.returns
returns c = λ n held.
    let page = c.args.page.now in
    let is = c.digest.ensures ∙ page_digest-is n page (omega arith) _ held in
    (λ told. c.has_end.ensures.0 told ∙ is, λ sealed. c.has_end.ensures.1 (sealed ∙ sym is))
