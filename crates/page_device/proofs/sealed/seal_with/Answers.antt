use Rattle.std.proofs.Common.{◌∙◌, ap, ◌++◌, rules}
use Rattle.page_device.proofs.PageLemmas.{payload_of-made, IsSealed-made}
use Rattle.page_device.proofs.sealed.seal_with.Goals as goal

pub returns-clause-sealed : goal.returns-clause-sealed
returns-clause-sealed c = λ n is.
    IsSealed-made n c.args.payload.now _ (search rules) (c.join.ensures ∙ ap (λ d. c.args.payload.now ++ d) is)

pub returns-clause-payload : goal.returns-clause-payload
returns-clause-payload c = payload_of-made c.args.payload.now c.args.digest.now _ (search rules) (search rules)
