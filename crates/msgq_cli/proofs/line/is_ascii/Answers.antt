use Rattle.std.proofs.Common.{◌∙◌, ap, nat_lt}
use Rattle.msgq_cli.proofs.LineLemmas.{greatest-below}
use Rattle.msgq_cli.proofs.line.is_ascii.Goals as goal

pub returns : goal.returns
returns c = ap (λ n. nat_lt n 128) c.greatest.ensures ∙ greatest-below 128 0 c.args.text.now
