use Rattle.std.proofs.Common.{ℕ, nat_eq, ap, ◌∙◌}
use Rattle.numbers.proofs.UnionLaws.{union_is_zero}
use Rattle.numbers.proofs.fields.is_zero.Goals as goal

pub returns : goal.returns
returns c = ap (λ (n : ℕ). nat_eq n 0) c.union.ensures ∙ union_is_zero c.args.bytes.now
