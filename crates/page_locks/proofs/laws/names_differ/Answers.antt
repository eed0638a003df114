use Rattle.std.proofs.Common.{ap, sym, ◌∙◌}
use Rattle.page_locks.specs.Locks.{is_same}
use Rattle.page_locks.proofs.NameLemmas.{is_same-itself, is_same-true}
use Rattle.page_locks.proofs.laws.names_differ.Goals as goal

pub returns : goal.returns
returns c = λ a b. (is_same-true a b, λ e. ap (is_same a) (sym e) ∙ is_same-itself a)
