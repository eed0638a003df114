-- The pages were only read, so all is said of the same file.
use Rattle.std.proofs.Common.{IsTrue, sym, subst}
use Rattle.file_check.specs.Gathered.{AreJustOf}
use Rattle.file_check.specs.Words.{file_in}
use Rattle.file_check.proofs.compared.quick_system.Goals as goal

pub returns-clause-some : goal.returns-clause-some
returns-clause-some g c = λ is.
    let l = c.args.layout.now in
    let gathered = c.in_ok-system.ensures in
    subst (λ pages. AreJustOf l (file_in l pages) c.args.chain.now c.in_ok-system.system) gathered.same
    (c.in_ok-has_just.ensures.just (subst IsTrue (sym gathered.honest) is) gathered.running)

pub returns-clause-right : goal.returns-clause-right
returns-clause-right g c = λ is. c.in_ok-system.ensures.right is
