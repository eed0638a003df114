-- As many records as the system has, and each is one of it.
use Rattle.std.proofs.Common.{◌≡◌, sym, ◌∙◌, arith}
use Rattle.file_check.proofs.compared.has_just.Goals as goal

pub returns-clause-just : goal.returns-clause-just
returns-clause-just g c = λ is running.
    let stand = c.in_ok-stand.stand in
    let counted = c.in_ok-stand.ensures.some is in
    let same : stand ≡ c.in_ok-wanted.wanted = (let e = c.if-stand-wanted.false in omega (arith, e)) in
    record {
      lawful = c.keeps_limits.ensures;
      running = running;
      each = counted.each;
      many = sym counted.number ∙ same ∙ c.in_ok-wanted.ensures;
    }
