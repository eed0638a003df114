-- What was written is counted, and where a page answered that page is read: so the operation's step is the access's.
use Rattle.std.proofs.Common.{◌≡◌, sym, ap, ◌∙◌, subst, true, false, is_ok}
use Rattle.std.specs.Option.{is_some}
use Rattle.std.proofs.lemmas.Bool.{true≢false}
use Rattle.record_file.proofs.AccessAimLemmas.{none_of}
use Rattle.record_file.proofs.AccessStepLemmas.{makes_other, makes_written}
use Rattle.record_file.proofs.TakeLemmas.{failed, took}
use Rattle.record_file.specs.Accesses.{AccessView}
use Rattle.record_file.specs.AccessSteps.{MakesAccess}
use Rattle.record_file.specs.Purposes.{is_write}
use Rattle.record_file.specs.Readings.{Takes}
use Rattle.record_file.specs.AccessWords.{operation_found}
use Rattle.record_file.proofs.access.Access.settle.Goals as goal

pub returns-then-is_write : goal.returns-then-is_write
returns-then-is_write g c = λ hash seat a before locks locks' had is made.
    let written : is_write c.args.did ≡ true = sym c.is_write.ensures ∙ c.if-is_write.true in
    subst (λ (v : AccessView). MakesAccess hash seat c.args.did a (record v { written = true }) before c.args.pool.now
    locks locks') (sym is ∙ sym c.self.view_is)
    (makes_written hash seat c.args.did a c.args.self.now.operation before c.args.pool.now locks locks' made written)

pub returns-then-answered : goal.returns-then-answered
returns-then-answered g c = λ hash seat a before locks locks' had is made.
    let unwritten : is_write c.args.did ≡ false = sym c.is_write.ensures ∙ c.if-is_write.false in
    let some : is_some (operation_found a.operation) ≡ true = sym had ∙ c.if-answered.true in
    subst (λ (v : AccessView). MakesAccess hash seat c.args.did a v before c.args.pool.now locks locks') (sym is)
    (makes_other hash seat c.args.did a c.args.self.now.operation before c.args.pool.now locks locks' made unwritten
    (λ looked none. absurd (true≢false (sym some ∙ ap is_some none))))

pub returns-then-not-is_look : goal.returns-then-not-is_look
returns-then-not-is_look g c = λ hash seat a before locks locks' had is made.
    let unwritten : is_write c.args.did ≡ false = sym c.is_write.ensures ∙ c.if-is_write.false in
    subst (λ (v : AccessView). MakesAccess hash seat c.args.did a v before c.args.pool.now locks locks') (sym is)
    (makes_other hash seat c.args.did a c.args.self.now.operation before c.args.pool.now locks locks' made unwritten
    (λ looked none. absurd (true≢false (sym (c.is_look.ensures.other looked) ∙ c.if-not-is_look.true))))

pub returns-in-Ok : goal.returns-in-Ok
returns-in-Ok g c = λ hash seat a before locks locks' had is made.
    let looked = c.is_look.ensures.looked c.if-not-is_look.false in
    let none = none_of (operation_found a.operation) (sym had ∙ c.if-answered.false) in
    let takes = subst (λ (v : AccessView). Takes c.take.result c.args.pool.now c.take.new.pool v c.take.new.self) is
    c.take.ensures in
    took hash seat c.args.did a c.args.self.now.operation before c.args.pool.now c.take.new.pool locks locks' made
    looked none c.take.new.self c.take.result takes (ap is_ok c.in-Ok.is) (ap is_ok c.in-Ok.is)

pub returns-in-Err : goal.returns-in-Err
returns-in-Err g c = λ hash seat a before locks locks' had is made.
    let looked = c.is_look.ensures.looked c.if-not-is_look.false in
    let none = none_of (operation_found a.operation) (sym had ∙ c.if-answered.false) in
    let takes = subst (λ (v : AccessView). Takes c.take.result c.args.pool.now c.take.new.pool v c.take.new.self) is
    c.take.ensures in
    failed hash seat c.args.did a c.args.self.now.operation before c.args.pool.now c.take.new.pool locks locks' made
    looked none c.take.new.self c.take.result takes c.in-Err.fault c.in-Err.is
