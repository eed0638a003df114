use Rattle.std.proofs.Common.{sym, ap, ◌∙◌, subst, Bool, Ok, Result, None, Some, is_ok, is_err}
use Rattle.std.proofs.lemmas.Bool.{true≢false}
use Rattle.file_pages.specs.declared.fault.FileFault.{FileFault}
use Rattle.xsi_remove.specs.Deeds.{next_of}
use Rattle.xsi_remove.specs.Works.{LeadsOn}
use Rattle.xsi_remove.proofs.SweepLemmas.{makes_failed, makes_kept, makes_led, makes_misheard}
use Rattle.xsi_remove.proofs.sweep.SweepTurns.step.Goals as goal

pub returns-in_default-hear : goal.returns-in_default-hear
returns-in_default-hear g c =
    makes_misheard _ c.args.seat c.step-did.result c.in-Some.field-0 c.hear.new.self c.args.pool.now c.step-did.new.pool
    c.args.locks.now c.step-did.new.locks c.args.self.now (sym c.self.view_is ∙ c.in-Some.is) c.step-did.new.self
    c.step-did.ensures c.in-Some-work.work c.in-Some-work.is c.hear.result c.hear.ensures
    (ap is_err c.in_default-hear.is)

pub returns-then-not-is_move : goal.returns-then-not-is_move
returns-then-not-is_move g c =
    makes_kept _ c.args.seat c.step-did.result c.in-Some.field-0 c.hear.new.self c.args.pool.now c.step-did.new.pool
    c.args.locks.now c.step-did.new.locks c.args.self.now (sym c.self.view_is ∙ c.in-Some.is) c.step-did.new.self
    c.step-did.ensures c.in-Some-work.work c.in-Some-work.is c.hear.result c.hear.ensures (ap is_ok c.in-Ok.is)
    (λ moved. absurd (true≢false (sym (c.is_move.ensures ∙ moved) ∙ c.if-not-is_move.true)))

pub returns-then-not-has_ended : goal.returns-then-not-has_ended
returns-then-not-has_ended g c =
    makes_kept _ c.args.seat c.step-did.result c.in-Some.field-0 c.hear.new.self c.args.pool.now c.step-did.new.pool
    c.args.locks.now c.step-did.new.locks c.args.self.now (sym c.self.view_is ∙ c.in-Some.is) c.step-did.new.self
    c.step-did.ensures c.in-Some-work.work c.in-Some-work.is c.hear.result c.hear.ensures (ap is_ok c.in-Ok.is)
    (λ moved over. true≢false (sym (c.has_ended.ensures.ended.1 over) ∙ c.if-not-has_ended.true))

pub returns-in-Ok-true : goal.returns-in-Ok-true
returns-in-Ok-true g c =
    makes_led _ c.args.seat c.step-did.result c.in-Some.field-0 c.hear.new.self c.args.pool.now c.step-did.new.pool
    c.args.locks.now c.step-did.new.locks c.args.self.now (sym c.self.view_is ∙ c.in-Some.is) c.step-did.new.self
    c.step-did.ensures c.in-Some-work.work c.in-Some-work.is c.hear.result c.hear.ensures (ap is_ok c.in-Ok.is)
    (sym c.is_move.ensures ∙ c.if-not-is_move.false) (c.has_ended.ensures.ended.0 c.if-not-has_ended.false)
    (λ key serves. c.has_ended.ensures.answered key serves c.if-not-has_ended.false) (Some c.go_on.new.self)
    (subst (λ (r : Result Bool FileFault).
    LeadsOn r (next_of (g.K.PseudoKey.of_key c.args.keys.now) c.hear.new.self) c.hear.new.self
    c.go_on.new.self) (c.in-Ok-true.is ∙ ap Ok c.in-Ok-true.field-0-test) c.go_on.ensures)

pub returns-in-Ok-false : goal.returns-in-Ok-false
returns-in-Ok-false g c =
    makes_led _ c.args.seat c.step-did.result c.in-Some.field-0 c.hear.new.self c.args.pool.now c.step-did.new.pool
    c.args.locks.now c.step-did.new.locks c.args.self.now (sym c.self.view_is ∙ c.in-Some.is) c.step-did.new.self
    c.step-did.ensures c.in-Some-work.work c.in-Some-work.is c.hear.result c.hear.ensures (ap is_ok c.in-Ok.is)
    (sym c.is_move.ensures ∙ c.if-not-is_move.false) (c.has_ended.ensures.ended.0 c.if-not-has_ended.false)
    (λ key serves. c.has_ended.ensures.answered key serves c.if-not-has_ended.false) None
    (subst (λ (r : Result Bool FileFault).
    LeadsOn r (next_of (g.K.PseudoKey.of_key c.args.keys.now) c.hear.new.self) c.hear.new.self
    c.go_on.new.self) (c.in-Ok-false.is ∙ ap Ok c.in-Ok-false.field-0-test) c.go_on.ensures).0

pub returns-in-Err : goal.returns-in-Err
returns-in-Err g c =
    makes_failed _ c.args.seat c.step-did.result c.in-Some.field-0 c.hear.new.self c.args.pool.now c.step-did.new.pool
    c.args.locks.now c.step-did.new.locks c.args.self.now (sym c.self.view_is ∙ c.in-Some.is) c.step-did.new.self
    c.step-did.ensures c.in-Some-work.work c.in-Some-work.is c.hear.result c.hear.ensures (ap is_ok c.in-Ok.is)
    (sym c.is_move.ensures ∙ c.if-not-is_move.false) (c.has_ended.ensures.ended.0 c.if-not-has_ended.false)
    (λ key serves. c.has_ended.ensures.answered key serves c.if-not-has_ended.false) c.go_on.new.self c.in-Err.fault
    (subst (λ (r : Result Bool FileFault).
    LeadsOn r (next_of (g.K.PseudoKey.of_key c.args.keys.now) c.hear.new.self) c.hear.new.self
    c.go_on.new.self) c.in-Err.is c.go_on.ensures)
