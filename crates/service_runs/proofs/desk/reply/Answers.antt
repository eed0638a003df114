use Rattle.std.proofs.Common.{◌≡◌, ◌∙◌, ℕ, true, Err, ap, sym, subst}
use Rattle.std.specs.Prelude.{◌==◌}
use Rattle.msgq_cli.specs.declared.command.Command.{Command}
use Rattle.msgq_cli.specs.declared.reply.Reply.TheVariants.{Failed}
use Rattle.service_runs.specs.Desks.{MayLackRoom}
use Rattle.service_runs.specs.Lines.{Fits, IsOfCall}
use Rattle.service_runs.proofs.FitLemmas.{call_fault, failed_alone, full_alone}
use Rattle.service_runs.proofs.desk.reply.Goals as goal

-- a fault of a call is one of four, and there is no room only for one that had something to insert
pub returns-in-Err-clause-fits : goal.returns-in-Err-clause-fits
returns-in-Err-clause-fits g c =
    let may = MayLackRoom g.N.Base.origin in
    let call = c.in-Call.call in
    subst (λ (command : Command). Fits may command (Failed c.number.result)) (sym c.in-Call.is)
    (subst (IsOfCall may call) (sym c.number.ensures)
    (call_fault may call c.in-Err.fault (λ is.
    subst may c.in-Ok.ensures (c.call.ensures.room (c.in-Err.is ∙ ap Err is)))))

-- and the seat knows of a failure
pub returns-in-Err-clause-failed : goal.returns-in-Err-clause-failed
returns-in-Err-clause-failed g c =
    λ is. c.call.ensures.failed
    (c.in-Err.is
    ∙ ap Err (failed_alone c.in-Err.fault (subst (λ (n : ℕ). (n == 62) ≡ true) c.number.ensures is)))

-- or that the session is full
pub returns-in-Err-clause-full : goal.returns-in-Err-clause-full
returns-in-Err-clause-full g c =
    λ is. c.call.ensures.full
    (c.in-Err.is ∙ ap Err (full_alone c.in-Err.fault (subst (λ (n : ℕ). (n == 61) ≡ true) c.number.ensures is)))
