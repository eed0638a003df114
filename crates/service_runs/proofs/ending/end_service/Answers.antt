use Rattle.std.proofs.Common.{◌≡◌, refl, ap, ◌∙◌}
use Rattle.std.specs.Prelude.{is_some}
use Rattle.std.specs.Bool.{then_some}
use Rattle.numbers.specs.declared.faults.TheConstants.{FAILED}
use Rattle.service_runs.proofs.EndLemmas.{closed_ends, faulted_ends, let_go_ends}
use Rattle.service_runs.proofs.ending.end_service.Goals as goal

-- the output refused a write
pub returns-then-is_untold : goal.returns-then-is_untold
returns-then-is_untold g c =
    let fault : c.then_some-fault.result ≡ then_some (is_some c.abandon-ended.result.failure) FAILED =
    c.then_some-fault.ensures ∙ ap (λ b. then_some b FAILED) c.is_some.ensures in
    rw c.if-is_untold.true (rw fault (let_go_ends _ _ _ _ _ refl c.abandon-ended.ensures))

pub returns-in-Closed : goal.returns-in-Closed
returns-in-Closed g c = rw c.if-is_untold.false (closed_ends _ _ _ _ c.in-Closed.ensures)

pub returns-in-Fault : goal.returns-in-Fault
returns-in-Fault g c =
    rw c.if-is_untold.false (rw c.number.ensures (faulted_ends _ _ _ _ c.in-Fault.fault c.in-Fault.ensures))
