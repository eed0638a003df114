-- What the checker found is looked at.
use Rattle.command_runs.proofs.LookLemmas.{looks_on}
use Rattle.command_runs.specs.Running.{seen}
use Rattle.command_runs.proofs.looking.look_on.Goals as goal

pub returns-clause-honest : goal.returns-clause-honest
returns-clause-honest g c = λ honest.
    let was = g.D.PageDevice.fault_count c.args.device in
    let now = g.D.PageDevice.fault_count c.check-device.result.device in
    looks_on c.args.caller c.args.look.now (g.D.PageDevice.content c.args.device)
    (seen c.args.output.now.held c.look_at-came.new.output.held was now)
    c.check-device.result.found c.look_at-came.result (c.check-device.ensures.ok honest)
    (c.check-device.ensures.err honest) c.check-device.ensures.cause (c.look_at-came.ensures.looks was now)
