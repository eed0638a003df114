-- An access that has made all its steps in one go has given its page back, and one that has made none is what it was.
use Rattle.std.proofs.Common.{ap, ◌∙◌}
use Rattle.machine_trials.specs.declared.work.Work.{Work}
use Rattle.machine_trials.specs.Seats.{work_locks}
use Rattle.machine_trials.proofs.SeatLemmas.{row_through, through_ready}
use Rattle.machine_trials.proofs.work.Work.write_through.Goals as goal

pub returns-in-Access-clause-ready : goal.returns-in-Access-clause-ready
returns-in-Access-clause-ready g c =
    through_ready c.write_through.result c.args.seat c.in-Access.access c.write_through.new.self c.args.pool.now
    c.write_through.new.pool c.args.locks.now c.write_through.ensures.made c.write_through.ensures.spares
    c.write_through.ensures.failed c.requires.ready

pub returns-in-Access-clause-row : goal.returns-in-Access-clause-row
returns-in-Access-clause-row g c = λ before bare row.
    row_through c.write_through.result c.args.seat c.in-Access.access c.write_through.new.self c.args.pool.now
    c.write_through.new.pool c.args.locks.now c.write_through.ensures.made c.write_through.ensures.spares
    c.write_through.ensures.failed before
    (row ∙ ap (λ (w : Work). work_locks w before) c.in-Access.is)
