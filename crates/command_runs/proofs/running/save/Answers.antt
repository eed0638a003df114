use Rattle.std.proofs.Common.{subst, sym}
use Rattle.command_runs.specs.Asking.{Pages}
use Rattle.command_runs.specs.Running.{HasFileOf}
use Rattle.command_runs.proofs.RunLemmas.{has_file, not_synced, not_written}
use Rattle.command_runs.proofs.running.save.Goals as goal

-- all is written and synced
pub returns-in-Ok-clause-ok : goal.returns-in-Ok-clause-ok
returns-in-Ok-clause-ok g c = λ honest saved s holds.
    let content = g.D.PageDevice.content in
    subst (λ (ps : Pages). HasFileOf s (content c.args.device.now) ps) (sym c.sync.ensures.same)
    (has_file c.the_pages_are_the_file.ensures s c.args.session c.write_changed-written.new.self
    (content c.args.device.now) (content c.write_changed-written.new.device)
    (c.in_default.ensures.written honest saved s holds) c.in_default.ensures.as_many)

-- it is not written
pub returns-in-Err-clause-cause : goal.returns-in-Err-clause-cause
returns-in-Err-clause-cause g c = λ s holds.
    not_written c.in-Err.fault s c.args.session c.write_changed-written.new.self _ _ holds c.in-Err.ensures.cause
    (sym c.abandon.ensures.faults)

-- or not synced
pub returns-in-Err-sync-clause-cause : goal.returns-in-Err-sync-clause-cause
returns-in-Err-sync-clause-cause g c = λ s holds.
    let count = g.D.PageDevice.fault_count in
    not_synced c.in-Err-sync.field-0 (count c.args.device.now) (count c.write_changed-written.new.device)
    (count c.sync.new.self) c.in_default.ensures.later c.in-Err-sync.ensures.cause
