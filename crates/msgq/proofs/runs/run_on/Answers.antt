use Rattle.std.proofs.Common.{ap, sym, ◌∙◌, subst}
use Rattle.bucket_page.specs.Pseudokeys.{sha_key}
use Rattle.msgq_cli.specs.Refusals.{IsFaultAlone}
use Rattle.msgq_cli.specs.Scripts.{Parts}
use Rattle.msgq_cli.specs.declared.ending.Ending.{Ending}
use Rattle.replays.specs.Texts.{Effects}
use Rattle.service_runs.proofs.BesideLemmas.{from_prepared, no_room}
use Rattle.service_runs.specs.Beside.{RunsFrom, counted_from, origin_on}
use Rattle.workers.specs.Opening.{origin_of}
use Rattle.msgq.proofs.NewLemmas.{as_several}
use Rattle.msgq.proofs.SpelledLemmas.{script_spelled}
use Rattle.msgq.proofs.runs.run_on.Goals as goal

-- there is no memory to begin
pub returns-in_default-clause-ran : goal.returns-in_default-clause-ran
returns-in_default-clause-ran g c =
    let content = g.D.PageDevice.content c.args.device in
    let honest = g.D.PageDevice.is_honest c.args.device in
    let effects : Effects = record {
      content = content;
      left = g.D.PageDevice.content c.unrun.result.device;
      synced = g.D.PageDevice.is_synced c.unrun.result.device;
      was = g.D.PageDevice.fault_count c.args.device;
      faults = g.D.PageDevice.fault_count c.unrun.result.device;
      old = c.args.output.now;
      new = c.leave_refused.new.output;
      untold = c.unrun.result.is_untold;
    } in
    as_several c.args.script.now honest effects c.unrun.result.ending
    (sym c.is_of_one_seat.ensures ∙ c.if-is_of_one_seat.false)
    (no_room c.args.script.now (origin_on c.args.script.now honest effects) effects c.unrun.result.ending
    (ap g.D.PageDevice.content c.unrun.ensures.device)
    (subst (λ (e : Ending). IsFaultAlone 60 c.args.output.now c.leave_refused.new.output e)
    (sym c.unrun.ensures.ending) c.leave_refused.ensures)
    c.unrun.ensures.told)

-- the file was opened for the seats of the script
pub returns-in-Ok-prepare-clause-ran : goal.returns-in-Ok-prepare-clause-ran
returns-in-Ok-prepare-clause-ran g c =
    let honest = g.D.PageDevice.is_honest c.args.device in
    let prepared = c.in-Ok-prepare.prepared in
    let effects : Effects = record {
      content = g.D.PageDevice.content c.args.device;
      left = g.D.PageDevice.content c.run_prepared.result.device;
      synced = g.D.PageDevice.is_synced c.run_prepared.result.device;
      was = g.D.PageDevice.fault_count c.args.device;
      faults = g.D.PageDevice.fault_count c.run_prepared.result.device;
      old = c.args.output.now;
      new = c.run_prepared.new.output;
      untold = c.run_prepared.result.is_untold;
    } in
    as_several c.args.script.now honest effects c.run_prepared.result.ending
    (sym c.is_of_one_seat.ensures ∙ c.if-is_of_one_seat.false)
    (from_prepared c.args.script.now honest effects prepared c.in-Ok-prepare.ensures.ok c.run_prepared.result.ending
    (subst (λ (s : Parts). RunsFrom s (counted_from effects.was (origin_of (λ _. sha_key) prepared))
    (record effects { content = prepared.content }) c.run_prepared.result.ending) c.in-Ok.ensures.script_is
    (c.run_prepared.ensures.ran effects.was c.in-Ok-prepare.ensures.cause.0)))

-- ---- told of what pages mean

pub returns-in_default-clause-spelled : goal.returns-in_default-clause-spelled
returns-in_default-clause-spelled g c =
    script_spelled c.args.script.now (g.D.PageDevice.is_honest c.args.device) _ _ (returns-in_default-clause-ran g c)

pub returns-in-Ok-prepare-clause-spelled : goal.returns-in-Ok-prepare-clause-spelled
returns-in-Ok-prepare-clause-spelled g c =
    script_spelled c.args.script.now (g.D.PageDevice.is_honest c.args.device) _ _ (returns-in-Ok-prepare-clause-ran g c)
