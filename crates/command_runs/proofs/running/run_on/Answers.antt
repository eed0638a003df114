use Rattle.std.proofs.Common.{◌∙◌, refl, subst, sym, IsTrue, Ok, Err}
use Rattle.command_runs.specs.Memory.{AsksFile}
use Rattle.command_runs.specs.Asking.{Pages}
use Rattle.command_runs.specs.Running.{EndsWith, seen}
use Rattle.command_runs.proofs.RunLemmas.{ends_as, never_unprinted, undone_as}
use Rattle.command_runs.proofs.running.run_on.Goals as goal

-- it was asked, and ended on the device
pub returns-in-Ok-ask_file-clause-honest : goal.returns-in-Ok-ask_file-clause-honest
returns-in-Ok-ask_file-clause-honest g c = λ honest.
    let content = g.D.PageDevice.content in
    let count = g.D.PageDevice.fault_count in
    let asked = c.in-Ok-ask_file.asked in
    ends_as c.args.caller (content c.args.device) (content c.end.result.device) c.args.output.now.held
    c.end.new.output.held (count c.args.device) (count c.copied.new.device) (count c.end.result.device)
    c.args.request.now c.copied.ensures.later asked c.end.result.came
    (subst (λ (ps : Pages). AsksFile c.args.caller c.args.request.now ps (Ok asked)) (c.in-Ok.ensures.ok honest)
    c.in-Ok-ask_file.ensures.asks) (λ saved s holds.
    subst (λ (ps : Pages). EndsWith asked.text s ps (content c.end.result.device)
    (seen c.args.output.now.held c.end.new.output.held (count c.copied.new.device) (count c.end.result.device))
    c.end.result.came) c.copied.ensures.same
    (c.end.ensures.honest (subst IsTrue (sym c.copied.ensures.honest) honest) (c.copied.ensures.same ∙ saved) s holds))

-- nothing came of it
pub returns-in-Err-ask_file-clause-honest : goal.returns-in-Err-ask_file-clause-honest
returns-in-Err-ask_file-clause-honest g c = λ honest.
    let content = g.D.PageDevice.content in
    let count = g.D.PageDevice.fault_count in
    let output = c.args.output.now.held in
    let error = c.in-Err-ask_file.error in
    undone_as c.args.caller (content c.args.device) (content c.copied.new.device) output output (count c.args.device) 0
    (count c.copied.new.device) c.args.request.now error
    (subst (λ (ps : Pages). AsksFile c.args.caller c.args.request.now ps (Err error)) (c.in-Ok.ensures.ok honest)
    c.in-Err-ask_file.ensures.asks) refl

pub returns-in-Err-ask_file-clause-untold : goal.returns-in-Err-ask_file-clause-untold
returns-in-Err-ask_file-clause-untold g c =
    never_unprinted c.args.caller _ _ c.in-Err-ask_file.error _ c.in-Err-ask_file.ensures.asks
