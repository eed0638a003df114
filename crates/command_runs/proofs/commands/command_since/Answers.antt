-- What the command has come to, once it is concluded.
use Rattle.std.proofs.Common.{◌≡◌, ◌∙◌, ap, refl, subst, sym, true}
use Rattle.std.specs.Prelude.{◌&&◌, is_ok}
use Rattle.command_runs.specs.Running.{IfUnwritten, RunsOn, seen}
use Rattle.deferred_sync.specs.Deferred.{DeferredState, Start, start_of}
use Rattle.command_runs.specs.Commands.{IsFileOfCommand}
use Rattle.deferred_sync.specs.Crash.{LeavesBeforeOrAfter}
use Rattle.command_runs.proofs.CommandLemmas.{due_of, leaves_over, runs_over, synced_over, untold_over, unwritten_over}
use Rattle.command_runs.proofs.commands.command_since.Goals as goal

pub returns-clause-honest : goal.returns-clause-honest
returns-clause-honest g c =
    let P = g.P.PagePair in
    let N = g.N.Beginning in
    let r = c.args.request.now in
    let first = c.args.output.now.held in
    let said = c.run_on.new.output.held in
    let ran = c.run_on.result in
    let old = ran.device.device in
    let new = c.conclude.result.device in
    let ended = c.conclude.result.came in
    let to = ran.device.is_due && is_ok ran.came in
    let lent = ap (λ (d : DeferredState g.row.P.Denot). d.device) c.new-device.ensures in
    let began = c.requires.start ∙ ap (start_of P.moment) (sym lent) in
    λ sure. subst (λ (s : Start). RunsOn c.args.caller r s.pages new.content (seen first said s.failed new.failed)
    ended)
    c.requires.start
    (runs_over P.is_honest P.moment P.left_since P.may_leave N.start N.left c.args.caller r first said
    ran.device.is_due old new ran.came ended to refl c.conclude.ensures
    (subst (λ (s : Start). RunsOn c.args.caller r s.pages old.content (seen first said s.failed old.failed) ran.came)
    (sym began) (c.run_on.ensures.honest sure)))

pub returns-clause-unwritten : goal.returns-clause-unwritten
returns-clause-unwritten g c =
    let P = g.P.PagePair in
    let N = g.N.Beginning in
    let r = c.args.request.now in
    let first = c.args.output.now.held in
    let said = c.run_on.new.output.held in
    let ran = c.run_on.result in
    let old = ran.device.device in
    let new = c.conclude.result.device in
    let ended = c.conclude.result.came in
    let to = ran.device.is_due && is_ok ran.came in
    let lent = ap (λ (d : DeferredState g.row.P.Denot). d.device) c.new-device.ensures in
    let began = c.requires.start ∙ ap (start_of P.moment) (sym lent) in
    subst (λ (s : Start). IfUnwritten (new.content ≡ s.pages) ended) c.requires.start
    (unwritten_over P.is_honest P.moment P.left_since P.may_leave N.start N.left c.args.caller r first said
    ran.device.is_due old new ran.came ended to refl c.conclude.ensures
    (subst (λ (s : Start). IfUnwritten (old.content ≡ s.pages) ran.came) (sym began) c.run_on.ensures.unwritten))

pub returns-clause-untold : goal.returns-clause-untold
returns-clause-untold g c =
    let P = g.P.PagePair in
    let N = g.N.Beginning in
    let r = c.args.request.now in
    let first = c.args.output.now.held in
    let said = c.run_on.new.output.held in
    let ran = c.run_on.result in
    let old = ran.device.device in
    let new = c.conclude.result.device in
    let ended = c.conclude.result.came in
    let to = ran.device.is_due && is_ok ran.came in
    let lent = ap (λ (d : DeferredState g.row.P.Denot). d.device) c.new-device.ensures in
    let began = c.requires.start ∙ ap (start_of P.moment) (sym lent) in
    untold_over P.is_honest P.moment P.left_since P.may_leave N.start N.left c.args.caller r first said
    ran.device.is_due old new ran.came ended (c.run_on.new.output.refused ≡ true) to refl
    c.conclude.ensures c.run_on.ensures.untold

pub returns-clause-synced : goal.returns-clause-synced
returns-clause-synced g c =
    let P = g.P.PagePair in
    let N = g.N.Beginning in
    let r = c.args.request.now in
    let first = c.args.output.now.held in
    let said = c.run_on.new.output.held in
    let ran = c.run_on.result in
    let old = ran.device.device in
    let new = c.conclude.result.device in
    let ended = c.conclude.result.came in
    let to = ran.device.is_due && is_ok ran.came in
    let lent = ap (λ (d : DeferredState g.row.P.Denot). d.device) c.new-device.ensures in
    let began = c.requires.start ∙ ap (start_of P.moment) (sym lent) in
    synced_over P.is_honest P.moment P.left_since P.may_leave N.start N.left c.args.caller r first said
    ran.device.is_due old new ran.came ended to refl c.conclude.ensures
    (λ sure ok. due_of ran.device.is_due ran.came (c.run_on.ensures.synced sure) ok)

pub returns-clause-over : goal.returns-clause-over
returns-clause-over g c =
    let P = g.P.PagePair in
    let N = g.N.Beginning in
    let r = c.args.request.now in
    let first = c.args.output.now.held in
    let said = c.run_on.new.output.held in
    let ran = c.run_on.result in
    let old = ran.device.device in
    let new = c.conclude.result.device in
    let ended = c.conclude.result.came in
    let to = ran.device.is_due && is_ok ran.came in
    let lent = ap (λ (d : DeferredState g.row.P.Denot). d.device) c.new-device.ensures in
    let began = c.requires.start ∙ ap (start_of P.moment) (sym lent) in
    λ sure. subst (λ (s : Start). LeavesBeforeOrAfter P.moment P.left_since P.may_leave N.start.moment N.left s.pages
    (IsFileOfCommand c.args.caller r s.pages (seen first said s.failed new.failed) ended) (is_ok ended ≡ true) new.pair)
    c.requires.start
    (leaves_over P.is_honest P.moment P.left_since P.may_leave N.start N.left c.args.caller r first said
    ran.device.is_due old new ran.came ended to refl c.conclude.ensures
    (λ sure ok. due_of ran.device.is_due ran.came (c.run_on.ensures.synced sure) ok)
    (subst (λ (s : Start). RunsOn c.args.caller r s.pages old.content (seen first said s.failed old.failed) ran.came)
    (sym began) (c.run_on.ensures.honest sure)) sure)
