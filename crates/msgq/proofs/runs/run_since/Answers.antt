-- What the run has come to, once it is concluded.
use Rattle.std.proofs.Common.{ap, refl, subst, Bool, false}
use Rattle.crash_safe_runs.specs.Concluding.{is_to_commit}
use Rattle.msgq.specs.Runs.{RunsSeatsOver}
use Rattle.crash_safe_runs.specs.deferred_sync.Deferred.{DeferredState}
use Rattle.msgq.proofs.OverLemmas.{beside_over}
use Rattle.crash_safe_runs.proofs.ScriptLemmas.{done_to, from_lent, to_device}
use Rattle.msgq.specs.Scripts.{RunsAsOne}
use Rattle.service_runs.specs.Beside.{RunsBesideOn}
use Rattle.replays.specs.Texts.{Effects}
use Rattle.msgq.proofs.runs.run_since.Goals as goal

pub returns-clause-ran : goal.returns-clause-ran
returns-clause-ran g c =
    let P = g.P.PagePair in
    let N = g.N.Beginning in
    let honest = P.is_honest in
    let script = c.args.script.now in
    let old = c.run_on.result.device in
    let new = c.conclude.result.device in
    let first = c.args.output.now in
    let said = c.run_on.new.output in
    let told = c.conclude.new.output in
    let untold = c.run_on.result.is_untold in
    let ending = c.run_on.result.ending in
    let ended = c.conclude.result.ending in
    let lent = c.new-device.result.device in
    let first_effects = done_to lent.content lent.failed first untold old.device.content old.is_due old.device.failed
    said
    in
    let same = ap (λ (d : DeferredState g.row.P.Denot). d.device) c.new-device.ensures in
    to_device P.moment N.start c.args.device new c.requires.start (λ (e : Effects). RunsBesideOn script honest e ended)
    first told untold c.conclude.result.is_untold c.conclude.ensures.untold
    (beside_over honest P.moment P.left_since P.may_leave N.start N.left first untold old.is_due old.device new said
    told
    ending ended script (is_to_commit old.is_due untold ending) refl c.conclude.ensures.concludes
    (from_lent P.moment N.start lent c.args.device c.requires.start same
    (λ (e : Effects). RunsBesideOn script honest e ending) first said untold old.device.content old.is_due
    old.device.failed
    (subst (λ (one : Bool). RunsAsOne one script honest first_effects ending) c.requires.several
    c.run_on.ensures.ran))).runs

pub returns-clause-over : goal.returns-clause-over
returns-clause-over g c =
    let P = g.P.PagePair in
    let N = g.N.Beginning in
    let honest = P.is_honest in
    let script = c.args.script.now in
    let old = c.run_on.result.device in
    let new = c.conclude.result.device in
    let first = c.args.output.now in
    let said = c.run_on.new.output in
    let told = c.conclude.new.output in
    let untold = c.run_on.result.is_untold in
    let ending = c.run_on.result.ending in
    let ended = c.conclude.result.ending in
    let lent = c.new-device.result.device in
    let first_effects = done_to lent.content lent.failed first untold old.device.content old.is_due old.device.failed
    said
    in
    let same = ap (λ (d : DeferredState g.row.P.Denot). d.device) c.new-device.ensures in
    to_device P.moment N.start c.args.device new c.requires.start (λ (e : Effects). RunsSeatsOver honest P.moment
    P.left_since P.may_leave N.start.moment N.left false script e ended new.pair) first told untold
    c.conclude.result.is_untold c.conclude.ensures.untold
    (beside_over honest P.moment P.left_since P.may_leave N.start N.left first untold old.is_due old.device new said
    told
    ending ended script (is_to_commit old.is_due untold ending) refl c.conclude.ensures.concludes
    (from_lent P.moment N.start lent c.args.device c.requires.start same
    (λ (e : Effects). RunsBesideOn script honest e ending) first said untold old.device.content old.is_due
    old.device.failed
    (subst (λ (one : Bool). RunsAsOne one script honest first_effects ending) c.requires.several
    c.run_on.ensures.ran))).over
