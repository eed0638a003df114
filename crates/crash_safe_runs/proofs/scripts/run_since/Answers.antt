-- What the run has come to, once it is concluded.
use Rattle.std.proofs.Common.{ap, refl}
use Rattle.deferred_sync.specs.Deferred.{DeferredState}
use Rattle.session_runs.specs.PlainRuns.{RunsPlainly}
use Rattle.session_runs.specs.Serves.{RunsOn}
use Rattle.replays.specs.Texts.{Effects}
use Rattle.crash_safe_runs.specs.Concluding.{is_to_commit}
use Rattle.crash_safe_runs.specs.Scripts.{RunsOver}
use Rattle.crash_safe_runs.proofs.ScriptLemmas.{from_lent, over, plain_over, served_over, to_device}
use Rattle.crash_safe_runs.proofs.scripts.run_since.Goals as goal

pub returns-clause-served : goal.returns-clause-served
returns-clause-served g c =
    let P = g.P.PagePair in
    let N = g.N.Beginning in
    let honest = P.is_honest in
    let script = c.args.script.now in
    let lent = c.new-device.result.device in
    let old = c.run_on.result.device in
    let new = c.conclude.result.device in
    let first = c.args.output.now in
    let said = c.run_on.new.output in
    let told = c.conclude.new.output in
    let untold = c.run_on.result.is_untold in
    let ending = c.run_on.result.ending in
    let ended = c.conclude.result.ending in
    let same = ap (λ (d : DeferredState g.row.P.Denot). d.device) c.new-device.ensures in
    to_device P.moment N.start c.args.device new c.requires.start (λ (e : Effects). RunsOn script honest e ended)
    first told untold
    c.conclude.result.is_untold c.conclude.ensures.untold
    (served_over honest P.moment P.left_since P.may_leave N.start N.left first untold old.is_due old.device new said
    told
    ending ended script (is_to_commit old.is_due untold ending) refl c.conclude.ensures.concludes
    (from_lent P.moment N.start lent c.args.device c.requires.start same (λ (e : Effects). RunsOn script honest e
    ending) first said untold
    old.device.content old.is_due old.device.failed c.run_on.ensures.served))

pub returns-clause-plain : goal.returns-clause-plain
returns-clause-plain g c =
    let P = g.P.PagePair in
    let N = g.N.Beginning in
    let honest = P.is_honest in
    let script = c.args.script.now in
    let lent = c.new-device.result.device in
    let old = c.run_on.result.device in
    let new = c.conclude.result.device in
    let first = c.args.output.now in
    let said = c.run_on.new.output in
    let told = c.conclude.new.output in
    let untold = c.run_on.result.is_untold in
    let ending = c.run_on.result.ending in
    let ended = c.conclude.result.ending in
    let same = ap (λ (d : DeferredState g.row.P.Denot). d.device) c.new-device.ensures in
    to_device P.moment N.start c.args.device new c.requires.start (λ (e : Effects). RunsPlainly script honest e ended)
    first told untold
    c.conclude.result.is_untold c.conclude.ensures.untold
    (plain_over honest P.moment P.left_since P.may_leave N.start N.left first untold old.is_due old.device new said told
    ending ended script (is_to_commit old.is_due untold ending) refl c.conclude.ensures.concludes
    (from_lent P.moment N.start lent c.args.device c.requires.start same (λ (e : Effects). RunsPlainly script honest e
    ending) first said untold
    old.device.content old.is_due old.device.failed c.run_on.ensures.plain))

pub returns-clause-over : goal.returns-clause-over
returns-clause-over g c =
    let P = g.P.PagePair in
    let N = g.N.Beginning in
    let honest = P.is_honest in
    let script = c.args.script.now in
    let lent = c.new-device.result.device in
    let old = c.run_on.result.device in
    let new = c.conclude.result.device in
    let first = c.args.output.now in
    let said = c.run_on.new.output in
    let told = c.conclude.new.output in
    let untold = c.run_on.result.is_untold in
    let ending = c.run_on.result.ending in
    let ended = c.conclude.result.ending in
    let same = ap (λ (d : DeferredState g.row.P.Denot). d.device) c.new-device.ensures in
    to_device P.moment N.start c.args.device new c.requires.start (λ (e : Effects). RunsOver honest P.moment
    P.left_since P.may_leave N.start.moment N.left script e ended new.pair) first told untold
    c.conclude.result.is_untold c.conclude.ensures.untold
    (over honest P.moment P.left_since P.may_leave N.start N.left first untold old.is_due old.device new said told
    ending ended script (is_to_commit old.is_due untold ending) refl c.conclude.ensures.concludes
    (from_lent P.moment N.start lent c.args.device c.requires.start same (λ (e : Effects). RunsPlainly script honest e
    ending) first said untold
    old.device.content old.is_due old.device.failed c.run_on.ensures.plain))
