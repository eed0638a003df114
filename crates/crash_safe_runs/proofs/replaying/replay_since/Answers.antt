-- What the replay has come to, once it is concluded.
use Rattle.std.proofs.Common.{ap, refl}
use Rattle.deferred_sync.specs.Deferred.{DeferredState}
use Rattle.replays.specs.Texts.{Effects, PlaysTexts}
use Rattle.crash_safe_runs.specs.Concluding.{is_to_commit}
use Rattle.crash_safe_runs.specs.Replays.{ReplaysOver}
use Rattle.crash_safe_runs.proofs.ReplayLemmas.{texts_over}
use Rattle.crash_safe_runs.proofs.ScriptLemmas.{from_lent, to_device}
use Rattle.crash_safe_runs.proofs.replaying.replay_since.Goals as goal

pub returns-clause-played : goal.returns-clause-played
returns-clause-played g c =
    let P = g.P.PagePair in
    let N = g.N.Beginning in
    let honest = P.is_honest in
    let text = c.args.texts.script.now in
    let words = c.args.texts.schedule.now in
    let old = c.replay_on.result.device in
    let new = c.conclude.result.device in
    let first = c.args.output.now in
    let said = c.replay_on.new.output in
    let told = c.conclude.new.output in
    let untold = c.replay_on.result.is_untold in
    let ending = c.replay_on.result.ending in
    let ended = c.conclude.result.ending in
    let same = ap (λ (d : DeferredState g.row.P.Denot). d.device) c.new-device.ensures in
    to_device P.moment N.start c.args.device new c.requires.start (λ (e : Effects). PlaysTexts text words honest e
    ended)
    first told untold c.conclude.result.is_untold c.conclude.ensures.untold
    (texts_over honest P.moment P.left_since P.may_leave N.start N.left first untold old.is_due old.device new said told
    ending ended text words (is_to_commit old.is_due untold ending) refl c.conclude.ensures.concludes
    (from_lent P.moment N.start c.new-device.result.device c.args.device c.requires.start same
    (λ (e : Effects). PlaysTexts text words honest e ending) first said untold old.device.content old.is_due
    old.device.failed c.replay_on.ensures.played)).plays

pub returns-clause-over : goal.returns-clause-over
returns-clause-over g c =
    let P = g.P.PagePair in
    let N = g.N.Beginning in
    let honest = P.is_honest in
    let text = c.args.texts.script.now in
    let words = c.args.texts.schedule.now in
    let old = c.replay_on.result.device in
    let new = c.conclude.result.device in
    let first = c.args.output.now in
    let said = c.replay_on.new.output in
    let told = c.conclude.new.output in
    let untold = c.replay_on.result.is_untold in
    let ending = c.replay_on.result.ending in
    let ended = c.conclude.result.ending in
    let same = ap (λ (d : DeferredState g.row.P.Denot). d.device) c.new-device.ensures in
    to_device P.moment N.start c.args.device new c.requires.start (λ (e : Effects). ReplaysOver honest P.moment
    P.left_since P.may_leave N.start.moment N.left text words e ended new.pair) first told untold
    c.conclude.result.is_untold c.conclude.ensures.untold
    (texts_over honest P.moment P.left_since P.may_leave N.start N.left first untold old.is_due old.device new said told
    ending ended text words (is_to_commit old.is_due untold ending) refl c.conclude.ensures.concludes
    (from_lent P.moment N.start c.new-device.result.device c.args.device c.requires.start same
    (λ (e : Effects). PlaysTexts text words honest e ending) first said untold old.device.content old.is_due
    old.device.failed c.replay_on.ensures.played)).over
