use Rattle.std.proofs.Common.{rules, ◌≡◌, ◌<◌, ◌++◌, ◌∷◌, [], length, take, take_all, get_or, ◌+◌, ap, subst, ◌∙◌, arith}
use Rattle.std.proofs.lemmas.List.{take_more}
use Rattle.interleavings.specs.LoneKernelWords.{Caller}
use Rattle.session_runs.specs.Taking.{TakesCommand}
use Rattle.session_runs.proofs.RunLemmas.{HasRun-start, HasRun-push}
use Rattle.session_runs.proofs.runs.run_lines.Goals as goal

pub loop-line-init : goal.loop-line-init
loop-line-init g c = record {
  run = HasRun-start c.args.script.now.ids c.args.session.now c.args.output.now;
  few = omega arith;
}

-- the next line was made, and its reply printed
pub loop-line-preserved : goal.loop-line-preserved
loop-line-preserved g c =
    let lines = c.lines-line-items.result.now in
    let i = c.loop-line.line-index in
    let line = c.line-item.result in
    let below : i < length lines = search rules in
    let same : get_or lines i line ≡ line = search rules in
    let more : take (i + 1) lines ≡ take i lines ++ line ∷ [] =
    take_more lines i line below ∙ ap (λ l. take i lines ++ l ∷ []) same in
    let before = c.loop-line.invariant in
    let so_far = before.few in
    let one = c.decided_by-answered.ensures.few in
    record {
      run = rw more
          (HasRun-push c.args.script.now.ids (take i lines) c.args.session.now c.loop-line.session
          c.reply-reply.new.session c.args.output.now c.loop-line.output c.print.new.output c.loop-line.ending
          c.after-ending.result line c.reply-reply.result c.loop-line.answered c.decided_by-answered.result before.run
          (subst (λ (who : Caller). TakesCommand c.loop-line.answered who line.command c.reply-reply.result
          c.loop-line.session c.reply-reply.new.session) c.caller.ensures c.reply-reply.ensures)
          c.decided_by-answered.ensures.value c.print.ensures c.after-ending.ensures);
      few = omega (arith, so_far, one);
    }

-- all lines were
pub returns : goal.returns
returns g c =
    let all = take_all c.loop-line.line-index c.lines-line-items.result.now (search rules) in
    rw (all, c.lines-line-items.ensures) at c.loop-line.invariant.run.ran
