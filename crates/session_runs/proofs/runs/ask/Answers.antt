use Rattle.std.proofs.Common.{sym, subst, inl, inr, Result}
use Rattle.interleavings.specs.LoneKernelWords.{Answer}
use Rattle.session.specs.Session.{CallsAs}
use Rattle.session.specs.declared.unanswered.Unanswered.{Unanswered}
use Rattle.session_runs.proofs.CallLemmas.{put_off_waits}
use Rattle.session_runs.proofs.runs.ask.Goals as goal

pub returns-then-not-is_put_off : goal.returns-then-not-is_put_off
returns-then-not-is_put_off g c = inl (record {
  rest = c.call_as-told.new.call;
  made = c.call_as-told.ensures;
  over = sym c.if-not-is_put_off.ensures;
})

-- it is made again in the stopped system
pub returns : goal.returns
returns g c = inr (record {
  left = c.call_as-told.new.call;
  waiting = c.call_as-told.new.self;
  waits = subst (λ (r : Result Answer Unanswered). CallsAs c.args.caller c.args.call.now c.call_as-told.new.call r
      c.args.session.now c.call_as-told.new.self)
      (put_off_waits c.call_as-told.result (sym c.if-not-is_put_off.ensures)) c.call_as-told.ensures;
  stopped = c.stop.new.self;
  stops = c.stop.ensures;
  rest = c.call_as.new.call;
  made = c.call_as.ensures;
})
