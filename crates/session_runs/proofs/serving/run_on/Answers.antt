use Rattle.std.proofs.Common.{[], sym, ◌∙◌, subst, inl, inr, append-nil, Bool, IsTrue, Some}
use Rattle.msgq_cli.specs.Outputs.{Prints}
use Rattle.msgq_cli.specs.Runs.{printed}
use Rattle.msgq_cli.specs.declared.ending.Ending.{Ending}
use Rattle.msgq_cli.proofs.OutputLemmas.{Prints-then}
use Rattle.replays.specs.Replays.{EndsWith}
use Rattle.session_runs.proofs.CallLemmas.{failed_where, go_along, kept_along}
use Rattle.session_runs.proofs.ServeLemmas.{ends_as_many, plainly}
use Rattle.session_runs.proofs.SpelledLemmas.{spelled}
use Rattle.session_runs.proofs.serving.run_on.Goals as goal

-- the session that was opened holds the file's system
pub returns-clause-served : goal.returns-clause-served
returns-clause-served g c =
    let on = c.in-Ok.ensures.ok in
    let first = c.in-Ok.session in
    let last = c.run_lines-so_far.new.session in
    let ran = c.run_lines-so_far.ensures in
    let fault = c.end_session-device.result.1 in
    let lines = c.args.script.now.lines in
    let kept = kept_along c.args.script.now.ids 0 lines ran.replies first last ran.takes in
    let still = kept.saved ∙ on.saved in
    inl (record {
      run = record {
        replies = ran.replies;
        told = c.flush.new.self;
        prints = subst (Prints c.args.output.now c.flush.new.self) (append-nil (printed lines ran.replies))
            (Prints-then c.args.output.now c.run_lines-so_far.new.output c.flush.new.self _ [] ran.prints
            c.flush.ensures.same);
        untold = c.has_refused-is_untold.ensures;
        handed = λ taken. c.flush.ensures.handed (sym c.has_refused-is_untold.ensures ∙ taken);
        fault = fault;
        ends = subst (λ (e : Ending). EndsWith fault c.flush.new.self e c.tell_end-ending.new.output
            c.tell_end-ending.result) ran.ends c.tell_end-ending.ensures;
        rules = λ honest.
            let opens = on.opens honest in
            let goes = go_along _ c.args.script.now.ids 0 lines ran.replies first last ran.takes
            (Some opens.system) (record { holds = opens.holds; later = on.later }) in
            record {
              system = opens.system;
              file = opens.file;
              after = goes.after;
              replied = goes.replied;
              ends = c.end_session-device.ensures.ends _ goes.after goes.stands;
              before = λ none.
                  c.end_session-device.ensures.unwritten (inr (failed_where _ last goes.after none goes.stands))
                  ∙ still;
            };
        synced = λ taken none honest. c.end_session-device.ensures.synced taken none
            (subst (λ (b : Bool). IsTrue b) (sym (kept.honest ∙ on.honest_is)) honest);
        pages = λ taken none honest.
            let opens = on.opens honest in
            let goes = go_along _ c.args.script.now.ids 0 lines ran.replies first last ran.takes
            (Some opens.system) (record { holds = opens.holds; later = on.later }) in
            ends_as_many _ _ last _ _ goes.after goes.stands fault
            (c.end_session-device.ensures.ends _ goes.after goes.stands) none
            (λ s holds. c.end_session-device.ensures.pages s holds taken none)
            ∙ kept.many ∙ on.many;
        before = λ away. c.end_session-device.ensures.unwritten (inl away) ∙ still;
      };
      first = first;
      opened = rw c.greatest_seat-seat.ensures at (rw c.caller.ensures at on);
      last = last;
      takes = ran.takes;
      before = λ failed. c.end_session-device.ensures.unwritten (inr failed) ∙ still;
    })

-- it was not opened
pub returns-in-Err-clause-served : goal.returns-in-Err-clause-served
returns-in-Err-clause-served g c =
    let kept = c.in-Err.ensures.err in
    inr (record {
      fault = c.in-Err.fault;
      framed = c.in-Err.ensures.enough;
      cause = c.in-Err.ensures.refused;
      failed = λ is. rw c.unrun.ensures.device (c.in-Err.ensures.cause is);
      leaves = record {
        pages = rw c.unrun.ensures.device kept.0;
        alone = rw c.unrun.ensures.ending c.leave_refused.ensures;
        told = c.unrun.ensures.told;
      };
    })

-- ---- in plain words

pub returns-clause-plain : goal.returns-clause-plain
returns-clause-plain g c = plainly _ _ _ _ (returns-clause-served g c)

pub returns-in-Err-clause-plain : goal.returns-in-Err-clause-plain
returns-in-Err-clause-plain g c = plainly _ _ _ _ (returns-in-Err-clause-served g c)

pub returns-clause-spelled : goal.returns-clause-spelled
returns-clause-spelled g c = spelled _ _ _ _ (returns-clause-plain g c)

pub returns-in-Err-clause-spelled : goal.returns-in-Err-clause-spelled
returns-in-Err-clause-spelled g c = spelled _ _ _ _ (returns-in-Err-clause-plain g c)

-- ---- the device is as honest as it was

pub returns-clause-same : goal.returns-clause-same
returns-clause-same g c =
    let ran = c.run_lines-so_far.ensures in
    let kept = kept_along c.args.script.now.ids 0 c.args.script.now.lines ran.replies c.in-Ok.session
    c.run_lines-so_far.new.session ran.takes in
    c.end_session-device.ensures.same ∙ kept.honest ∙ c.in-Ok.ensures.ok.honest_is
