use Rattle.std.proofs.Common.{◌≡◌, ◌∙◌, [], sym, ap, subst, append-nil, Bool, false, List, None, Option}
use Rattle.bucket_page.specs.declared.pseudokey.ShaKey.{ShaKey}
use Rattle.interleavings.proofs.of_interleaving_core.SparedLemmas.{stored_kept}
use Rattle.interleavings.specs.interleaving_core.Kernel.{KernelState}
use Rattle.msgq_cli.specs.Outputs.{Prints}
use Rattle.msgq_cli.specs.declared.line.Line.{Line}
use Rattle.msgq_cli.specs.declared.reply.Reply.{Reply}
use Rattle.msgq_cli.proofs.OutputLemmas.{Prints-then}
use Rattle.replays.specs.Places.{ProgressState}
use Rattle.replays.specs.Replays.{IsClosedWell, MayEndWith, ending_by, may_write, replies_text}
use Rattle.replays.specs.Rounds.{is_over}
use Rattle.replays.proofs.ClosingLemmas.{answers_plain, left_well, synced_well}
use Rattle.replays.proofs.FreeLemmas.{busy_if_left}
use Rattle.replays.proofs.LeadLemmas.{replay_keeps}
use Rattle.replays.proofs.ending.run.Goals as goal

-- whatever the words, and however many rounds came behind them
pub returns-clause-replayed : goal.returns-clause-replayed
returns-clause-replayed g c =
    let last = c.finish-is_over.new.replay in
    let words = c.args.events.now in
    let plays = c.play_all.ensures in
    let rounds = c.finish-is_over.ensures.rounds in
    let kernel : c.into_parts-kernel.result.0 ≡ last.kernel = c.into_parts-kernel.ensures.kernel in
    let script : c.into_parts-kernel.result.1 ≡ last.script = c.into_parts-kernel.ensures.script in
    let lines : c.lines.result.now ≡ last.script.lines =
    c.lines.ensures ∙ ap (λ (s : ProgressState). s.lines) script in
    let replies : c.replies.result.now ≡ last.script.replies =
    c.replies.ensures ∙ ap (λ (s : ProgressState). s.replies) script in
    let old = c.args.output.now in
    let printed = c.print_replies-so_far.new.output in
    let told = c.flush.new.self in
    let untold = c.has_refused-is_untold.result in
    let over = c.finish-is_over.result in
    let fault = c.end_kernel-device.result.1 in
    let left = g.D.PageDevice.content c.end_kernel-device.result.0 in
    let synced = g.D.PageDevice.is_synced c.end_kernel-device.result.0 in
    let closed : untold ≡ false → fault ≡ None → IsClosedWell last.kernel left synced =
    λ taken none. subst (λ (k : KernelState ShaKey). IsClosedWell k left synced) kernel
    (c.end_kernel-device.ensures.well taken none) in
    let closes : MayEndWith (is_over last) untold last.kernel fault =
    subst (λ (b : Bool). MayEndWith b untold last.kernel fault) c.finish-is_over.ensures.over
    (subst (λ (k : KernelState ShaKey). MayEndWith over untold k fault) kernel
    c.end_kernel-device.ensures.closes) in
    let unwritten : may_write (is_over last) untold last.kernel ≡ false → left ≡ last.kernel.pool.stored =
    λ away. subst (λ (k : KernelState ShaKey). left ≡ k.pool.stored) kernel
    (c.end_kernel-device.ensures.unwritten
    (ap (λ (k : KernelState ShaKey). may_write over untold k) kernel
    ∙ ap (λ (b : Bool). may_write b untold last.kernel) c.finish-is_over.ensures.over ∙ away)) in
    record {
      played = c.play_all.new.self;
      plays = plays;
      last = last;
      rounds = rounds;
      answers = answers_plain c.events_refine.ensures words c.args.replay c.play_all.new.self last plays rounds
          c.is_sound.ensures c.a_refining_kernel_answers_as_plain_lists.ensures;
      told = told;
      so_far = c.print_replies-so_far.result;
      tells = record {
        prints = subst (λ (ls : List Line). Prints old told (replies_text ls last.script.replies)) lines
            (subst (λ (rs : List (Option Reply)). Prints old told (replies_text c.lines.result.now rs)) replies
            (subst (Prints old told) (append-nil (replies_text c.lines.result.now c.replies.result.now))
            (Prints-then old printed told _ [] c.print_replies-so_far.ensures.prints c.flush.ensures.same)));
        ends = c.print_replies-so_far.ensures.ends ∙ ap ending_by replies;
      };
      untold_is = c.has_refused-is_untold.ensures;
      handed = λ taken. c.flush.ensures.handed (sym c.has_refused-is_untold.ensures ∙ taken);
      fault = fault;
      closes = closes;
      stuck = busy_if_left last untold fault c.is_sound.ensures closes;
      well = λ taken none. left_well c.events_refine.ensures words c.args.replay c.play_all.new.self last plays rounds
          c.is_sound.ensures left synced (closed taken none) c.a_refining_kernel_closes_on_its_file.ensures;
      synced = λ taken none. synced_well c.events_refine.ensures words c.args.replay c.play_all.new.self last plays
          rounds c.is_sound.ensures left synced (closed taken none);
      unwritten = unwritten;
      before = λ away roomy. unwritten away
          ∙ stored_kept c.args.replay.kernel.pool last.kernel.pool
          (replay_keeps words c.args.replay c.play_all.new.self last plays rounds).stored roomy;
      ends = c.tell_end-ending.ensures;
    }

-- no event changes whether the device is honest
pub returns-clause-same : goal.returns-clause-same
returns-clause-same g c =
    let last = c.finish-is_over.new.replay in
    let kernel : c.into_parts-kernel.result.0 ≡ last.kernel = c.into_parts-kernel.ensures.kernel in
    c.end_kernel-device.ensures.same ∙ ap (λ (k : KernelState ShaKey). k.pool.honest) kernel
    ∙ (replay_keeps c.args.events.now c.args.replay c.play_all.new.self last c.play_all.ensures
    c.finish-is_over.ensures.rounds).honest
