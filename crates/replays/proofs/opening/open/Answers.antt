use Rattle.std.proofs.Common.{◌∙◌, ap, subst, sym, List}
use Rattle.bucket_page.specs.Pseudokeys.{sha_key}
use Rattle.interleavings.specs.Laws.{RefinesFile}
use Rattle.msgq_cli.specs.declared.line.Line.{Line}
use Rattle.replays.specs.Journal.{IsSoundReplay}
use Rattle.replays.specs.Places.{ProgressState, start}
use Rattle.replays.specs.Replays.{IsOpenedForSeats}
use Rattle.replays.proofs.OpeningLemmas.{opened_led}
use Rattle.replays.proofs.SoundLemmas.{start_sound}
use Rattle.replays.proofs.opening.open.Goals as goal

-- nothing was decided, and no line was begun
pub new-requires-in-Ok-open_kernel : goal.new-requires-in-Ok-open_kernel
new-requires-in-Ok-open_kernel g c =
    let opened = c.in-Ok-open_kernel.ensures.ok in
    subst (λ (p : ProgressState). IsSoundReplay (record { kernel = c.in-Ok-open_kernel.kernel; script = p }))
    (sym c.in-Ok.ensures.ok)
    (start_sound c.in-Ok-open_kernel.kernel c.lines.result.now c.seats_of-seats.result _
    (opened.many ∙ sym c.seats_of-seats.ensures.value) opened.opened.seats opened.opened.journal)

-- it is led from the system whose file an honest device has
pub returns-in-Ok-open_kernel-clause-ok : goal.returns-in-Ok-open_kernel-clause-ok
returns-in-Ok-open_kernel-clause-ok g c =
    let content = g.D.PageDevice.content c.args.device in
    let honest = g.D.PageDevice.is_honest c.args.device in
    let opened = c.in-Ok-open_kernel.ensures.ok in
    let same = sym c.new-in-Ok-open_kernel.ensures.kernel in
    record {
      kernel = subst (IsOpenedForSeats c.args.script.now content honest) same opened;
      led = λ true_to_it. subst (RefinesFile sha_key content) same
          (opened_led c.an_opened_kernel_refines.ensures c.args.script.now content honest c.seats_of-seats.result
          c.in-Ok-open_kernel.kernel c.seats_of-seats.ensures.value c.seats_of-seats.ensures.some
          c.seats_of-seats.ensures.few opened true_to_it (c.in-Ok-open_kernel.ensures.file true_to_it));
      script_is = c.new-in-Ok-open_kernel.ensures.script ∙ c.in-Ok.ensures.ok
          ∙ ap (λ (ls : List Line). start ls c.seats_of-seats.result) c.lines.ensures
          ∙ ap (start c.args.script.now.lines) c.seats_of-seats.ensures.value;
    }
