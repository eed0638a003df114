-- One event more was played; behind the last one each seat was told its part.
use Rattle.interleavings.proofs.NoRoomLemmas.{tells_no_room}
use Rattle.interleavings.proofs.RunLemmas.{all_played, linearizes, one_more, tells_its_part}
use Rattle.interleavings.proofs.running.run.Goals as goal

pub loop-event-preserved : goal.loop-event-preserved
loop-event-preserved g c = (
  tt,
  tt,
  one_more g.K.PseudoKey.of_key c.args.events.items c.loop-event.yielded _ _ c.loop-event.outcomes.items _
      c.args.kernel.now c.loop-event.kernel c.loop-event.invariant.2 c.in-Some.event _ c.in-Some.ensures.steps.0
      c.play.result _ c.push.new.self.items _ c.play.new.kernel c.play.ensures c.in-Some.ensures.steps.1
      (rw c.unwrap.ensures at c.push.ensures.items) c.push.ensures.capacity,
)

pub returns-clause-told : goal.returns-clause-told
returns-clause-told g c =
    tells_its_part (g.K.PseudoKey.of_key c.args.kernel.now.keys) c.args.events.items c.loop-event.outcomes.items
    c.args.kernel.now c.loop-event.kernel
    (all_played g.K.PseudoKey.of_key c.args.events.items c.loop-event.yielded _ _ c.loop-event.outcomes.items _
    c.args.kernel.now c.loop-event.kernel c.loop-event.invariant.2 c.in-None.ensures.steps.0)

pub returns-clause-headline : goal.returns-clause-headline
returns-clause-headline g c =
    let runs = (all_played g.K.PseudoKey.of_key c.args.events.items c.loop-event.yielded _ _
    c.loop-event.outcomes.items _ c.args.kernel.now c.loop-event.kernel c.loop-event.invariant.2
    c.in-None.ensures.steps.0) in
    record {
      led = λ base led. c.events_refine.ensures (g.K.PseudoKey.of_key c.args.kernel.now.keys) base
          c.args.events.items c.loop-event.outcomes.items c.args.kernel.now c.loop-event.kernel c.requires led
          runs;
      plain = λ base lawful led. c.a_refining_kernel_answers_as_plain_lists.ensures
          (g.K.PseudoKey.of_key c.args.kernel.now.keys) base c.loop-event.kernel lawful
          (c.events_refine.ensures (g.K.PseudoKey.of_key c.args.kernel.now.keys) base c.args.events.items
          c.loop-event.outcomes.items c.args.kernel.now c.loop-event.kernel c.requires led runs);
    }

pub returns-clause-linear : goal.returns-clause-linear
returns-clause-linear g c =
    linearizes (g.K.PseudoKey.of_key c.args.kernel.now.keys) c.args.events.items c.loop-event.outcomes.items
    c.args.kernel.now c.loop-event.kernel
    (all_played g.K.PseudoKey.of_key c.args.events.items c.loop-event.yielded _ _ c.loop-event.outcomes.items _
    c.args.kernel.now c.loop-event.kernel c.loop-event.invariant.2 c.in-None.ensures.steps.0)

pub returns-clause-no_room : goal.returns-clause-no_room
returns-clause-no_room g c =
    tells_no_room c.a_step_does_what_its_seat_is_told.ensures c.steps_refine.ensures c.events_refine.ensures
    (g.K.PseudoKey.of_key c.args.kernel.now.keys) c.args.events.items c.loop-event.outcomes.items c.args.kernel.now
    c.loop-event.kernel c.requires
    (all_played g.K.PseudoKey.of_key c.args.events.items c.loop-event.yielded _ _ c.loop-event.outcomes.items _
    c.args.kernel.now c.loop-event.kernel c.loop-event.invariant.2 c.in-None.ensures.steps.0)
