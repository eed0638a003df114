use Rattle.std.proofs.Common.{subst, List}
use Rattle.schedules.specs.declared.event.Event.{Event}
use Rattle.replays.specs.Replays.{IsReplayed}
use Rattle.replays.proofs.TextLemmas.{is_played, plays_texts}
use Rattle.replays.proofs.texts.replay_on.Goals as goal

-- what both texts spell was played
pub returns-in-Ok-open-clause-played : goal.returns-in-Ok-open-clause-played
returns-in-Ok-open-clause-played g c =
    plays_texts c.args.texts.script.now c.args.texts.schedule.now c.in-Ok.script c.in-Ok-read_schedule.events.items
    _ _ _ c.in-Ok.ensures c.in-Ok-read_schedule.ensures.ok
    (is_played c.in-Ok.script c.in-Ok-read_schedule.events.items _ _ _ c.in-Ok-open.replay c.in-Ok-open.ensures.ok
    (subst (λ (es : List Event). IsReplayed es c.in-Ok-open.replay c.args.output.now c.run.new.output
    (g.D.PageDevice.content c.run.result.device) (g.D.PageDevice.is_synced c.run.result.device)
    c.run.result.is_untold c.run.result.ending)
    c.as_slice.ensures.value c.run.ensures.replayed))
