use Rattle.std.proofs.Common.{◌∙◌, ap, sym}
use Rattle.replays.specs.declared.progress.Place.{Place}
use Rattle.replays.proofs.SoundLemmas.{next_sound, step_sound}
use Rattle.replays.proofs.replay.Replay.event.Goals as goal

-- the line under way is told what its seat was
pub invariant_of-self : goal.invariant_of-self
invariant_of-self g c =
    step_sound c.args.seat c.in-Some.line (record { kernel = c.self.inside.kernel; script = c.self.inside.script })
    (record { kernel = c.step_line.new.kernel; script = c.step_line.new.script }) c.self.invariant
    (sym (ap (λ (p : Place). p.under_way) c.place.ensures) ∙ c.in-Some.is) c.step_line.result c.step_line.ensures

-- the next line is begun
pub invariant_of-self-in-None : goal.invariant_of-self-in-None
invariant_of-self-in-None g c =
    next_sound c.args.seat c.begin_next.result
    (record { kernel = c.self.inside.kernel; script = c.self.inside.script })
    (record { kernel = c.begin_next.new.kernel; script = c.begin_next.new.script }) c.self.invariant
    (sym (ap (λ (p : Place). p.under_way) c.place.ensures) ∙ c.in-None.is) c.begin_next.ensures
