use Rattle.std.proofs.Common.{refl}
use Rattle.replays.proofs.SoundLemmas.{stop_sound}
use Rattle.replays.proofs.replay.Replay.stop.Goals as goal

-- no line is told anything
pub invariant_of-self : goal.invariant_of-self
invariant_of-self g c =
    stop_sound (record { kernel = c.self.inside.kernel; script = c.self.inside.script })
    (record { kernel = c.stop.new.self; script = c.self.inside.script }) c.self.invariant
    (record { kernel = c.stop.ensures; script = refl })
