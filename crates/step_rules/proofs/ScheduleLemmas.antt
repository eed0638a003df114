-- Schedules of turns: what is kept from each to the next is kept by all.
use Rattle.std.proofs.Common.{ℕ, [], ◌∷◌, List, sym, subst}
use Rattle.bucket_page.specs.declared.record_key.RecordKey.{RecordKey}
use Rattle.step_rules.specs.World.{World}
use Rattle.step_rules.specs.Sound.{IsSoundWorld}
use Rattle.step_rules.specs.Known.{Known, IsKnown}
use Rattle.step_rules.specs.Laws.{Move, LeadAlong, StandsStill}
use Rattle.step_rules.proofs.KnownLemmas.{IsKnown-kept}
use Rattle.step_rules.proofs.TurnLemmas.{turn_keeps}

pub schedules_keep_sound : (hash : RecordKey → ℕ) (moves : List Move) (old new : World) → IsSoundWorld hash old →
    LeadAlong hash moves old new → IsSoundWorld hash new
schedules_keep_sound hash [] old new sound is = subst (IsSoundWorld hash) (sym is) sound
schedules_keep_sound hash (move ∷ moves) old new sound (next, does, rest) =
    schedules_keep_sound hash moves next new (turn_keeps move.kind hash move.turn move.seat old next sound
    does).sound rest

pub schedules_keep_knowledge : (hash : RecordKey → ℕ) (moves : List Move) (old new : World) (i : ℕ) (fact : Known) →
    IsSoundWorld hash old → LeadAlong hash moves old new → StandsStill i moves → IsKnown i old fact → IsKnown i new fact
schedules_keep_knowledge hash [] old new i fact sound is still h = subst (λ (w : World). IsKnown i w fact) (sym is) h
schedules_keep_knowledge hash (move ∷ moves) old new i fact sound (next, does, rest) still h =
    let keeps = turn_keeps move.kind hash move.turn move.seat old next sound does in
    schedules_keep_knowledge hash moves next new i fact keeps.sound rest still.1
    (IsKnown-kept hash i move.seat old next still.0 sound keeps.leaves fact h)
