use Rattle.step_rules.proofs.ScheduleLemmas.{schedules_keep_sound, schedules_keep_knowledge}
use Rattle.step_rules.proofs.laws.every_schedule_keeps_what_is_known.Goals as goal

pub returns : goal.returns
returns c = record {
  sound = λ hash moves old new sound leads. schedules_keep_sound hash moves old new sound leads;
  known = λ hash moves old new i fact sound leads still h.
      schedules_keep_knowledge hash moves old new i fact sound leads still h;
}
