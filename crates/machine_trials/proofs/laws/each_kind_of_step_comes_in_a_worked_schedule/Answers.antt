use Rattle.machine_trials.proofs.ScheduleLemmas.{all_kinds_come}
use Rattle.machine_trials.proofs.laws.each_kind_of_step_comes_in_a_worked_schedule.Goals as goal

pub returns : goal.returns
returns c = all_kinds_come
